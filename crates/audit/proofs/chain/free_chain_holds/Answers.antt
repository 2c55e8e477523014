-- `free_chain_holds` decides rule 3 and the count of nodes: as many slots are on the chain as are not live.
use Rattle.edits.proofs.CountLaws.{live_slots_le}
use Rattle.audit.proofs.chain.free_chain_holds.Goals as goal

pub overflow_sub-counters : goal.overflow_sub-counters
overflow_sub-counters c =
    let a = c.args in
    rw c.live_slots-live.ensures (live_slots_le a.slots.now a.counters.nodemark)
