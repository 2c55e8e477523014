-- `held_slabs` claims the slabs of all live slots, slot by slot: those of the slots that the loop has passed are claimed.
use Rattle.audit.proofs.HeldLaws.{HeldSoFar}
use Rattle.audit.proofs.ports.held_slabs.Given as goal

abbrev pub invariant-loop-node : goal.invariant-loop-node
invariant-loop-node l = HeldSoFar l.view.slots.now l.view.links.now l.view.owners.now l.fn.counters.portmark l.scratch l.ports l.node
