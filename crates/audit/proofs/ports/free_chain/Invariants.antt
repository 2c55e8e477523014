-- `free_chain` claims the free slabs of one size along their chain: those that the walk has passed are claimed.
use Prim.Native.Nat.{◌-◌}
use Rattle.audit.proofs.FreeLaws.{Walked}
use Rattle.audit.proofs.ports.free_chain.Given as goal

abbrev pub invariant-loop-word : goal.invariant-loop-word
invariant-loop-word l = Walked l.below.links.now l.below.owners.now l.initial.scratch l.below.mark l.head l.size l.scratch l.ports l.word

abbrev pub decreases-loop-word : goal.decreases-loop-word
decreases-loop-word l = l.below.mark - l.ports
