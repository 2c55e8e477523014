-- `free_slabs` claims the free slabs of all sizes, chain by chain: those of the sizes that the loop has passed are claimed.
use Rattle.audit.proofs.FreeLaws.{FreeSoFar}
use Rattle.audit.proofs.ports.free_slabs.Given as goal

abbrev pub invariant-loop-index : goal.invariant-loop-index
invariant-loop-index l = FreeSoFar l.view.links.now l.view.owners.now l.view.heads.now l.initial.scratch l.mark l.scratch l.ports l.index
