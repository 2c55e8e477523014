-- After i turns i places hold the word, and each turn is the definition's next step.
use Rattle.std.proofs.Common.{◌≡◌}
use Rattle.slabs.specs.Slab.{filled}
use Rattle.slabs.proofs.slab.fill.Given as goal

abbrev pub invariant-loop-i : goal.invariant-loop-i
invariant-loop-i l = l.table ≡ filled l.initial.table l.first l.i l.word
