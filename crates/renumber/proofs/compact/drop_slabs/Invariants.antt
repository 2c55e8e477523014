-- After so many turns the slots below have been passed, and all still fit.
use mathlib.Core.Path.{◌≡◌}
use Rattle.renumber.specs.Compact.{slabs_dropped}
use Rattle.renumber.proofs.compact.drop_slabs.Given as goal

abbrev pub invariant-loop-slot : goal.invariant-loop-slot
invariant-loop-slot l = l.slots ≡ slabs_dropped l.initial.slots l.slot
