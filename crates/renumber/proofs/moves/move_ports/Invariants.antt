-- After i turns the words are those of i moves, which keep the table's length and stay inside.
use mathlib.Core.Path.{◌≡◌}
use Rattle.renumber.specs.Moves.{moved_run}
use Rattle.renumber.proofs.moves.move_ports.Given as goal

abbrev pub invariant-loop-i : goal.invariant-loop-i
invariant-loop-i l = l.links ≡ moved_run l.initial.links l.run l.i
