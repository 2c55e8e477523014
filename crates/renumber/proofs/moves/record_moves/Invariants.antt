-- After i turns the log holds the first i records of the run, and each turn writes the next.
use Prim.Native.Nat.{ℕ, ◌+◌}
use mathlib.Core.Path.{◌≡◌}
use Rattle.renumber.specs.Records.{Rec, rec, logged, listed, later, SameLog}
use Rattle.renumber.specs.Moves.{turn}
use Rattle.renumber.specs.declared.moves.Run.{Run}
use Rattle.renumber.proofs.moves.record_moves.Given as goal

-- the record of turn i
abbrev pub move_at : Run → ℕ → Rec
move_at run i = rec 3 (run.from + turn run i) (run.to + turn run i)

abbrev pub invariant-loop-i : goal.invariant-loop-i
invariant-loop-i l =
    record {
      memory : SameLog l.initial.log l.log;
      words : l.log.words.now ≡ logged l.initial.log.words.now l.initial.log.to.at l.initial.log.to.place (listed (move_at l.run) l.i);
      next : l.log.to ≡ later l.initial.log.to l.i;
    }
