-- The words so far are copied.
use Rattle.std.proofs.Common.{◌≡◌, length, take}
use Rattle.slabs.proofs.rows.read_row.Given as goal

abbrev pub invariant-loop-i : goal.invariant-loop-i
invariant-loop-i g l = record {
  whole : length l.words ≡ length l.held;
  copied : take l.i l.words ≡ take l.i l.held;
}
