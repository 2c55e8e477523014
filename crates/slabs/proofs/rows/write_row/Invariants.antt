-- The words so far are copied.
use Rattle.std.proofs.Common.{◌≡◌, take}
use Rattle.slabs.proofs.rows.write_row.Given as goal

abbrev pub invariant-loop-k : goal.invariant-loop-k
invariant-loop-k g l = take l.k l.place ≡ take l.k l.words
