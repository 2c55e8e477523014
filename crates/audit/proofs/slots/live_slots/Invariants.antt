-- `live_slots` counts the live slots below the mark: the loop has counted those that it has passed.
use Rattle.std.proofs.Common.{◌≡◌}
use Rattle.edits.specs.Counts.{live_slots}
use Rattle.audit.proofs.slots.live_slots.Given as goal

abbrev pub invariant-loop-k : goal.invariant-loop-k
invariant-loop-k l = l.live ≡ live_slots l.slots.words.now l.k
