-- Each turn takes a line from the text, and leaves the tables the ones that were lent.
use Rattle.std.proofs.Common.{length}
use Rattle.edits.specs.Store.{SameMemory}
use Rattle.replay.proofs.sessions.replay.Given as goal

abbrev pub invariant-loop-line : goal.invariant-loop-line
invariant-loop-line g l = SameMemory l.initial.tables l.tables

abbrev pub decreases-loop-line : goal.decreases-loop-line
decreases-loop-line g l = length l.rest
