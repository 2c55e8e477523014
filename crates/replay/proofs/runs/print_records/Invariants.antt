-- After some records the lines of those among them are printed that name the place.
use Rattle.std.proofs.Common.{length}
use Rattle.std.specs.Io.KnownBytes.{Appends}
use Rattle.text.specs.Lines.{record_lines}
use Rattle.text.proofs.FourLaws.{FoursGiven}
use Rattle.replay.proofs.runs.print_records.Given as goal

abbrev pub invariant-loop-record : goal.invariant-loop-record
invariant-loop-record g l =
    FoursGiven l.log (length l.yielded) l.record-iterator
    × Appends (g.W.Write.contents l.initial.output) (g.W.Write.contents l.output) (record_lines l.log l.place (length l.yielded))
