-- After some records the lines of those among them are put that name the place.
use Rattle.std.proofs.Common.{length}
use Rattle.text.specs.Lines.{record_lines}
use Rattle.text.specs.Parts.{Put}
use Rattle.text.proofs.FourLaws.{FoursGiven}
use Rattle.text.proofs.output.put_records.Given as goal

abbrev pub invariant-loop-record : goal.invariant-loop-record
invariant-loop-record l = record {
  given : FoursGiven l.log (length l.yielded) l.record-iterator;
  wrote : Put (record_lines l.log l.place (length l.yielded)) l.initial.out l.from l.out l.at;
}
