-- The lines so far are those of the calls so far, and the next place and the next answer are the next call's.
use Rattle.std.proofs.Common.{◌≡◌, ◌≤◌, length}
use Rattle.std.specs.Iterator.Adapters.{zip_first, zip_second}
use Rattle.text.specs.Lines.{run_lines}
use Rattle.text.specs.Parts.{Put}
use Rattle.text.proofs.FourLaws.{FoursGiven}
use Rattle.text.proofs.output.put_run.Given as goal

abbrev pub invariant-loop-place : goal.invariant-loop-place
invariant-loop-place l = record {
  counted : (zip_first l.place-iterator).start ≡ length l.yielded;
  last : (zip_first l.place-iterator).end ≡ l.n;
  within : length l.yielded ≤ l.n;
  given : FoursGiven l.answers (length l.yielded) (zip_second l.place-iterator);
  wrote : Put (run_lines l.answers l.log l.records (length l.yielded)) l.initial.out 0 l.out l.at;
}
