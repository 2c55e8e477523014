-- After some calls the transcript of these is printed.
use Rattle.std.proofs.Common.{◌≡◌, length}
use Rattle.std.specs.Io.KnownBytes.{Appends}
use Rattle.std.specs.Iterator.Adapters.{zip_first, zip_second}
use Rattle.replay.specs.Transcript.{transcript}
use Rattle.text.proofs.FourLaws.{FoursGiven}
use Rattle.replay.proofs.runs.print_run.Given as goal

abbrev pub invariant-loop-place : goal.invariant-loop-place
invariant-loop-place g l =
    ((zip_first l.place-iterator).start ≡ length l.yielded)
    × FoursGiven l.calls (length l.yielded) (zip_first (zip_second l.place-iterator))
    × FoursGiven l.answers (length l.yielded) (zip_second (zip_second l.place-iterator))
    × Appends (g.W.Write.contents l.initial.output) (g.W.Write.contents l.output) (transcript l.calls l.answers l.log (length l.yielded))
