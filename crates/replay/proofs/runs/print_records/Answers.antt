use Rattle.std.proofs.Common.{◌∷◌, [], length-append, arith}
use Rattle.text.proofs.FourLaws.{fours_begin, four_given}
use Rattle.replay.proofs.TranscriptLaws.{no_record, record_printed, record_passed}
use Rattle.replay.proofs.runs.print_records.Goals as goal

pub loop-record-init : goal.loop-record-init
loop-record-init g c =
    let made = c.chunks_exact-record-items.ensures in
    (fours_begin _ _ _ c.into_iter-record-iterator.ensures.into_iter_gives made.size made.rest, no_record _ _ _)

pub loop-record-preserved-then-record-place : goal.loop-record-preserved-then-record-place
loop-record-preserved-then-record-place g c =
    let l = c.loop-record in
    let next = four_given _ _ _ _ c.in-Some.record l.invariant.0 c.in-Some.ensures.steps in
    rw (length-append l.yielded (c.in-Some.record ∷ []))
    (next.1, record_passed _ _ _ _ _ _ next.0 c.if-record-place.true l.invariant.1)

pub loop-record-preserved : goal.loop-record-preserved
loop-record-preserved g c =
    let l = c.loop-record in
    let steps = c.in-Some.ensures.steps in
    let next = four_given _ _ _ _ c.in-Some.record l.invariant.0 steps in
    rw (length-append l.yielded (c.in-Some.record ∷ []))
    (next.1, record_printed _ _ _ _ _ _ _ next.0 c.if-record-place.false l.invariant.1 (c.in_ok-print_line.ensures (omega (arith, steps.1.1, l.invariant.0.fours))))
