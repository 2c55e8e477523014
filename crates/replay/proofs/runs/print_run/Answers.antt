use Rattle.std.proofs.Common.{◌≡◌, ◌+◌, ◌∷◌, [], length, length-append, arith, ap, ◌∙◌}
use Rattle.std.specs.Iterator.Adapters.{zip_first, zip_second}
use Rattle.text.proofs.FourLaws.{fours_begin, four_given}
use Rattle.replay.proofs.TranscriptLaws.{no_call, call_printed, run_end}
use Rattle.replay.proofs.runs.print_run.Goals as goal

pub loop-place-init : goal.loop-place-init
loop-place-init g c =
    let same = c.into_iter-place-iterator.ensures.into_iter_gives in
    let all = c.zip-place-items.ensures in
    let each = c.zip-each.ensures in
    let pairs = ap zip_second same ∙ all.second in
    let calls = c.chunks_exact.ensures in
    let answers = c.chunks_exact-2.ensures in (
      rw (same, all.first),
      fours_begin _ _ _ (ap zip_first pairs ∙ each.first) calls.size calls.rest,
      fours_begin _ _ _ (ap zip_second pairs ∙ each.second) answers.size answers.rest,
      no_call _ _ _ _,
    )

pub loop-place-preserved : goal.loop-place-preserved
loop-place-preserved g c =
    let l = c.loop-place in
    let steps = c.in-Some.ensures.steps in
    let counted : (zip_first c.next.new.self).start ≡ length l.yielded + 1 = omega (arith, steps.0.0, steps.0.1, l.invariant.0) in
    let call = four_given _ _ _ _ c.in-Some.call l.invariant.1 steps.1.0 in
    let answer = four_given _ _ _ _ c.in-Some.answer l.invariant.2 steps.1.1 in
    rw (length-append l.yielded ((c.in-Some.place, (c.in-Some.call, c.in-Some.answer)) ∷ [])) (
      counted,
      call.1,
      answer.1,
      call_printed _ _ _ _ _ _ _ _ _ _ _ _ (steps.0.0 ∙ l.invariant.0) call.0 answer.0 l.invariant.3
          (c.in_ok-print_line.ensures (omega (arith, steps.1.0.1.1, l.invariant.1.fours)))
          (c.in_ok-print_line-2.ensures (omega arith))
          c.in_ok-print_records.ensures,
    )

pub returns : goal.returns
returns g c = λ few.
    let l = c.loop-place in
    rw (run_end _ _ _ _ _ _ _ l.invariant.1 l.invariant.2 few (omega arith) (λ full. omega (arith, full.1.0, l.invariant.0, l.invariant.2.within)) c.in-None.ensures.steps)
    l.invariant.3
