use Rattle.std.proofs.Common.{◌≡◌, ℕ, ◌∙◌, [], ◌∷◌, ap, arith, length, length-append}
use Rattle.std.specs.Iterator.Adapters.{zip_second}
use Rattle.text.specs.Lines.{run_lines}
use Rattle.text.proofs.FourLaws.{fours_begin, four_given, fours_all}
use Rattle.text.proofs.OutputLaws.{put_nothing, put_more, put_front, answer_put, run_more, written_lines}
use Rattle.text.proofs.SizeLaws.{answer_room, records_fit, run_fits}
use Rattle.text.proofs.output.put_run.Goals as goal

pub loop-place-init : goal.loop-place-init
unfolding run_lines
loop-place-init c =
    let same = c.into_iter-place-iterator.ensures.into_iter_gives in
    let all = c.zip-place-items.ensures in
    let made = c.chunks_exact.ensures in
    record {
      counted = rw (same, all.first);
      last = rw (same, all.first);
      within = omega arith;
      given = fours_begin _ _ _ (ap zip_second same ∙ all.second) made.size made.rest;
      wrote = put_nothing _ _;
    }

pub put_at-next-requires : goal.put_at-next-requires
put_at-next-requires c =
    let a = c.args in
    let l = c.loop-place in
    let r = c.requires in
    let steps = c.in-Some.ensures.steps in
    let here : c.in-Some.place ≡ length l.yielded = omega (arith, steps.0, l.invariant.counted) in
    let next = four_given a.answers.now (length l.yielded) (zip_second l.place-iterator) (zip_second c.next.new.self) c.in-Some.answer l.invariant.given steps.1 in
    let wrote : l.at ≡ length (run_lines a.answers.now a.log.now a.records c.in-Some.place) = rw here (omega (arith, l.invariant.wrote.counted)) in (
      omega (arith, wrote, answer_room a.answers.now a.log.now c.in-Some.answer.now a.records a.n c.in-Some.place (rw here next.0) (omega (arith, steps.0, l.invariant.last)) r.n_bound.0 r.records_bound.0),
      omega arith,
    )

pub put_records-at-requires : goal.put_records-at-requires
put_records-at-requires c =
    let a = c.args in
    let l = c.loop-place in
    let r = c.requires in
    let steps = c.in-Some.ensures.steps in
    let place : ℕ = c.in-Some.place in
    let here : place ≡ length l.yielded = omega (arith, steps.0, l.invariant.counted) in
    let next = four_given a.answers.now (length l.yielded) (zip_second l.place-iterator) (zip_second c.next.new.self) c.in-Some.answer l.invariant.given steps.1 in
    let wrote : l.at ≡ length (run_lines a.answers.now a.log.now a.records place) = rw here (omega (arith, l.invariant.wrote.counted)) in
    let line = ap length (answer_put a.answers.now c.in-Some.answer.now place (rw here next.0)) in
    rw (written_lines a.log.now place a.records r.records_bound.1)
    (omega (arith, wrote, c.put_at-next.ensures.counted, line, records_fit a.answers.now a.log.now a.records a.n place (omega (arith, steps.0, l.invariant.last)) r.n_bound.0 r.records_bound.0))

pub loop-place-preserved : goal.loop-place-preserved
loop-place-preserved c =
    let a = c.args in
    let l = c.loop-place in
    let i : ℕ = length l.yielded in
    let steps = c.in-Some.ensures.steps in
    let here : c.in-Some.place ≡ i = omega (arith, steps.0, l.invariant.counted) in
    let next = four_given a.answers.now i (zip_second l.place-iterator) (zip_second c.next.new.self) c.in-Some.answer l.invariant.given steps.1 in
    let line = answer_put a.answers.now c.in-Some.answer.now i next.0 in
    let more = length-append l.yielded ((c.in-Some.place, c.in-Some.answer) ∷ []) in
    let records = rw (here, written_lines a.log.now i a.records c.requires.records_bound.1) at c.put_records-at.ensures in
    record {
      counted = rw more (omega (arith, steps.0, l.invariant.counted));
      last = steps.0.0 ∙ l.invariant.last;
      within = rw more (omega (arith, steps.0, l.invariant.counted, l.invariant.last));
      given = rw more next.1;
      wrote = rw (more, run_more) (put_more _ _ _ _ _ _ _ _ (put_more _ _ _ _ _ _ _ _ l.invariant.wrote (rw (here, line) at c.put_at-next.ensures)) records);
    }

pub returns : goal.returns
returns c =
    let a = c.args in
    let l = c.loop-place in
    let all : length l.yielded ≡ a.n
    = fours_all _ _ _ _ _ l.invariant.given c.requires.n_bound.1 l.invariant.within (λ done. omega (arith, done.1.0, l.invariant.counted, l.invariant.last)) c.in-None.ensures.steps in
    put_front _ _ _ _ (omega (arith, run_fits a.answers.now a.log.now a.records a.n c.requires.n_bound.0 c.requires.records_bound.0)) (rw all at l.invariant.wrote)
