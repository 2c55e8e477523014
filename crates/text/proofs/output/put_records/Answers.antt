use Rattle.std.proofs.Common.{◌/◌, [], ◌∷◌, ap, arith, length, length-append}
use Rattle.text.specs.Lines.{record_lines}
use Rattle.text.proofs.FourLaws.{fours_begin, four_given}
use Rattle.text.proofs.OutputLaws.{put_nothing, put_more, record_put, record_passed, record_room}
use Rattle.text.proofs.output.put_records.Goals as goal

pub loop-record-init : goal.loop-record-init
unfolding record_lines
loop-record-init c =
    let made = c.chunks_exact-record-items.ensures in
    record {
      given = fours_begin _ _ _ c.into_iter-record-iterator.ensures.into_iter_gives made.size made.rest;
      wrote = put_nothing _ _;
    }

pub put_at-at-requires : goal.put_at-at-requires
put_at-at-requires c =
    let a = c.args in
    let l = c.loop-record in
    let next = four_given a.log.now (length l.yielded) l.record-iterator c.next.new.self c.in-Some.record l.invariant.given c.in-Some.ensures.steps in (
      omega (arith, c.requires, l.invariant.wrote.counted, record_room a.log.now c.in-Some.record.now a.place (length l.yielded) (length a.log.now / 4) next.0 c.if-record-place.false (omega (arith, next.1.within))),
      omega (arith, ap length next.0),
    )

pub loop-record-preserved : goal.loop-record-preserved
loop-record-preserved c =
    let a = c.args in
    let l = c.loop-record in
    let next = four_given a.log.now (length l.yielded) l.record-iterator c.next.new.self c.in-Some.record l.invariant.given c.in-Some.ensures.steps in
    let more = length-append l.yielded (c.in-Some.record ∷ []) in
    record {
      given = rw more next.1;
      wrote =
          rw (more, ← record_put a.log.now c.in-Some.record.now [] a.place (length l.yielded) next.0 c.if-record-place.false)
          (put_more _ _ _ _ _ _ _ _ l.invariant.wrote c.put_at-at.ensures);
    }

pub loop-record-preserved-then-record-place : goal.loop-record-preserved-then-record-place
loop-record-preserved-then-record-place c =
    let a = c.args in
    let l = c.loop-record in
    let next = four_given a.log.now (length l.yielded) l.record-iterator c.next.new.self c.in-Some.record l.invariant.given c.in-Some.ensures.steps in
    let more = length-append l.yielded (c.in-Some.record ∷ []) in
    record {
      given = rw more next.1;
      wrote = rw (more, ← record_passed a.log.now c.in-Some.record.now a.place (length l.yielded) next.0 c.if-record-place.true) l.invariant.wrote;
    }
