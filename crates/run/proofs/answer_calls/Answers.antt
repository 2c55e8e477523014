use mathlib.Core.Path.{◌∙◌}
use native.Mathlib.Omega.{arith}
use Rattle.run.specs.Run.{CanAnswer}
use Rattle.run.proofs.Steps.{stands_next, stands_fit, stands_room}
use Rattle.run.proofs.answer_calls.Goals as goal

pub dispatch-done-requires : goal.dispatch-done-requires
dispatch-done-requires c =
    (stands_fit c.loop-place.invariant.stands c.requires, stands_room c.loop-place.invariant.stands c.requires)

pub loop-place-preserved : goal.loop-place-preserved
loop-place-preserved c =
    let before = c.loop-place.invariant in
    let same = c.dispatch-done.ensures.memory.0 in
    record {
      memory = record { slots = same.slots ∙ before.memory.slots; links = same.links ∙ before.memory.links; owners = same.owners ∙ before.memory.owners; heads = same.heads ∙ before.memory.heads };
      recorded = c.dispatch-done.ensures.memory.1 ∙ before.recorded;
      stands = stands_next before.stands (omega (arith, c.loop-place-test.true, c.requires.whole_calls)) c.read_call-call.ensures c.dispatch-done.ensures.call c.from.ensures c.write_answer.ensures;
    }

pub overflow_cast-result : goal.overflow_cast-result
overflow_cast-result c =
    let can : CanAnswer _ _ _ _ = c.requires in
    omega (arith, stands_room c.loop-place.invariant.stands can, can.few_records)
