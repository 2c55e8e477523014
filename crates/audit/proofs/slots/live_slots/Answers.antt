use mathlib.Core.Path.{refl}
use native.Mathlib.Omega.{arith}
use native.Mathlib.Numerals.{add-one}
use Rattle.slabs.specs.Sums.{sum}
use Rattle.slabs.specs.NodeEntry.{slot_word}
use Rattle.edits.specs.Counts.{live_slots}
use Rattle.edits.proofs.CountLaws.{live_slots_le}
use Rattle.audit.proofs.CountLaws.{some_none, some_one, live_slots_suc}
use Rattle.audit.proofs.slots.live_slots.Goals as goal
use Rattle.audit.proofs.slots.live_slots.Goals.{then-slots-k-ne0, else-slots-k-ne0}

pub loop-k-init : goal.loop-k-init
unfolding live_slots sum
loop-k-init c = refl

pub overflow_add-live : goal.overflow_add-live
overflow_add-live c =
    let l = c.loop-k in
    omega (arith, live_slots_le c.args.slots.words.now l.k)

pub loop-k-preserved : goal.loop-k-preserved
loop-k-preserved c =
    let l = c.loop-k in
    let slots = c.args.slots.words.now in
    rw (add-one, live_slots_suc)
    (elim c.if-slots-k-ne0.branch [
      | then-slots-k-ne0 w ↦ omega (arith, some_one (slot_word slots l.k 1) w.if-slots-k-ne0.true)
      | else-slots-k-ne0 w ↦ omega (arith, some_none (slot_word slots l.k 1) w.if-slots-k-ne0.false)
    ])
