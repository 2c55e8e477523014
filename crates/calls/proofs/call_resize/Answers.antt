-- A resize that is answered with done, of a step with other counts, can be done.
use mathlib.Core.Path.{sym, ◌∙◌}
use Rattle.edits.proofs.StoreLaws.{live_found}
use Rattle.calls.proofs.RoomLaws.{can_change}
use Rattle.calls.proofs.call_resize.Goals as goal

pub resize-requires : goal.resize-requires
resize-requires c =
    let v = c.view-view.ensures in
    let live = live_found _ _ _ (sym (rw (c.live.ensures, v.slots) at c.ok_or.ensures.value) ∙ c.in_ok-meta.was) in
    let granted = sym (rw (v.slots, v.links, v.heads) at c.resize_answer.ensures) ∙ c.in_ok-values.was in
    (c.requires.0, can_change c.requires.0 c.requires.1 c.left-room.ensures live (sym c.is_idle.ensures ∙ c.if-is_idle.false) granted)
