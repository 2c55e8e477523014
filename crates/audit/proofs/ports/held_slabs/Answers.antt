use mathlib.Core.Path.{◌≡◌, sym, ◌∙◌}
use native.Mathlib.Omega.{arith}
use Rattle.audit.proofs.TallyLaws.{tally_room}
use Rattle.audit.proofs.HeldLaws.{held_none, held_free, held_live, held_stuck}
use Rattle.audit.proofs.ports.held_slabs.Goals as goal
use Rattle.audit.proofs.ports.held_slabs.Goals.{in-Node+else-not-held_slab_holds, in_default}

pub loop-node-init : goal.loop-node-init
loop-node-init c = held_none _ _ _ _ _ c.requires.4

pub returns-then-not-held_slab_holds : goal.returns-then-not-held_slab_holds
returns-then-not-held_slab_holds c =
    let e = sym c.read_slot.ensures ∙ c.in-Node.is in
    held_stuck _ _ _ _ _ _ _ c.loop-node.invariant _ e _ (omega arith) (c.held_slab_holds.ensures.not_so c.if-not-held_slab_holds.true)

pub overflow_add-ports : goal.overflow_add-ports
overflow_add-ports c =
    let l = c.loop-node in
    let t = c.held_slab_holds.ensures.so c.if-not-held_slab_holds.false in
    omega (arith, tally_room _ _ _ _ _ l.invariant.tally t.1 t.0.ends (omega arith))

pub loop-node-preserved : goal.loop-node-preserved
loop-node-preserved c =
    let l = c.loop-node in
    elim c.match-read_slot.branch [
      | in-Node+else-not-held_slab_holds w ↦
          let e = sym c.read_slot.ensures ∙ w.in-Node.is in
          rw (w.scratch-is, w.ports-is) (held_live _ _ _ _ _ _ _ l.invariant _ e (w.held_slab_holds.ensures.so w.if-not-held_slab_holds.false) (omega arith))
      | in_default w ↦ rw (w.scratch-is, w.ports-is) (held_free _ _ _ _ _ _ _ l.invariant _ _ (sym c.read_slot.ensures ∙ w.in_default.is))
    ]

pub returns : goal.returns
returns c =
    let l = c.loop-node in
    let e : l.node ≡ c.args.counters.nodemark = omega arith in
    rw (← e) (l.invariant.held, l.invariant.claimed, l.invariant.tally)
