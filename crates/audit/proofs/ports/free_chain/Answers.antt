use Prim.Native.Nat.{◌-◌}
use native.Mathlib.Omega.{arith}
use Rattle.audit.proofs.TallyLaws.{tally_room}
use Rattle.audit.proofs.FreeLaws.{walked_none, walked_more, walked_stuck, walked_all}
use Rattle.audit.proofs.ports.free_chain.Goals as goal

pub loop-word-init : goal.loop-word-init
loop-word-init c = walked_none _ _ _ _ _ _ _ c.requires.3

pub returns-then-not-free_slab_holds : goal.returns-then-not-free_slab_holds
returns-then-not-free_slab_holds c =
    let l = c.loop-word in
    walked_stuck _ _ _ _ _ _ _ _ _ l.invariant (l.word - 1) (omega arith) (c.free_slab_holds.ensures.not_so c.if-not-free_slab_holds.true)

pub overflow_add-ports : goal.overflow_add-ports
overflow_add-ports c =
    let t = c.free_slab_holds.ensures.so c.if-not-free_slab_holds.false in
    omega (arith, tally_room _ _ _ _ _ c.loop-word.invariant.tally t.1 t.0.ends (omega arith))

pub loop-word-smaller : goal.loop-word-smaller
loop-word-smaller c =
    let t = c.free_slab_holds.ensures.so c.if-not-free_slab_holds.false in
    omega (arith, tally_room _ _ _ _ _ c.loop-word.invariant.tally t.1 t.0.ends (omega arith))

pub loop-word-preserved : goal.loop-word-preserved
loop-word-preserved c =
    let l = c.loop-word in
    let t = c.free_slab_holds.ensures.so c.if-not-free_slab_holds.false in
    walked_more _ _ _ _ _ _ _ _ _ l.invariant (l.word - 1) (omega arith) t (omega arith)

pub returns : goal.returns
returns c = walked_all _ _ _ _ _ _ _ _ _ c.loop-word.invariant (omega arith)
