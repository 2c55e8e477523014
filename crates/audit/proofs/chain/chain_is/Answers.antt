use Prim.Native.Nat.{ℕ, suc, ◌+◌, ◌-◌, ◌≤◌, ◌<◌}
use mathlib.Core.Path.{◌≡◌}
use mathlib.Core.List.{List}
use native.Mathlib.Omega.{arith}
use Rattle.slabs.specs.NodeEntry.{slot_word}
use Rattle.audit.specs.Parts.{LinkHolds, Walk}
use Rattle.audit.proofs.DecideLaws.{decided_not}
use Rattle.audit.proofs.chain.chain_is.Goals as goal

module _ (slots : List ℕ) (mark before n i : ℕ) (more : i < n) where
  -- one step of the walk, and what is left of it
  step : (slot : ℕ) → Walk slots mark (suc slot) before (n - i)
      → LinkHolds slots mark (suc slot) before × Walk slots mark (slot_word slots slot 2) (suc slot) (n - (i + 1))
  step slot w =
      let e : n - i ≡ suc (n - (i + 1)) = omega arith in
      let d : suc slot - 1 ≡ slot = omega arith in
      let v = rw e at w in (v.1, rw d at v.2)

  unstep : (slot : ℕ) → LinkHolds slots mark (suc slot) before × Walk slots mark (slot_word slots slot 2) (suc slot) (n - (i + 1))
      → Walk slots mark (suc slot) before (n - i)
  unstep slot w =
      let e : n - i ≡ suc (n - (i + 1)) = omega arith in
      let d : suc slot - 1 ≡ slot = omega arith in
      rw e (omega arith, w.0, rw d w.1)

  -- it starts at a slot
  starts : (word : ℕ) → Walk slots mark word before (n - i) → 1 ≤ word
  starts word w = let e : n - i ≡ suc (n - (i + 1)) = omega arith in (rw e at w).0

pub returns-then-word-eq0 : goal.returns-then-word-eq0
returns-then-word-eq0 c =
    let a = c.args in
    let l = c.loop in
    decided_not (λ h. omega (arith, c.if-word-eq0.true, starts a.slots.words.now a.slots.mark l.before a.n l.counter (omega arith) l.word (l.invariant.onward h)))

pub returns-in_default : goal.returns-in_default
returns-in_default c =
    let a = c.args in
    let l = c.loop in
    let slot : ℕ = l.word - 1 in
    let e : l.word ≡ suc slot = omega arith in
    decided_not
    (λ h. c.in_default.ensures (step a.slots.words.now a.slots.mark l.before a.n l.counter (omega arith) slot (rw e at (l.invariant.onward h))).0)

pub loop-preserved : goal.loop-preserved
loop-preserved c =
    let a = c.args in
    let l = c.loop in
    let slot : ℕ = l.word - 1 in
    let (holds, next) = c.in-Some.ensures in
    let e : l.word ≡ suc slot = omega arith in
    record {
      onward = λ h. rw (e, next) (step a.slots.words.now a.slots.mark l.before a.n l.counter (omega arith) slot (rw e at (l.invariant.onward h))).1;
      back =
          λ w.
          l.invariant.back
          (rw e (unstep a.slots.words.now a.slots.mark l.before a.n l.counter (omega arith) slot (holds, rw (e, next) at w)));
    }
