-- `claim` takes a run of places that are all free, or stops at the first that is not: the places that the loop has passed were free and hold 1.
use Prim.Native.Nat.{ℕ, ◌+◌, ◌-◌}
use mathlib.Core.Path.{◌≡◌}
use mathlib.Core.List.{List}
use borrow.Rule.Slice.PartMut.{put_mid}
use Rattle.slabs.specs.Slab.{filled}
use Rattle.audit.specs.Parts.{RunIs}
use Rattle.audit.proofs.words.claim.Given as goal

-- after i places of the run, which now holds these words
pub record Taken (scratch : List ℕ) (first n : ℕ) (places : List ℕ) (i : ℕ) : Type 0 where
  pub were_free : RunIs scratch first i 0
  pub words : put_mid first (first + n - first) scratch places ≡ filled scratch first i 1

abbrev pub invariant-loop-place : goal.invariant-loop-place
invariant-loop-place l = Taken l.fn.scratch l.first l.n l.place-items l.place-index
