-- What a claim that is refused says.
use mathlib.Core.Path.{◌≡◌}
use mathlib.Core.List.{List}
use mathlib.Core.Bool.{Bool, false}
use Prim.Native.Nat.{ℕ}
use Rattle.audit.specs.Parts.{RunIs, Claim}

-- Where places cannot be claimed, one of them is taken.
pub claim_failed : {scratch : List ℕ} {first n : ℕ} {scratch' : List ℕ} {r : Bool} → Claim scratch first n scratch' r → r ≡ false
    → RunIs scratch first n 0 → ⊥
claim_failed h e free = let t = h.refused e in t.2 (free t.0 t.1)
