-- Laws of zeros: tables of them.
use Prim.Native.Nat.{ℕ, suc, zero, ◌-◌, ◌<◌}
use mathlib.Core.Path.{◌≡◌}
use mathlib.Core.List.{List}
use native.Mathlib.Nat.{sub-zero, zero-sub, suc-sub-suc}
use native.Mathlib.Omega.{arith}
use native.Mathlib.Decide.{dec_lt}
use lib.ListN.{length, get_or, drop, replicate, length-replicate, get_or-replicate, get_or-eq_default}

-- a table of zeros
abbrev pub blank : ℕ → List ℕ
blank n = replicate n 0

-- It is as long as it is made,
pub blank_length : (n : ℕ) → length (blank n) ≡ n
blank_length n = let z : ℕ = 0 in length-replicate n z

-- and reads 0 everywhere.
pub blank_zero : (n i : ℕ) → get_or (blank n) i 0 ≡ 0
blank_zero n i = go (dec_lt i n)
  where
    go : Dec (i < n) → get_or (blank n) i 0 ≡ 0
    go (yes l) = get_or-replicate n i 0 0 l
    go (no l) = get_or-eq_default (blank n) 0 (omega (arith, blank_length n))

-- What is left of a table of zeros is one.
pub blank_drop : (k n : ℕ) → drop k (blank n) ≡ blank (n - k)
blank_drop zero n = rw sub-zero
blank_drop (suc k) zero = rw zero-sub
blank_drop (suc k) (suc n) = rw suc-sub-suc (blank_drop k n)
