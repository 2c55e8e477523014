-- How a test comes to decide a fact: by the fact, by its refutation, by another fact that says the same.
use Prim.Native.Nat.{ℕ}
use mathlib.Core.Path.{◌≡◌}
use mathlib.Core.Bool.{Bool, true, false, true≢false, false≢true}
use lib.Dec.{eqb}
use borrow.Author.Tests.{eqb-true, eqb-false}
use Rattle.audit.specs.Decides.{Decides}

-- A fact is decided by true,
pub decided_so : {fact : Type 0} → fact → Decides true fact
decided_so h = record { so = λ e. h; not_so = λ e. absurd (true≢false e) }

-- and what cannot be by false.
pub decided_not : {fact : Type 0} → (fact → ⊥) → Decides false fact
decided_not n = record { so = λ e. absurd (false≢true e); not_so = λ e. n }

-- A test that decides a fact decides what says the same.
pub decides_from : {r : Bool} {A B : Type 0} → Decides r A → (A → B) → (B → A) → Decides r B
decides_from d there back = record { so = λ e. there (d.so e); not_so = λ e h. d.not_so e (back h) }

-- What a test that failed says: the fact is not so.
pub failed : {r : Bool} {fact : Type 0} → Decides r fact → r ≡ false → fact → ⊥
failed d e h = d.not_so e h

-- What a test that did not fail says: the fact.
pub passed : {r : Bool} {fact : Type 0} → Decides r fact → r ≡ true → fact
passed d e = d.so e

-- A test of two numbers decides whether they are equal.
pub decides_eq : (a b : ℕ) → Decides (eqb a b) (a ≡ b)
decides_eq a b = record { so = eqb-true a b; not_so = eqb-false a b }
