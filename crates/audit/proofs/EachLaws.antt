-- What holds of each number of a list, and what a sum over the list says of them.
use Prim.Native.Nat.{ℕ, ◌+◌, ◌≤◌}
use mathlib.Core.Path.{◌≡◌, refl}
use mathlib.Core.List.{List, [], ◌∷◌}
use mathlib.Core.Logic.{⊎_elim}
use native.Mathlib.Omega.{arith}
use native.Mathlib.Decide.{dec_le}
use Rattle.slabs.specs.Sums.{sum_of}
use Rattle.audit.specs.Parts.{Each}
use Rattle.sound.proofs.ChainLaws.{times_on, first_on, later_on, on_cases, none_on}

-- What holds of every number that stands on a list holds of each.
pub each_of : (P : ℕ → Type 0) (xs : List ℕ) → ((x : ℕ) → 1 ≤ times_on xs x → P x) → Each P xs
each_of P [] h = tt
each_of P (x ∷ xs) h = (h x (first_on x xs), each_of P xs (λ y on. h y (later_on x xs y on)))

-- A sum is 0 where each number has what makes its term 0.
pub each_zero : (P : ℕ → Type 0) (f : ℕ → ℕ) (xs : List ℕ) → Each P xs → ((x : ℕ) → P x → f x ≡ 0) → sum_of f xs ≡ 0
unfolding sum_of
each_zero P f [] h z = refl
each_zero P f (x ∷ xs) h z = omega (arith, z x h.0, each_zero P f xs h.1 z)

-- Where a sum is not 0, neither is the term of a number that stands on the list.
pub each_some : (P : ℕ → Type 0) (f : ℕ → ℕ) (xs : List ℕ) → Each P xs → 1 ≤ sum_of f xs
    → (x : ℕ) × P x × (1 ≤ times_on xs x) × (1 ≤ f x)
unfolding sum_of
each_some P f [] h some = absurd (omega arith)
each_some P f (x ∷ xs) h some = go (dec_le 1 (f x)) (each_some P f xs h.1)
  where
    go : Dec (1 ≤ f x) → (1 ≤ sum_of f xs → (y : ℕ) × P y × (1 ≤ times_on xs y) × (1 ≤ f y))
        → (y : ℕ) × P y × (1 ≤ times_on (x ∷ xs) y) × (1 ≤ f y)
    go (yes k) later = (x, h.0, first_on x xs, k)
    go (no k) later = let t = later (omega arith) in (t.0, t.1, later_on x xs t.0 t.2, t.3)

-- The term of a number that stands on a list is no greater than the sum.
pub on_term : (f : ℕ → ℕ) (xs : List ℕ) (x : ℕ) → 1 ≤ times_on xs x → f x ≤ sum_of f xs
unfolding sum_of
on_term f [] x on = absurd (omega (arith, none_on x))
on_term f (y ∷ ys) x on = ⊎_elim (λ e. rw e (omega arith)) (λ l. omega (arith, on_term f ys x l)) (on_cases y ys x on)

-- A sum of pairs over a list is the pair's two sums.
pub sum_of_plus : (f g : ℕ → ℕ) (xs : List ℕ) → sum_of (λ x. f x + g x) xs ≡ sum_of f xs + sum_of g xs
unfolding sum_of
sum_of_plus f g [] = refl
sum_of_plus f g (x ∷ xs) = omega (arith, sum_of_plus f g xs)
