-- Laws of sums over the numbers below a bound, and over a list: when two sums are equal, how one term changes a sum, and what a sum says
-- of its terms.
use Prim.Native.Nat.{ℕ, suc, zero, ◌+◌, ◌≤◌, ◌<◌}
use mathlib.Core.Path.{◌≡◌, refl}
use mathlib.Core.List.{List, [], ◌∷◌, ◌++◌}
use native.Mathlib.Nat.{add-zero, add-suc}
use native.Mathlib.Omega.{arith}
use native.Mathlib.Decide.{ℕ_discrete, dec_le}
use Rattle.slabs.specs.Sums.{sum, sum_of}

-- Sums of equal terms are equal.
pub sum_ext : (f g : ℕ → ℕ) (n : ℕ) → ((i : ℕ) → i < n → f i ≡ g i) → sum f n ≡ sum g n
unfolding sum
sum_ext f g zero h = refl
sum_ext f g (suc n) h = omega (arith, sum_ext f g n (λ i l. h i (omega arith)), h n (omega arith))

-- Two sums that differ at most in one term differ by that term.
pub sum_change : (f g : ℕ → ℕ) (n i : ℕ) → i < n → ((j : ℕ) → j < n → (j ≡ i → ⊥) → f j ≡ g j) → sum f n + g i ≡ sum g n + f i
unfolding sum
sum_change f g zero i l h = absurd (omega arith)
sum_change f g (suc n) i l h = go (ℕ_discrete i n) (λ k. sum_change f g n i k (λ j m. h j (omega arith)))
  where
    go : Dec (i ≡ n) → (i < n → sum f n + g i ≡ sum g n + f i) → sum f n + f n + g i ≡ sum g n + g n + f i
    go (yes e) below = rw e (omega (arith, sum_ext f g n (λ j k. h j (omega arith) (omega arith))))
    go (no d) below = omega (arith, below (omega arith), h n (omega arith) (omega arith))

-- A sum of zeros is 0.
pub sum_zero : (f : ℕ → ℕ) (n : ℕ) → ((i : ℕ) → i < n → f i ≡ 0) → sum f n ≡ 0
unfolding sum
sum_zero f zero h = refl
sum_zero f (suc n) h = omega (arith, sum_zero f n (λ i l. h i (omega arith)), h n (omega arith))

-- A sum of terms that are no greater is no greater.
pub sum_le : (f g : ℕ → ℕ) (n : ℕ) → ((i : ℕ) → i < n → f i ≤ g i) → sum f n ≤ sum g n
unfolding sum
sum_le f g zero h = omega arith
sum_le f g (suc n) h = omega (arith, sum_le f g n (λ i l. h i (omega arith)), h n (omega arith))

-- A term is no greater than its sum.
pub sum_term : (f : ℕ → ℕ) (n i : ℕ) → i < n → f i ≤ sum f n
unfolding sum
sum_term f zero i l = absurd (omega arith)
sum_term f (suc n) i l = go (ℕ_discrete i n) (sum_term f n i)
  where
    go : Dec (i ≡ n) → (i < n → f i ≤ sum f n) → f i ≤ sum f n + f n
    go (yes e) below = rw e (omega arith)
    go (no d) below = omega (arith, below (omega arith))

-- Where a sum is 0, so is each of its terms.
pub sum_none : (f : ℕ → ℕ) (n i : ℕ) → sum f n ≡ 0 → i < n → f i ≡ 0
sum_none f n i e l = omega (arith, sum_term f n i l)

-- Where a sum is not 0, neither is one of its terms.
pub sum_some : (f : ℕ → ℕ) (n : ℕ) → 1 ≤ sum f n → (i : ℕ) × (i < n) × (1 ≤ f i)
unfolding sum
sum_some f zero h = absurd (omega arith)
sum_some f (suc n) h = go (dec_le 1 (f n)) (sum_some f n)
  where
    go : Dec (1 ≤ f n) → (1 ≤ sum f n → (i : ℕ) × (i < n) × (1 ≤ f i)) → (i : ℕ) × (i < suc n) × (1 ≤ f i)
    go (yes k) below = (n, omega arith, k)
    go (no k) below = let t = below (omega arith) in (t.0, omega (arith, t.1), t.2)

-- Two terms together are no greater than their sum.
pub sum_two : (f : ℕ → ℕ) (n i j : ℕ) → i < n → j < n → (i ≡ j → ⊥) → f i + f j ≤ sum f n
unfolding sum
sum_two f zero i j li lj d = absurd (omega arith)
sum_two f (suc n) i j li lj d = go (ℕ_discrete i n) (ℕ_discrete j n) (λ ki kj. sum_two f n i j ki kj d)
  where
    go : Dec (i ≡ n) → Dec (j ≡ n) → (i < n → j < n → f i + f j ≤ sum f n) → f i + f j ≤ sum f n + f n
    go (yes e) (yes e') below = absurd (omega arith)
    go (yes e) (no d') below = rw e (omega (arith, sum_term f n j (omega arith)))
    go (no d'') (yes e') below = rw e' (omega (arith, sum_term f n i (omega arith)))
    go (no d'') (no d') below = omega (arith, below (omega arith) (omega arith))

-- A sum of pairs is the pair's two sums.
pub sum_plus : (f g : ℕ → ℕ) (n : ℕ) → sum (λ i. f i + g i) n ≡ sum f n + sum g n
unfolding sum
sum_plus f g zero = refl
sum_plus f g (suc n) = omega (arith, sum_plus f g n)

-- What is 0 from n on adds nothing from n on.
pub sum_more : (f : ℕ → ℕ) (n m : ℕ) → ((i : ℕ) → n ≤ i → f i ≡ 0) → sum f (n + m) ≡ sum f n
unfolding sum
sum_more f n zero h = rw add-zero
sum_more f n (suc m) h = rw add-suc (omega (arith, sum_more f n m h, h (n + m) (omega arith)))

-- Sums of equal terms over a list are equal.
pub sum_of_ext : (f g : ℕ → ℕ) (xs : List ℕ) → ((x : ℕ) → f x ≡ g x) → sum_of f xs ≡ sum_of g xs
unfolding sum_of
sum_of_ext f g [] h = refl
sum_of_ext f g (x ∷ xs) h = omega (arith, h x, sum_of_ext f g xs h)

-- A sum of zeros over a list is 0.
pub sum_of_zero : (f : ℕ → ℕ) (xs : List ℕ) → ((x : ℕ) → f x ≡ 0) → sum_of f xs ≡ 0
unfolding sum_of
sum_of_zero f [] h = refl
sum_of_zero f (x ∷ xs) h = omega (arith, h x, sum_of_zero f xs h)

-- A sum of terms that are no greater is no greater, over a list too.
pub sum_of_le : (f g : ℕ → ℕ) (xs : List ℕ) → ((x : ℕ) → f x ≤ g x) → sum_of f xs ≤ sum_of g xs
unfolding sum_of
sum_of_le f g [] h = omega arith
sum_of_le f g (x ∷ xs) h = omega (arith, h x, sum_of_le f g xs h)

-- A sum over two lists joined is the sum of their sums.
pub sum_of_append : (f : ℕ → ℕ) (xs ys : List ℕ) → sum_of f (xs ++ ys) ≡ sum_of f xs + sum_of f ys
unfolding sum_of
sum_of_append f [] ys = omega arith
sum_of_append f (x ∷ xs) ys = omega (arith, sum_of_append f xs ys)
