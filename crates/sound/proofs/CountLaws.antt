-- Sums over the slots or the ports, and counts as new numbers: a sum of terms that are 0 or 1, below each number with term 1, gives those
-- numbers the numbers 0, 1, 2 and so on in their order. In a compaction that is the number that a live slot or a live port gets.
use Prim.Native.Nat.{ℕ, suc, zero, ◌+◌, ◌-◌, ◌≤◌, ◌<◌}
use mathlib.Core.Path.{◌≡◌, refl, sym, ◌∙◌}
use native.Mathlib.Omega.{arith}
use native.Mathlib.Nat.{add-zero, add-suc}
use native.Mathlib.Decide.{ℕ_discrete, dec_lt}
use lib.Dec.{eqb}
use borrow.Author.Tests.{eq-eqb, ne_eqb}
use Rattle.slabs.specs.Choice.{pick}
use Rattle.slabs.specs.Sums.{sum}
use Rattle.slabs.specs.Slabs.{in_slab}
use Rattle.slabs.proofs.SumLaws.{sum_ext, sum_change}
use Rattle.slabs.proofs.SlabLaws.{in_slab_below, in_slab_above}
use Rattle.edits.specs.Counts.{some}

-- A sum is that of its first terms and that of the others.
pub sum_split : (f : ℕ → ℕ) (a b : ℕ) → sum f (a + b) ≡ sum f a + sum (λ i. f (a + i)) b
unfolding sum
sum_split f a zero = rw (add-zero a) (omega arith)
sum_split f a (suc b) = rw add-suc (omega (arith, sum_split f a b))

-- A sum of ones is as much as its terms are many.
pub sum_ones : (f : ℕ → ℕ) (n : ℕ) → ((i : ℕ) → i < n → f i ≡ 1) → sum f n ≡ n
unfolding sum
sum_ones f zero h = refl
sum_ones f (suc n) h = omega (arith, sum_ones f n (λ i l. h i (omega arith)), h n (omega arith))

-- Two sums that differ at most in a run of terms differ by those.
pub sum_run : (f g : ℕ → ℕ) (first n m : ℕ) → first + n ≤ m → ((p : ℕ) → in_slab first n p ≡ 0 → f p ≡ g p)
    → sum f m + sum (λ i. g (first + i)) n ≡ sum g m + sum (λ i. f (first + i)) n
sum_run f g first n m fits same =
    let e : m ≡ first + n + (m - (first + n)) = omega arith in
    rw e
    (omega (
      arith,
      sum_split f (first + n) (m - (first + n)),
      sum_split g (first + n) (m - (first + n)),
      sum_split f first n,
      sum_split g first n,
      sum_ext f g first (λ i l. same i (in_slab_below first n i l)),
      sum_ext (λ i. f (first + n + i)) (λ i. g (first + n + i)) (m - (first + n)) (λ i l. same (first + n + i) (in_slab_above first n (first + n + i) (omega arith))),
    ))

-- Two sums that differ in two terms, which have changed places, are equal.
pub sum_swap : (f g : ℕ → ℕ) (n i j : ℕ) → i < n → j < n → (i ≡ j → ⊥) → f i ≡ g j → f j ≡ g i
    → ((x : ℕ) → (x ≡ i → ⊥) → (x ≡ j → ⊥) → f x ≡ g x) → sum f n ≡ sum g n
sum_swap f g n i j li lj apart a b same =
    let here : mid i ≡ g i = rw (eq-eqb i i refl) in
    let there : mid j ≡ f j = rw (ne_eqb j i (λ e. apart (sym e))) in
    omega
    (arith, sum_change f mid n i li (λ x l d. sym (aside x d)), sum_change mid g n j lj (λ x l d. rest x d (ℕ_discrete x i)))
  where
    mid : ℕ → ℕ
    mid x = pick (eqb x i) (g i) (f x)

    aside : (x : ℕ) → (x ≡ i → ⊥) → mid x ≡ f x
    aside x d = rw (ne_eqb x i d)

    rest : (x : ℕ) → (x ≡ j → ⊥) → Dec (x ≡ i) → mid x ≡ g x
    rest x d (yes e) = rw (eq-eqb x i e, e)
    rest x d (no k) = aside x k ∙ same x k d

-- A word 0 does not count,
pub some_none : (word : ℕ) → word ≡ 0 → some word ≡ 0
unfolding some
some_none word e = rw (eq-eqb word 0 e)

-- another counts once,
pub some_one : (word : ℕ) → (word ≡ 0 → ⊥) → some word ≡ 1
unfolding some
some_one word n = rw (ne_eqb word 0 n)

-- so each counts once at most.
pub some_le : (word : ℕ) → some word ≤ 1
some_le word = go (ℕ_discrete word 0)
  where
    go : Dec (word ≡ 0) → some word ≤ 1
    go (yes e) = omega (arith, some_none word e)
    go (no n) = omega (arith, some_one word n)

-- A sum of more terms is no smaller.
pub sum_rises : (f : ℕ → ℕ) (a b : ℕ) → a ≤ b → sum f a ≤ sum f b
sum_rises f a b h = let e : b ≡ a + (b - a) = omega arith in rw e (omega (arith, sum_split f a (b - a)))

-- One more term.
pub sum_next : (f : ℕ → ℕ) (a : ℕ) → sum f (suc a) ≡ sum f a + f a
unfolding sum
sum_next f a = refl

-- Past a term of 1 the count is greater,
pub sum_past : (f : ℕ → ℕ) (a b : ℕ) → f a ≡ 1 → a < b → sum f a < sum f b
sum_past f a b one l = omega (arith, sum_rises f (suc a) b (omega arith), sum_next f a)

-- so no two such terms have the same number.
pub sum_apart : (f : ℕ → ℕ) (a b : ℕ) → f a ≡ 1 → f b ≡ 1 → sum f a ≡ sum f b → a ≡ b
sum_apart f a b one one' e = go (dec_lt a b) (dec_lt b a)
  where
    go : Dec (a < b) → Dec (b < a) → a ≡ b
    go (yes l) d = absurd (omega (arith, sum_past f a b one l))
    go (no l) (yes m) = absurd (omega (arith, sum_past f b a one' m))
    go (no l) (no m) = omega arith

-- A run of terms of 1 has consecutive numbers.
pub sum_consecutive : (f : ℕ → ℕ) (a n : ℕ) → ((i : ℕ) → i < n → f (a + i) ≡ 1) → sum f (a + n) ≡ sum f a + n
sum_consecutive f a n ones = omega (arith, sum_split f a n, sum_ones (λ i. f (a + i)) n ones)

module _ (f : ℕ → ℕ) (few : (i : ℕ) → f i ≤ 1) where
  -- A number is no greater than what it is for,
  pub sum_low : (n : ℕ) → sum f n ≤ n
  unfolding sum
  sum_low zero = omega arith
  sum_low (suc n) = omega (arith, sum_low n, few n)

  -- and each number below the count is a term's.
  pub sum_onto : (n i : ℕ) → i < sum f n → (j : ℕ) × (j < n) × (f j ≡ 1) × (sum f j ≡ i)
  unfolding sum
  sum_onto zero i l = absurd (omega arith)
  sum_onto (suc n) i l = go (dec_lt i (sum f n)) (sum_onto n i)
    where
      go : Dec (i < sum f n) → (i < sum f n → (j : ℕ) × (j < n) × (f j ≡ 1) × (sum f j ≡ i))
          → (j : ℕ) × (j < suc n) × (f j ≡ 1) × (sum f j ≡ i)
      go (yes b) below = let (j, lj, one, e) = below b in (j, omega arith, one, e)
      go (no b) below = (n, omega arith, omega (arith, few n), omega (arith, few n))
