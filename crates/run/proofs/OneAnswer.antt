-- A run has one answer: the same memory gives the same memory after it, the same code and the same number of records. And what a run that
-- is refused leaves.
use Prim.Native.Nat.{ℕ, ◌*◌}
use mathlib.Core.Path.{◌≡◌, refl, ap}
use native.Mathlib.Omega.{arith}
use Rattle.sound.specs.Sound.{Sound}
use Rattle.run.specs.Run.{Lent, Lengths, call_width, Ran, misshapen, unsound, done, midway, answered, zeroed}

-- Whole calls are counted in one way.
pub count_one : {calls n n' : ℕ} → calls ≡ call_width * n → calls ≡ call_width * n' → n ≡ n'
count_one e f = omega arith

-- The same memory has one run.
pub ran_one : {m a a' : Lent} {c c' n n' : ℕ} → Ran m a c n → Ran m a' c' n' → (a ≡ a') × (c ≡ c') × (n ≡ n')
ran_one (misshapen x) (misshapen y) = (refl, refl, refl)
ran_one (misshapen x) (unsound l y) = absurd (x l)
ran_one (misshapen x) (done l s) = absurd (x l)
ran_one (unsound l x) (misshapen y) = absurd (y l)
ran_one (unsound l x) (unsound k y) = (refl, refl, refl)
ran_one (unsound l x) (done k s) = absurd (x s)
ran_one (done l s) (misshapen y) = absurd (y l)
ran_one (done l s) (unsound k y) = absurd (y s)
ran_one {m} (done l s) (done k t) =
    let e : l.count ≡ k.count = count_one l.whole_calls k.whole_calls in
    (ap (λ (n : ℕ). answered m (midway m n)) e, refl, ap (λ (n : ℕ). (midway m n).written) e)

-- Well-shaped memory with a sound store is not refused.
pub sound_not_refused : {m a : Lent} {c n : ℕ} → Ran m a c n → Lengths m → Sound m.store → c ≡ 0
sound_not_refused (misshapen x) l s = absurd (x l)
sound_not_refused (unsound k x) l s = absurd (x s)
sound_not_refused (done k t) l s = refl

-- What a run that answers 20 leaves.
refused_by : {m a : Lent} {c n : ℕ} → Ran m a c n → c ≡ 20 → (a ≡ m) × (n ≡ 0)
refused_by (misshapen x) e = (refl, refl)
refused_by (unsound l x) e = absurd (omega arith)
refused_by (done l s) e = absurd (omega arith)

-- A run that answers 20 leaves every word as it was,
pub refused_same : {m a : Lent} {n : ℕ} → Ran m a 20 n → a ≡ m
refused_same r = (refused_by r refl).0

-- and reports no records.
pub refused_none : {m a : Lent} {n : ℕ} → Ran m a 20 n → n ≡ 0
refused_none r = (refused_by r refl).1

-- What a run that answers 21 leaves.
unsound_by : {m a : Lent} {c n : ℕ} → Ran m a c n → c ≡ 21 → (a ≡ zeroed m) × (n ≡ 0)
unsound_by (misshapen x) e = absurd (omega arith)
unsound_by (unsound l x) e = (refl, refl)
unsound_by (done l s) e = absurd (omega arith)

-- A run that answers 21 leaves every word as it was but the scratch, which is zeroed,
pub unsound_same : {m a : Lent} {n : ℕ} → Ran m a 21 n → a ≡ zeroed m
unsound_same r = (unsound_by r refl).0

-- and reports no records.
pub unsound_none : {m a : Lent} {n : ℕ} → Ran m a 21 n → n ≡ 0
unsound_none r = (unsound_by r refl).1
