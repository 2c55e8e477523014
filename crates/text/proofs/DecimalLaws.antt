-- Laws of decimal numbers: how a number's digits grow, and that a run of digits is the digits of one number only.
use Prim.Native.Nat.{ℕ, suc, zero, ◌+◌, ◌*◌, ◌-◌, ◌/◌, ◌%◌, ◌^◌, ◌≤◌, ◌<◌}
use mathlib.Core.Path.{◌≡◌, refl, sym, ◌∙◌, ap}
use mathlib.Core.List.{List, [], ◌∷◌, ◌++◌}
use native.Mathlib.Omega.{arith}
use native.Mathlib.Nat.{pow-suc}
use native.Mathlib.Decide.{dec_lt}
use lib.ListN.{length, get_or, length-append}
use borrow.Author.Tests.{lt-ltb, le-ltb}
use Rattle.std.specs.Prelude as std
use Rattle.std.proofs.lemmas.Fmt.{length-decimal-le, decimal_from_appends}
use Rattle.text.specs.Decimal.{digits, decimal}
use Rattle.text.specs.Parts.{AllDigits, NoDigit}

-- One digit is a number below 10.
pub digits_one : (most n : ℕ) → n < 10 → digits (suc most) n ≡ (48 + n) ∷ []
unfolding digits
digits_one most n h = simp (lt-ltb n 10 h)

-- Any other number ends with its last digit.
pub digits_snoc : (most n : ℕ) → 10 ≤ n → digits (suc most) n ≡ digits most (n / 10) ++ ((48 + n % 10) ∷ [])
unfolding digits
digits_snoc most n h = simp (le-ltb n 10 h)

-- Ten times a number and a digit: the digit stands behind the number's.
pub digits_grow : (most v d : ℕ) → 1 ≤ v → d < 10 → digits (suc most) (10 * v + d) ≡ digits most v ++ ((48 + d) ∷ [])
digits_grow most v d hv hd =
    let quot : (10 * v + d) / 10 ≡ v = omega arith in
    let rem : (10 * v + d) % 10 ≡ d = omega arith in
    digits_snoc most (10 * v + d) (omega arith) ∙ rw (quot, rem)

-- A tenth has a digit less.
tenth_lt : (m n : ℕ) → n < 10 ^ suc m → n / 10 < 10 ^ m
tenth_lt m n h = let e : 10 ^ suc m ≡ 10 ^ m * 10 = pow-suc 10 m in omega arith

-- Room for more digits than a number has changes nothing.
pub digits_more : (m n : ℕ) → n < 10 ^ suc m → digits (suc (suc m)) n ≡ digits (suc m) n
digits_more zero n h = digits_one 1 n h ∙ sym (digits_one 0 n h)
digits_more (suc m) n h = go (dec_lt n 10) (digits_more m (n / 10) (tenth_lt (suc m) n h))
  where
    go : Dec (n < 10) → digits (suc (suc m)) (n / 10) ≡ digits (suc m) (n / 10) → digits (suc (suc (suc m))) n ≡ digits (suc (suc m)) n
    go (yes k) e = digits_one (suc (suc m)) n k ∙ sym (digits_one (suc m) n k)
    go (no k) e =
        let b : 10 ≤ n = omega arith in
        digits_snoc (suc (suc m)) n b ∙ rw e (sym (digits_snoc (suc m) n b))

-- Two runs of digits make one.
pub append_all : (xs ys : List ℕ) → AllDigits xs → AllDigits ys → AllDigits (xs ++ ys)
append_all [] ys h k = k
append_all (x ∷ xs) ys h k = (h.0, append_all xs ys h.1 k)

-- Every byte of a number is a digit.
pub digits_all : (most n : ℕ) → AllDigits (digits most n)
unfolding digits
digits_all zero n = tt
digits_all (suc most) n = go (dec_lt n 10) (digits_all most (n / 10))
  where
    go : Dec (n < 10) → AllDigits (digits most (n / 10)) → AllDigits (digits (suc most) n)
    go (yes k) h = rw (digits_one most n k) ((omega arith, omega arith), tt)
    go (no k) h =
        let b : 10 ≤ n = omega arith in
        rw (digits_snoc most n b) (append_all (digits most (n / 10)) ((48 + n % 10) ∷ []) h ((omega arith, omega arith), tt))

-- A number has no more digits than it has room for.
pub digits-length : (most n : ℕ) → length (digits most n) ≤ most
unfolding digits
digits-length zero n = omega arith
digits-length (suc most) n = go (dec_lt n 10) (digits-length most (n / 10))
  where
    go : Dec (n < 10) → length (digits most (n / 10)) ≤ most → length (digits (suc most) n) ≤ suc most
    go (yes k) h = rw (digits_one most n k) (omega arith)
    go (no k) h =
        let b : 10 ≤ n = omega arith in
        rw (digits_snoc most n b) (simp length-append (omega arith))

-- A number with few digits has few bytes, whatever its room.
pub digits_short : (more m n : ℕ) → n < 10 ^ suc m → length (digits (suc more) n) ≤ suc m
digits_short more zero n h = rw (digits_one more n h) (omega arith)
digits_short zero (suc m) n h = omega (arith, digits-length 1 n)
digits_short (suc more) (suc m) n h = go (dec_lt n 10) (digits_short more m (n / 10) (tenth_lt (suc m) n h))
  where
    go : Dec (n < 10) → length (digits (suc more) (n / 10)) ≤ suc m → length (digits (suc (suc more)) n) ≤ suc (suc m)
    go (yes k) e = rw (digits_one (suc more) n k) (omega arith)
    go (no k) e =
        let b : 10 ≤ n = omega arith in
        rw (digits_snoc (suc more) n b) (simp length-append (omega arith))

-- Every number has a digit.
pub digits_some : (most n : ℕ) → 1 ≤ length (digits (suc most) n)
digits_some most n = go (dec_lt n 10)
  where
    go : Dec (n < 10) → 1 ≤ length (digits (suc most) n)
    go (yes k) = rw (digits_one most n k) (omega arith)
    go (no k) =
        let b : 10 ≤ n = omega arith in
        rw (digits_snoc most n b) (simp length-append (omega arith))

lead_append : (xs ys : List ℕ) → 49 ≤ get_or xs 0 0 → 49 ≤ get_or (xs ++ ys) 0 0
lead_append [] ys h = omega arith
lead_append (x ∷ xs) ys h = h

-- No needless zero stands in front.
pub digits_lead : (most n : ℕ) → 1 ≤ n → n < 10 ^ most → 49 ≤ get_or (digits most n) 0 0
digits_lead zero n h k = omega arith
digits_lead (suc most) n h k = go (dec_lt n 10) (digits_lead most (n / 10))
  where
    go : Dec (n < 10) → (1 ≤ n / 10 → n / 10 < 10 ^ most → 49 ≤ get_or (digits most (n / 10)) 0 0) → 49 ≤ get_or (digits (suc most) n) 0 0
    go (yes j) f = rw (digits_one most n j) (omega arith)
    go (no j) f =
        let b : 10 ≤ n = omega arith in
        rw (digits_snoc most n b) (lead_append (digits most (n / 10)) _ (f (omega arith) (tenth_lt most n k)))

-- the number that a run of digits says, behind what is read already
value_from : ℕ → List ℕ → ℕ
value_from v [] = v
value_from v (b ∷ rest) = value_from (10 * v + (b - 48)) rest

value_from_append : (v : ℕ) (xs ys : List ℕ) → value_from v (xs ++ ys) ≡ value_from (value_from v xs) ys
unfolding value_from
value_from_append v [] ys = refl
value_from_append v (x ∷ xs) ys = value_from_append (10 * v + (x - 48)) xs ys

-- The digits of a number say that number.
digits_value : (most n : ℕ) → n < 10 ^ most → value_from 0 (digits most n) ≡ n
unfolding digits value_from
digits_value zero n h = omega arith
digits_value (suc most) n h = go (dec_lt n 10) (digits_value most (n / 10) (tenth_lt most n h))
  where
    go : Dec (n < 10) → value_from 0 (digits most (n / 10)) ≡ n / 10 → value_from 0 (digits (suc most) n) ≡ n
    go (yes j) e = rw (digits_one most n j) (omega arith)
    go (no j) e =
        let b : 10 ≤ n = omega arith in
        rw (digits_snoc most n b) (rw value_from_append (rw e (omega arith)))

-- Two numbers with the same digits are the same.
pub digits_same : (most v w : ℕ) → v < 10 ^ most → w < 10 ^ most → digits most v ≡ digits most w → v ≡ w
digits_same most v w hv hw e = sym (digits_value most v hv) ∙ ap (value_from 0) e ∙ digits_value most w hw

-- A run of digits is no longer than one that ends where a text has no digit.
pub run_within : (xs ys r q : List ℕ) → AllDigits xs → NoDigit q → xs ++ r ≡ ys ++ q → length xs ≤ length ys
run_within [] ys r q hx hq e = omega arith
run_within (x ∷ xs) [] r q hx hq e = absurd ((rw (← e) at hq) hx.0)
run_within (x ∷ xs) (y ∷ ys) r q hx hq e =
    let tail : xs ++ r ≡ ys ++ q = cc in
    omega (arith, run_within xs ys r q hx.1 hq tail)

-- Where a run of digits ends is settled: the run and what follows it are each the same.
pub runs_same : (xs ys r q : List ℕ) → AllDigits xs → AllDigits ys → NoDigit r → NoDigit q → xs ++ r ≡ ys ++ q → (xs ≡ ys) × (r ≡ q)
runs_same [] [] r q hx hy hr hq e = (refl, e)
runs_same [] (y ∷ ys) r q hx hy hr hq e = absurd ((rw e at hr) hy.0)
runs_same (x ∷ xs) [] r q hx hy hr hq e = absurd ((rw (← e) at hq) hx.0)
runs_same (x ∷ xs) (y ∷ ys) r q hx hy hr hq e =
    let head : x ≡ y = cc in
    let tail : xs ++ r ≡ ys ++ q = cc in
    let both : (xs ≡ ys) × (r ≡ q) = runs_same xs ys r q hx.1 hy.1 hr hq tail in
    (cc, both.1)

-- Two numbers that a text without a digit follows are the same, and so is that text.
pub numbers_same : (v w : ℕ) (r q : List ℕ) → v < 2 ^ 32 → w < 2 ^ 32 → NoDigit r → NoDigit q → decimal v ++ r ≡ decimal w ++ q → (v ≡ w) × (r ≡ q)
numbers_same v w r q hv hw hr hq e =
    let both : (decimal v ≡ decimal w) × (r ≡ q) = runs_same (decimal v) (decimal w) r q (digits_all 10 v) (digits_all 10 w) hr hq e in
    (digits_same 10 v w (omega arith) (omega arith) both.0, both.1)

-- A digit behind a number makes ten times the number and the digit.
pub decimal_grow : (v d : ℕ) → 1 ≤ v → v < 10 ^ 9 → d < 10 → decimal (v * 10 + d) ≡ decimal v ++ ((48 + d) ∷ [])
decimal_grow v d hv small hd =
    let e : v * 10 + d ≡ 10 * v + d = omega arith in
    rw (e, digits_more 8 v small) (digits_grow 9 v d hv hd)

-- A number of two digits or more is a tenth of it, and its last digit.
pub decimal_last : (x : ℕ) → 10 ≤ x → x < 10 ^ 10 → decimal x ≡ decimal (x / 10) ++ ((48 + x % 10) ∷ [])
decimal_last x h k = digits_snoc 9 x h ∙ rw (sym (digits_more 8 (x / 10) (tenth_lt 9 x k)))

-- The digits are std's.
pub same_decimal : (n : ℕ) → n < 2 ^ 32 → decimal n ≡ std.decimal n
same_decimal n small =
    decimal_from_appends digits (record { one = digits_one; more = digits_snoc }) 10 n (omega arith) (length-decimal-le 10 n (omega arith) (omega arith) (omega arith))
