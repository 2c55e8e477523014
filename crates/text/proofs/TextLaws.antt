-- Laws of places in a text: the bytes from a place on, and whether they are digits.
use Rattle.std.proofs.Common.{◌≡◌, ℕ, suc, zero, ◌+◌, ◌-◌, ◌≤◌, ◌<◌, ◌^◌, true, false, List, [], ◌∷◌, ◌++◌, sym, ◌∙◌, ap, arith, length, get_or, take, drop, length-drop, length-take, drop-cons}
use Prim.Native.Nat.{min}
use native.Mathlib.Decide.{dec_lt}
use native.Mathlib.Nat.{add-zero}
use lib.ListN.{drop_of_length-le, take-append-drop}
use lib.Seq.{take-suc, get_or-drop, get_or-take, drop-drop}
use native.Mathlib.Numerals.{add-one}
use Rattle.std.specs.Prelude.{Result, Ok, Err, MatchOption}
use Rattle.std.specs.Char.{is_ascii_digit}
use Rattle.std.specs.List.{prefix_len}
use Rattle.std.specs.Result.{result_ok}
use Rattle.std.specs.Str.{IsUtf8}
use Rattle.std.specs.Str.Parse.{ParsesUnsigned, digits_value}
use Rattle.std.proofs.lemmas.Bool.Decides.{nat_tests}
use Rattle.std.proofs.lemmas.Fmt.{parse-decimal, decimal-digits_value}
use Rattle.std.proofs.lemmas.List.Sums.{prefix_len-le-length, prefix_len_passes, prefix_len_stops}
use Rattle.std.proofs.lemmas.Str.{IsUtf8-from_ascii}
use Rattle.std.proofs.lemmas.Str.Parse.{IsNumeralModel, numerals_by_value, parse_digits}
use Rattle.text.specs.Decimal.{decimal}
use Rattle.text.specs.Parts.{Digit, AllDigits, NoDigit, DigitsAt, NoNumber, NumberAt}
use Rattle.text.proofs.DecimalLaws.{append_all, digits_all, digits_one, digits-length, digits_lead, same_decimal, run_within, runs_same}

-- A run of bytes from a place on, with the byte behind it.
pub run_more : (s : List ℕ) (at n : ℕ) → at + n < length s → take (n + 1) (drop at s) ≡ take n (drop at s) ++ (get_or s (at + n) 0 ∷ [])
run_more s at n h =
    let k : n < length (drop at s) = simp length-drop (omega arith) in
    rw (add-one, take-suc (drop at s) n 0 k, get_or-drop)

-- A run of bytes from a place on has that many.
pub run_length : (s : List ℕ) (at n : ℕ) → at + n ≤ length s → length (take n (drop at s)) ≡ n
run_length s at n h = simp (length-take, length-drop) (omega arith)

-- The byte at a place of the run.
pub run_at : (s : List ℕ) (at n i : ℕ) → i < n → get_or (take n (drop at s)) i 0 ≡ get_or s (at + i) 0
run_at s at n i h = rw (get_or-take, get_or-drop)

-- What is behind the run.
pub run_split : (s : List ℕ) (at n : ℕ) → drop at s ≡ take n (drop at s) ++ drop (at + n) s
run_split s at n = rw (← drop-drop n at s) (sym (take-append-drop n (drop at s)))

all_from : (xs : List ℕ) → ((i : ℕ) → i < length xs → Digit (get_or xs i 0)) → AllDigits xs
all_from [] f = tt
all_from (x ∷ xs) f = (f 0 (omega arith), all_from xs (λ i h. f (suc i) (omega arith)))

-- A digit behind a run of digits makes a longer one.
pub all_more : (s : List ℕ) (at n : ℕ) → at + n < length s → Digit (get_or s (at + n) 0) → AllDigits (take n (drop at s)) → AllDigits (take (n + 1) (drop at s))
all_more s at n h d a = rw (run_more s at n h) (append_all (take n (drop at s)) (get_or s (at + n) 0 ∷ []) a (d, tt))

pub all_at : (xs : List ℕ) (i : ℕ) → i < length xs → AllDigits xs → Digit (get_or xs i 0)
all_at [] i h a = absurd (omega arith)
all_at (x ∷ xs) zero h a = a.0
all_at (x ∷ xs) (suc i) h a = all_at xs i (omega arith) a.1

-- Each byte of a run of digits is one.
pub digit_at : (s : List ℕ) (at n i : ℕ) → at + n ≤ length s → i < n → AllDigits (take n (drop at s)) → Digit (get_or s (at + i) 0)
digit_at s at n i h k a =
    let j : i < length (take n (drop at s)) = rw (run_length s at n h) k in
    rw (run_at s at n i k) at (all_at (take n (drop at s)) i j a)

-- The first byte of a run of digits is one.
pub digit_first : (s : List ℕ) (at n : ℕ) → at + n ≤ length s → 1 ≤ n → AllDigits (take n (drop at s)) → Digit (get_or s at 0)
digit_first s at n h k a = rw add-zero at (digit_at s at n 0 h k a)

digit_told : (b : ℕ) → is_ascii_digit b ≡ true → Digit b
digit_told b h = grind (arith, nat_tests)

none_told : (b : ℕ) → is_ascii_digit b ≡ false → Digit b → ⊥
none_told b h = grind (arith, nat_tests)

-- No digit stands where the text ends, or where the byte is none.
pub no_digit_at : (s : List ℕ) (at : ℕ) → (at < length s → Digit (get_or s at 0) → ⊥) → NoDigit (drop at s)
no_digit_at s at f = go (dec_lt at (length s))
  where
    go : Dec (at < length s) → NoDigit (drop at s)
    go (yes h) = rw (drop-cons s at 0 h) (f h)
    go (no h) = let past : length s ≤ at = omega arith in rw (drop_of_length-le s past) tt

-- Where a text starts with a number, its digits are the whole run.
module _ (s : List ℕ) (at n : ℕ) (d : DigitsAt s at n) where
  run_is : (v : ℕ) (rest : List ℕ) → n < 11 → NoDigit rest → drop at s ≡ decimal v ++ rest → take n (drop at s) ≡ decimal v
  run_is v rest h k e =
      (runs_same (take n (drop at s)) (decimal v) (drop (at + n) s) rest d.all (digits_all 10 v) (d.whole h) k (sym (run_split s at n) ∙ e)).0

  pub long_run : 10 < n → NoNumber (drop at s)
  long_run z v rest h k e =
      let most : length (take n (drop at s)) ≤ length (decimal v)
      = run_within (take n (drop at s)) (decimal v) (drop (at + n) s) rest d.all k (sym (run_split s at n) ∙ e) in
      omega (arith, run_length s at n d.within, digits-length 10 v)

  -- No number has the digits of the run, so none stands there.
  pub no_value : ((v : ℕ) → v < 2 ^ 32 → decimal v ≡ take n (drop at s) → ⊥) → NoNumber (drop at s)
  no_value f v rest h k e = go (dec_lt n 11)
    where
      go : Dec (n < 11) → ⊥
      go (yes few) = f v h (sym (run_is v rest few k e))
      go (no many) = long_run (omega arith) v rest h k e

  -- A number that has them stands there.
  pub value_at : (v : ℕ) → v < 2 ^ 32 → decimal v ≡ take n (drop at s) → NumberAt s at v (at + n)
  value_at v small e =
      record {
        small = small;
        within = d.within;
        says = rw e (run_split s at n);
        whole = d.whole (omega (arith, digits-length 10 v, ap length e, run_length s at n d.within));
      }

-- The digits that are counted stand from the place on, and no other follows them unless there are 11.
pub digits_counted : (s : List ℕ) (at n : ℕ) → at ≤ length s → n ≡ prefix_len is_ascii_digit (take 11 (drop at s)) → DigitsAt s at n
digits_counted s at n h e =
    let first : List ℕ = take 11 (drop at s) in
    let size : length first ≡ min 11 (length s - at) = simp (length-take, length-drop) in
    let most : n ≤ length first = rw e (prefix_len-le-length is_ascii_digit first) in
    record {
      few = omega arith;
      within = omega arith;
      all = all_from (take n (drop at s)) (λ i j.
          let k : i < n = omega (arith, run_length s at n (omega arith)) in
          rw (run_at s at n i k) (digit_told (get_or s (at + i) 0) (sym (ap is_ascii_digit (run_at s at 11 i (omega arith))) ∙ prefix_len_passes is_ascii_digit first i 0 (rw (sym e) k))));
      whole = λ few. no_digit_at s (at + n) (λ more.
          none_told (get_or s (at + n) 0) (sym (ap is_ascii_digit (run_at s at 11 n (omega arith))) ∙ rw e (prefix_len_stops is_ascii_digit first 0 (rw (sym e) (omega arith)))));
    }

-- A needless zero in front: the digits are no number's.
pub needless_zero : (run : List ℕ) → 1 < length run → get_or run 0 0 ≡ 48 → (v : ℕ) → v < 2 ^ 32 → decimal v ≡ run → ⊥
needless_zero run more zero_first v small e = go (dec_lt v 10)
  where
    go : Dec (v < 10) → ⊥
    go (yes b) =
        let one : length (decimal v) ≡ 1 = rw (digits_one 9 v b) in
        omega (arith, ap length e)
    go (no b) = omega (arith, ap (λ (l : List ℕ). get_or l 0 0) e, digits_lead 10 v (omega arith) (omega arith))

own : IsNumeralModel AllDigits (digits_value 10)
own = numerals_by_value AllDigits (record { empty = tt; parts = λ c cs h. h; more = λ c cs h k. (h, k) })

-- Any other digits are read as the number that has them.
pub value_read : (E : Type 0) (run : List ℕ) (r : Result ℕ E) → AllDigits run → (1 < length run → get_or run 0 0 ≡ 48 → ⊥) → ParsesUnsigned 32 10 run r
    → MatchOption (result_ok r) ((v : ℕ) → v < 2 ^ 32 → decimal v ≡ run → ⊥) (λ v. decimal v ≡ run)
value_read E run (Ok x) all lead p =
    let q : ((0 < length run) × (digits_value 10 run < 2 ^ 32)) × (x ≡ digits_value 10 run) = parse_digits own {E = E} 32 run (Ok x) p all in
    let one : get_or run 0 0 ≡ 48 → length run ≡ 1 = λ z. elim (dec_lt 1 (length run)) [ yes l ↦ absurd (lead l z) | no l ↦ omega (arith, q.0.0) ] in
    rw q.1 (same_decimal (digits_value 10 run) q.0.1 ∙ decimal-digits_value own run all q.0.0 one (omega (arith, q.0.1)))
value_read E run (Err d) all lead p = λ v small e.
    let read : Err d ≡ Ok v = parse-decimal 32 v run (Err d) small (omega arith) (sym e ∙ same_decimal v small) p in
    cc

-- Digits are text.
pub digits_text : (run : List ℕ) → AllDigits run → IsUtf8 run
digits_text run all = IsUtf8-from_ascii run (ascii run all)
  where
    ascii : (xs : List ℕ) → AllDigits xs → (i : ℕ) → get_or xs i 0 < 128
    ascii [] h i = omega arith
    ascii (x ∷ xs) h zero = omega (arith, h.0.1)
    ascii (x ∷ xs) h (suc i) = ascii xs h.1 i
