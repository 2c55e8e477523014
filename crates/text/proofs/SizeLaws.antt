-- How long the lines of a run are: an answer line has at most 50 bytes, a record line at most 39, and each record is told once.
use Prim.Native.Nat.{ℕ, suc, zero, ◌+◌, ◌*◌, ◌≤◌, ◌<◌}
use mathlib.Core.Path.{◌≡◌, sym, ◌∙◌, ap}
use mathlib.Core.List.{List, [], ◌∷◌, append-nil}
use mathlib.Core.Bool.{Bool, true, false}
use native.Mathlib.Omega.{arith}
use native.Mathlib.Numerals.{add-one}
use native.Mathlib.Decide.{ℕ_discrete, dec_lt}
use lib.ListN.{length, get_or, length-append}
use lib.Dec.{ltb}
use borrow.Author.Tests.{eq-eqb, ne_eqb, lt-ltb, le-ltb}
use Rattle.slabs.specs.Choice.{pick}
use Rattle.text.specs.Decimal.{decimal, fields}
use Rattle.text.specs.Lines.{answer_line, record_line, record_lines, run_lines, error_line}
use Rattle.text.specs.Parts.{words_at}
use Rattle.text.proofs.DecimalLaws.{digits-length, digits_short}
use Rattle.text.proofs.OutputLaws.{answer_put, run_more, line_length, fields-length, fields_none, answer_length, record_length}

four_length : (a b c d : ℕ) → length (fields (a ∷ b ∷ c ∷ d ∷ [])) ≤ length (decimal a) + 34
four_length a b c d =
    simp (fields-length, fields_none) (omega (arith, digits-length 10 b, digits-length 10 c, digits-length 10 d))

-- A place has at most three digits.
place_length : (place : ℕ) → place < 1000 → length (decimal place) ≤ 3
place_length place h = digits_short 9 2 place h

answer_size : (answers : List ℕ) (place : ℕ) → place < 1000 → length (answer_line answers place) ≤ 50
answer_size answers place h =
    omega (arith, answer_length answers place, place_length place h, four_length (get_or answers (4 * place + 0) 0) (get_or answers (4 * place + 1) 0) (get_or answers (4 * place + 2) 0) (get_or answers (4 * place + 3) 0), digits-length 10 (get_or answers (4 * place + 0) 0))

record_size : (log : List ℕ) (r : ℕ) → get_or log (4 * r + 0) 0 < 1000 → length (record_line log r) ≤ 39
record_size log r h =
    omega (arith, record_length log r, place_length (get_or log (4 * r + 0) 0) h, four_length (get_or log (4 * r + 0) 0) (get_or log (4 * r + 1) 0) (get_or log (4 * r + 2) 0) (get_or log (4 * r + 3) 0))

-- how many of the first r records are of the first n places
told : List ℕ → ℕ → ℕ → ℕ
told log n zero = 0
told log n (suc r) = told log n r + pick (ltb (get_or log (4 * r + 0) 0) n) 1 0

told_within : (log : List ℕ) (n r : ℕ) → told log n r ≤ r
unfolding told
told_within log n zero = omega arith
told_within log n (suc r) = go (ltb (get_or log (4 * r + 0) 0) n) (told_within log n r)
  where
    go : (t : Bool) → told log n r ≤ r → told log n r + pick t 1 0 ≤ suc r
    go true h = omega arith
    go false h = omega arith

told_more : (log : List ℕ) (n r : ℕ) → get_or log (4 * r + 0) 0 < n → told log n (suc r) ≡ told log n r + 1
unfolding told
told_more log n r h = simp (lt-ltb (get_or log (4 * r + 0) 0) n h)

told_same : (log : List ℕ) (n r : ℕ) → n ≤ get_or log (4 * r + 0) 0 → told log n (suc r) ≡ told log n r
unfolding told
told_same log n r h = simp (le-ltb (get_or log (4 * r + 0) 0) n h) (omega arith)

lines_more : (log : List ℕ) (place r : ℕ) → get_or log (4 * r + 0) 0 ≡ place → length (record_lines log place (suc r)) ≡ length (record_lines log place r) + length (record_line log r)
unfolding record_lines
lines_more log place r e = simp (eq-eqb (get_or log (4 * r + 0) 0) place e) (length-append (record_lines log place r) (record_line log r))

lines_same : (log : List ℕ) (place r : ℕ) → (get_or log (4 * r + 0) 0 ≡ place → ⊥) → length (record_lines log place (suc r)) ≡ length (record_lines log place r)
unfolding record_lines
lines_same log place r e = simp (ne_eqb (get_or log (4 * r + 0) 0) place e, append-nil)

-- The records of one more place are told besides, each in 39 bytes.
records_size : (log : List ℕ) (place r : ℕ) → place < 1000 → length (record_lines log place r) + 39 * told log place r ≤ 39 * told log (suc place) r
unfolding told record_lines
records_size log place zero h = omega arith
records_size log place (suc r) h = go (ℕ_discrete (get_or log (4 * r + 0) 0) place) (dec_lt (get_or log (4 * r + 0) 0) place) (records_size log place r h)
  where
    go :
        Dec (get_or log (4 * r + 0) 0 ≡ place) →
        Dec (get_or log (4 * r + 0) 0 < place) →
        length (record_lines log place r) + 39 * told log place r ≤ 39 * told log (suc place) r →
        length (record_lines log place (suc r)) + 39 * told log place (suc r) ≤ 39 * told log (suc place) (suc r)
    go (yes e) d k =
        rw (lines_more log place r e, told_same log place r (omega arith), told_more log (suc place) r (omega arith)) (omega (arith, record_size log r (omega arith)))
    go (no e) (yes l) k =
        rw (lines_same log place r e, told_more log place r l, told_more log (suc place) r (omega arith)) (omega arith)
    go (no e) (no l) k =
        rw (lines_same log place r e, told_same log place r (omega arith), told_same log (suc place) r (omega arith)) (omega arith)

pub run_more_length : (answers log : List ℕ) (records n : ℕ) → length (run_lines answers log records (n + 1)) ≡ length (run_lines answers log records n) + length (answer_line answers n) + length (record_lines log n records)
run_more_length answers log records n = rw run_more (simp length-append)

run_size : (answers log : List ℕ) (records n : ℕ) → n ≤ 1000 → length (run_lines answers log records n) ≤ 50 * n + 39 * told log n records
unfolding run_lines
run_size answers log records zero h = omega arith
run_size answers log records (suc n) h =
    let e = run_more_length answers log records n in
    omega (arith, rw (add-one n) at e, run_size answers log records n (omega arith), answer_size answers n h, records_size log n records h)

-- The lines of 256 calls and 512 records fit the output.
pub run_fits : (answers log : List ℕ) (records n : ℕ) → n ≤ 256 → records ≤ 512 → length (run_lines answers log records n) ≤ 32768
run_fits answers log records n h k = omega (arith, run_size answers log records n (omega arith), told_within log n records)

-- So the next answer has room, with a letter before it,
pub answer_room : (answers log four : List ℕ) (records n place : ℕ) → four ≡ words_at answers place → place < n → n ≤ 256 → records ≤ 512
    → length (run_lines answers log records place) + (length (fields (place ∷ get_or four 0 0 ∷ get_or four 1 0 ∷ get_or four 2 0 ∷ get_or four 3 0 ∷ [])) + 2) ≤ 32768
answer_room answers log four records n place e h few k =
    let line = sym (ap length (answer_put answers four place e)) ∙ line_length 65 (place ∷ get_or four 0 0 ∷ get_or four 1 0 ∷ get_or four 2 0 ∷ get_or four 3 0 ∷ []) in
    omega (arith, line, run_more_length answers log records place, run_fits answers log records (place + 1) (omega arith) k)

-- and so have its records behind it.
pub records_fit : (answers log : List ℕ) (records n place : ℕ) → place < n → n ≤ 256 → records ≤ 512
    → length (run_lines answers log records place) + length (answer_line answers place) + length (record_lines log place records) ≤ 32768
records_fit answers log records n place h few k =
    omega (arith, run_more_length answers log records place, run_fits answers log records (place + 1) (omega arith) k)

-- A field has eleven bytes at most: a tab and ten digits.
pub fields_within : (xs : List ℕ) → length (fields xs) ≤ 11 * length xs
fields_within [] = omega (arith, fields_none)
fields_within (x ∷ xs) = omega (arith, fields-length x xs, digits-length 10 x, fields_within xs)

-- And so does the line of an error.
pub error_fits : (line : ℕ) → length (error_line line) ≤ 32768
error_fits line = simp (line_length, fields-length, fields_none) (omega (arith, digits-length 10 line))
