-- Laws of the output: the lines that bytes make one behind the other, and how long those are.
use Prim.Native.Nat.{ℕ, suc, zero, ◌+◌, ◌-◌, ◌*◌, ◌/◌, ◌%◌, ◌^◌, ◌≤◌, ◌<◌}
use mathlib.Core.Path.{◌≡◌, refl, sym, ◌∙◌, ap}
use mathlib.Core.List.{List, [], ◌∷◌, ◌++◌, append_assoc, append-nil}
use native.Mathlib.Omega.{arith}
use native.Mathlib.Nat.{add-zero}
use native.Mathlib.Decide.{ℕ_discrete}
use native.Mathlib.Numerals.{add-one}
use borrow.Author.Tests.{eq-eqb, ne_eqb}
use lib.ListN.{length, get_or, take, drop, length-append, take-append-drop, length-take}
use lib.Seq.{sets-eq, take-suc, get_or-take, drop-drop}
use borrow.Rule.Slice.PartMut.{put_mid}
use Rattle.text.specs.Decimal.{decimal, fields}
use Rattle.text.specs.Lines.{newline, answer_line, record_line, record_lines, run_lines}
use Rattle.text.specs.Parts.{words_at, Put, Written}
use Rattle.text.proofs.DecimalLaws.{digits_one, decimal_last}
use Rattle.text.proofs.CallLaws.{sets_append, sets_front}

-- Fields behind fields.
pub fields_append : (xs ys : List ℕ) → fields (xs ++ ys) ≡ fields xs ++ fields ys
unfolding fields
fields_append [] ys = refl
fields_append (x ∷ xs) ys =
    ap (λ (l : List ℕ). (9 ∷ decimal x) ++ l) (fields_append xs ys) ∙ sym (append_assoc (9 ∷ decimal x) (fields xs) (fields ys))

-- No field.
pub no_fields : fields [] ≡ []
unfolding fields
no_fields = refl

-- One field.
pub fields_one : (x : ℕ) → fields (x ∷ []) ≡ 9 ∷ decimal x
unfolding fields
fields_one x = append-nil (9 ∷ decimal x)

-- One field more.
pub fields_more : (xs : List ℕ) (i : ℕ) → i < length xs → fields (take (i + 1) xs) ≡ fields (take i xs) ++ (9 ∷ decimal (get_or xs i 0))
fields_more xs i more =
    rw (add-one, take-suc xs i 0) (fields_append (take i xs) (get_or xs i 0 ∷ []) ∙ ap (λ (l : List ℕ). fields (take i xs) ++ l) (fields_one (get_or xs i 0)))

-- There is room for the next field where there is room for all.
pub fields_room : (xs : List ℕ) (i : ℕ) → i < length xs → length (fields (take i xs)) + (1 + length (decimal (get_or xs i 0))) ≤ length (fields xs)
fields_room xs i more =
    let split : fields xs ≡ fields (take (i + 1) xs) ++ fields (drop (i + 1) xs)
    = ap fields (sym (take-append-drop (i + 1) xs)) ∙ fields_append (take (i + 1) xs) (drop (i + 1) xs) in
    let size : length (fields xs) ≡ length (fields (take i xs)) + (1 + length (decimal (get_or xs i 0))) + length (fields (drop (i + 1) xs))
    = ap length split ∙ rw (fields_more xs i more) (simp length-append (omega arith)) in
    omega arith

-- Four words behind a place are the answer at that place.
pub answer_put : (answers four : List ℕ) (place : ℕ) → four ≡ words_at answers place
    → (65 ∷ fields (place ∷ get_or four 0 0 ∷ get_or four 1 0 ∷ get_or four 2 0 ∷ get_or four 3 0 ∷ [])) ++ newline ≡ answer_line answers place
answer_put answers four place e = rw e

-- A record that is the four words at its place names the place that its first word is.
record_named : (log four : List ℕ) (r : ℕ) → four ≡ words_at log r → get_or four 0 0 ≡ get_or log (4 * r) 0
record_named log four r e = rw e (ap (λ (i : ℕ). get_or log i 0) (omega arith))

-- Two runs of bytes that are stored one behind the other are one run.
pub put_more : (xs ys out out₁ out₂ : List ℕ) (at mid next : ℕ) → Put xs out at out₁ mid → Put ys out₁ mid out₂ next → Put (xs ++ ys) out at out₂ next
put_more xs ys out out₁ out₂ at mid next p q =
    record {
      counted = simp length-append (omega (arith, p.counted, q.counted));
      wrote = q.wrote ∙ rw (p.wrote, p.counted) (sets_append out xs ys at);
    }

-- What is stored from the front on stands there.
pub put_front : (xs out out' : List ℕ) (next : ℕ) → length xs ≤ length out → Put xs out 0 out' next → Written xs out out' next
put_front xs out out' next h p =
    let e : next ≡ length xs = omega (arith, p.counted) in
    record { counted = e; wrote = p.wrote ∙ rw e (sets_front out xs h) }

-- Bytes that are copied over as many places are stored there.
pub put_made : (bytes mid out : List ℕ) (at n : ℕ) → mid ≡ bytes → n ≡ length bytes → at + n ≤ length out → Put bytes out at (put_mid at (at + n - at) out mid) (at + n)
put_made bytes mid out at n same counted room =
    let k : at + n - at ≡ length bytes = omega arith in
    let inside : at + length bytes ≤ length out = omega arith in
    record {
      counted = omega arith;
      wrote = rw (k, same, drop-drop (length bytes) at out) (sym (sets-eq bytes out at inside ∙ append_assoc (take at out) bytes (drop (at + length bytes) out)));
    }

-- Nothing is put by storing nothing.
pub put_nothing : (out : List ℕ) (at : ℕ) → Put [] out at out at
put_nothing out at = record { counted = omega arith; wrote = refl }

-- So is a line without fields.
pub put_none : (out : List ℕ) (at : ℕ) → Put (fields []) out at out at
unfolding fields
put_none = put_nothing

-- A field and the fields behind it.
pub put_fields : (x : ℕ) (xs out out₁ out₂ : List ℕ) (at mid next : ℕ) → Put (9 ∷ decimal x) out at out₁ mid → Put (fields xs) out₁ mid out₂ next → Put (fields (x ∷ xs)) out at out₂ next
unfolding fields
put_fields x xs = put_more (9 ∷ decimal x) (fields xs)

-- A letter, fields and a newline make a line.
pub put_line :
    (b : ℕ) (xs out out₁ out₂ out₃ : List ℕ) (at one two next : ℕ) →
    Put (b ∷ []) out at out₁ one →
    Put (fields xs) out₁ one out₂ two →
    Put newline out₂ two out₃ next →
    Put ((b ∷ fields xs) ++ newline) out at out₃ next
put_line b xs out out₁ out₂ out₃ at one two next p q r =
    put_more (b ∷ []) (fields xs ++ newline) out out₁ out₃ at one next p (put_more (fields xs) newline out₁ out₂ out₃ one two next q r)

-- A number of one digit is put as that digit.
pub put_digit : (x : ℕ) (out : List ℕ) (at : ℕ) (out' : List ℕ) (next : ℕ) → x < 10 → Put ((x + 48) ∷ []) out at out' next → Put (decimal x) out at out' next
put_digit x out at out' next h p = let e : x + 48 ≡ 48 + x = omega arith in rw (digits_one 9 x h) (rw e at p)

-- Any other is put as a tenth of it, and its last digit behind.
pub put_last :
    (x : ℕ) (out out₁ out₂ : List ℕ) (at mid next : ℕ) →
    10 ≤ x →
    x < 10 ^ 10 →
    Put (decimal (x / 10)) out at out₁ mid →
    Put ((x % 10 + 48) ∷ []) out₁ mid out₂ next →
    Put (decimal x) out at out₂ next
put_last x out out₁ out₂ at mid next h k p q =
    let e : x % 10 + 48 ≡ 48 + x % 10 = omega arith in
    rw (decimal_last x h k) (put_more (decimal (x / 10)) ((48 + x % 10) ∷ []) out out₁ out₂ at mid next p (rw e at q))

-- A field is as long as its number and a tab.
pub fields-length : (x : ℕ) (xs : List ℕ) → length (fields (x ∷ xs)) ≡ suc (length (decimal x)) + length (fields xs)
unfolding fields
fields-length x xs = length-append (9 ∷ decimal x) (fields xs)

-- A number of two digits or more has one more than its tenth.
pub last_length : (x : ℕ) → 10 ≤ x → x < 10 ^ 10 → length (decimal x) ≡ length (decimal (x / 10)) + 1
last_length x h k = rw (decimal_last x h k) (length-append (decimal (x / 10)) ((48 + x % 10) ∷ []))

-- No field, no byte.
pub fields_none : length (fields []) ≡ 0
unfolding fields
fields_none = refl

-- A line is as long as its fields, its letter and its newline.
pub line_length : (b : ℕ) (xs : List ℕ) → length ((b ∷ fields xs) ++ newline) ≡ length (fields xs) + 2
line_length b xs = simp length-append (omega arith)

-- An answer line: its place and four words.
pub answer_length : (answers : List ℕ) (place : ℕ) → length (answer_line answers place) ≡ length (decimal place) + length (fields (words_at answers place)) + 3
answer_length answers place =
    line_length 65 (place ∷ words_at answers place) ∙ omega (arith, fields-length place (words_at answers place))

-- A record line: four words.
pub record_length : (log : List ℕ) (r : ℕ) → length (record_line log r) ≡ length (fields (words_at log r)) + 2
record_length log r = line_length 82 (words_at log r)

-- A record of this place adds its line,
pub records_taken : (log : List ℕ) (place n : ℕ) → get_or log (4 * n) 0 ≡ place → record_lines log place (n + 1) ≡ record_lines log place n ++ record_line log n
unfolding record_lines
records_taken log place n e =
    let f : get_or log (4 * n + 0) 0 ≡ place = rw add-zero e in
    rw (add-one n) (simp (eq-eqb (get_or log (4 * n + 0) 0) place f))

-- and one of another adds none.
pub records_left : (log : List ℕ) (place n : ℕ) → (get_or log (4 * n) 0 ≡ place → ⊥) → record_lines log place (n + 1) ≡ record_lines log place n
unfolding record_lines
records_left log place n e =
    let f : get_or log (4 * n + 0) 0 ≡ place → ⊥ = rw add-zero e in
    rw (add-one n) (simp (ne_eqb (get_or log (4 * n + 0) 0) place f) (append-nil (record_lines log place n)))

-- So a record of this place that is put adds its line,
pub record_put : (log four out : List ℕ) (place r : ℕ) → four ≡ words_at log r → get_or four 0 0 ≡ place
    → (out ++ record_lines log place r) ++ ((82 ∷ fields four) ++ newline) ≡ out ++ record_lines log place (r + 1)
record_put log four out place r e named =
    rw (e, records_taken log place r (sym (record_named log four r e) ∙ named)) (append_assoc out (record_lines log place r) (record_line log r))

-- and one of another that is passed by adds none.
pub record_passed : (log four : List ℕ) (place r : ℕ) → four ≡ words_at log r → (get_or four 0 0 ≡ place → ⊥) → record_lines log place r ≡ record_lines log place (r + 1)
record_passed log four place r e other = sym (records_left log place r (λ q. other (record_named log four r e ∙ q)))

-- The first records of a log are those of its front.
lines_front : (log : List ℕ) (place k n : ℕ) → n ≤ k → record_lines (take (4 * k) log) place n ≡ record_lines log place n
unfolding record_lines
lines_front log place k zero h = refl
lines_front log place k (suc n) h =
    let word : (j : ℕ) → j < 4 → get_or (take (4 * k) log) (4 * n + j) 0 ≡ get_or log (4 * n + j) 0
    = λ j less. let below : 4 * n + j < 4 * k = omega arith in rw get_or-take in
    rw (word 0 (omega arith), word 1 (omega arith), word 2 (omega arith), word 3 (omega arith), lines_front log place k n (omega arith)) refl

pub written_lines : (log : List ℕ) (place records : ℕ) → 4 * records ≤ length log
    → record_lines (take (4 * records) log) place (length (take (4 * records) log) / 4) ≡ record_lines log place records
written_lines log place records h =
    let e : length (take (4 * records) log) / 4 ≡ records = omega (arith, length-take (4 * records) log) in
    rw e (lines_front log place records records (omega arith))

-- One call more: its answer line, and the lines of its records.
pub run_more : (answers log : List ℕ) (records n : ℕ)
    → run_lines answers log records (n + 1) ≡ (run_lines answers log records n ++ answer_line answers n) ++ record_lines log n records
unfolding run_lines
run_more answers log records n =
    rw (add-one n) (sym (append_assoc (run_lines answers log records n) (answer_line answers n) (record_lines log n records)))

-- The lines of fewer records are no longer.
pub records_within : (log : List ℕ) (place n more : ℕ) → n ≤ more → length (record_lines log place n) ≤ length (record_lines log place more)
unfolding record_lines
records_within log place n zero h = let e : n ≡ 0 = omega arith in rw e (omega arith)
records_within log place n (suc more) h = go (ℕ_discrete n (suc more)) (records_within log place n more)
  where
    go : Dec (n ≡ suc more) → (n ≤ more → length (record_lines log place n) ≤ length (record_lines log place more)) → length (record_lines log place n) ≤ length (record_lines log place (suc more))
    go (yes e) f = rw e (omega arith)
    go (no e) f = simp length-append (omega (arith, f (omega arith)))

-- The line of a record of this place fits behind the lines before it.
pub record_room : (log four : List ℕ) (place r more : ℕ) → four ≡ words_at log r → get_or four 0 0 ≡ place → r < more
    → length (record_lines log place r) + (length (fields four) + 2) ≤ length (record_lines log place more)
record_room log four place r more e named h =
    let line : length (record_lines log place (r + 1)) ≡ length (record_lines log place r) + length ((82 ∷ fields four) ++ newline)
    = sym (ap length (record_put log four [] place r e named)) ∙ length-append (record_lines log place r) ((82 ∷ fields four) ++ newline) in
    omega (arith, line_length 82 four, records_within log place (r + 1) more (omega arith))
