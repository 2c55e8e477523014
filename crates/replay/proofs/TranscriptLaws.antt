-- Laws of a transcript: how the lines of a run follow one another.
use Rattle.std.proofs.Common.{◌≡◌, ℕ, ◌+◌, ◌*◌, ◌/◌, ◌≤◌, List, [], ◌∷◌, ◌++◌, length, get_or, ap, sym, ◌∙◌, arith, subst, add-one}
use mathlib.Core.Logic.{◌⊎◌, inl, inr}
use Rattle.std.specs.Prelude.{Option, None}
use Rattle.std.specs.Io.KnownBytes.{Appends}
use Rattle.std.proofs.KnownBytes.{Appends-nil, Appends-trans}
use Rattle.std.specs.Slice.Iter.{chunks_exact_steps}
use Rattle.std.specs.declared.slice.ChunksExact.{ChunksExact}
use Rattle.text.specs.Decimal.{fields}
use Rattle.text.specs.Lines.{newline, answer_line, record_line, record_lines}
use Rattle.text.specs.Parts.{words_at}
use Rattle.text.proofs.FourLaws.{FoursGiven, fours_end}
use Rattle.text.proofs.OutputLaws.{records_taken, records_left}
use Rattle.replay.specs.Transcript.{call_line, transcript}

-- A run of 256 calls at the most is over where no number, no call or no answer is given.
pub run_end :
    (calls answers : List ℕ) (n : ℕ) (s t : ChunksExact ℕ) (Full Pair : Type 0) →
    FoursGiven calls n s →
    FoursGiven answers n t →
    length calls ≤ 1024 →
    length answers ≡ 1024 →
    (Full → ⊥) →
    Full ⊎ (Pair × (((u : ChunksExact ℕ) × chunks_exact_steps s None u) ⊎ ((u : ChunksExact ℕ) × chunks_exact_steps t None u))) →
    length calls / 4 ≡ n
run_end calls answers n s t Full Pair f g few all not (inl full) = absurd (not full)
run_end calls answers n s t Full Pair f g few all not (inr (p, inl (u, step))) = fours_end calls n s u f step
run_end calls answers n s t Full Pair f g few all not (inr (p, inr (u, step))) =
    let whole : length answers / 4 ≡ n = fours_end answers n t u g step in
    omega (arith, f.within)

-- A record of this place is printed behind those before it,
pub record_printed : (a b c : Option (List ℕ)) (log four : List ℕ) (place r : ℕ) → four ≡ words_at log r → get_or four 0 0 ≡ place
    → Appends a b (record_lines log place r) → Appends b c ((82 ∷ fields four) ++ newline)
    → Appends a c (record_lines log place (r + 1))
record_printed a b c log four place r here named before line =
    let first : 4 * r ≡ 4 * r + 0 = omega arith in
    let this : get_or log (4 * r) 0 ≡ place = ap (λ (i : ℕ). get_or log i 0) first ∙ sym (ap (λ (words : List ℕ). get_or words 0 0) here) ∙ named in
    let said : Appends b c (record_line log r) = subst (λ (words : List ℕ). Appends b c ((82 ∷ fields words) ++ newline)) here line in
    let both : Appends a c (record_lines log place r ++ record_line log r) = Appends-trans a b c _ _ before said in
    rw (records_taken log place r this) both

-- and one of another is passed by.
pub record_passed : (a b : Option (List ℕ)) (log four : List ℕ) (place r : ℕ) → four ≡ words_at log r → (get_or four 0 0 ≡ place → ⊥)
    → Appends a b (record_lines log place r) → Appends a b (record_lines log place (r + 1))
record_passed a b log four place r here other before =
    let first : 4 * r + 0 ≡ 4 * r = omega arith in
    let this : get_or four 0 0 ≡ get_or log (4 * r) 0 = ap (λ (words : List ℕ). get_or words 0 0) here ∙ ap (λ (i : ℕ). get_or log i 0) first in
    rw (records_left log place r (λ q. other (this ∙ q))) before

-- Nothing is printed before the first record,
pub no_record : (a : Option (List ℕ)) (log : List ℕ) (place : ℕ) → Appends a a (record_lines log place 0)
unfolding record_lines
no_record a log place = Appends-nil a

-- or before the first call.
pub no_call : (a : Option (List ℕ)) (calls answers log : List ℕ) → Appends a a (transcript calls answers log 0)
unfolding transcript
no_call a calls answers log = Appends-nil a

-- A call, its answer and its records are printed behind the calls before it.
pub call_printed : (a b c d e : Option (List ℕ)) (calls answers log call answer : List ℕ) (n place : ℕ) → place ≡ n → call ≡ words_at calls n → answer ≡ words_at answers n
    → Appends a b (transcript calls answers log n)
    → Appends b c ((67 ∷ fields call) ++ newline)
    → Appends c d ((65 ∷ fields (place ∷ get_or answer 0 0 ∷ get_or answer 1 0 ∷ get_or answer 2 0 ∷ get_or answer 3 0 ∷ [])) ++ newline)
    → Appends d e (record_lines log place (length log / 4))
    → Appends a e (transcript calls answers log (n + 1))
unfolding transcript
call_printed a b c d e calls answers log call answer n place here asked answered before said told records =
    let first : Appends b c (call_line calls n) = subst (λ (words : List ℕ). Appends b c ((67 ∷ fields words) ++ newline)) asked said in
    let second : Appends c d (answer_line answers n)
    = subst (λ (words : List ℕ). Appends c d ((65 ∷ fields (n ∷ get_or words 0 0 ∷ get_or words 1 0 ∷ get_or words 2 0 ∷ get_or words 3 0 ∷ [])) ++ newline)) answered (rw here at told) in
    let third : Appends d e (record_lines log n (length log / 4)) = rw here at records in
    let rest : Appends b e (call_line calls n ++ (answer_line answers n ++ record_lines log n (length log / 4)))
    = Appends-trans b c e _ _ first (Appends-trans c d e _ _ second third) in
    rw add-one (Appends-trans a b e _ _ before rest)
