-- Laws of a list of calls: one call more, as text, as words, and as words that are stored.
use Prim.Native.Nat.{ℕ, suc, ◌+◌, ◌*◌, ◌≤◌}
use mathlib.Core.Path.{◌≡◌, refl, sym, ◌∙◌, ap}
use mathlib.Core.List.{List, [], ◌∷◌, ◌++◌, append_assoc, append-nil}
use native.Mathlib.Omega.{arith}
use native.Mathlib.Nat.{add-zero, zero-add}
use lib.ListN.{length, drop, set}
use lib.Seq.{sets, sets-eq, take_at, drop_at}
use Rattle.std.proofs.lemmas.Slice.{drop-append-drop}
use Rattle.slabs.specs.Rows.{set_row}
use Rattle.calls.specs.declared.Call.{Call}
use Rattle.text.specs.Lines.{Small, AllSmall, call_line, call_text, call_words}
use Rattle.text.specs.Parts.{Front}

-- the words of one call
abbrev pub words_of : Call → List ℕ
words_of call = call.n ∷ call.a ∷ call.b ∷ call.c ∷ []

-- One call more adds its line,
pub text_snoc : (calls : List Call) (call : Call) → call_text (calls ++ (call ∷ [])) ≡ call_text calls ++ call_line call
unfolding call_text
text_snoc [] call = append-nil (call_line call)
text_snoc (x ∷ calls) call = ap (λ (l : List ℕ). call_line x ++ l) (text_snoc calls call) ∙ sym (append_assoc (call_line x) (call_text calls) (call_line call))

-- adds its words,
pub words_snoc : (calls : List Call) (call : Call) → call_words (calls ++ (call ∷ [])) ≡ call_words calls ++ words_of call
unfolding call_words
words_snoc [] call = refl
words_snoc (x ∷ calls) call = ap (λ (l : List ℕ). words_of x ++ l) (words_snoc calls call)

-- and is as small as the others.
pub small_snoc : (calls : List Call) (call : Call) → AllSmall calls → Small call → AllSmall (calls ++ (call ∷ []))
small_snoc [] call h k = (k, tt)
small_snoc (x ∷ calls) call h k = (h.0, small_snoc calls call h.1 k)

-- Each call has four words.
pub words_length : (calls : List Call) → length (call_words calls) ≡ 4 * length calls
unfolding call_words
words_length [] = refl
words_length (x ∷ calls) = omega (arith, words_length calls)

-- Words that are stored behind others are stored with them.
pub sets_append : (l xs ys : List ℕ) (i : ℕ) → sets (sets l i xs) (i + length xs) ys ≡ sets l i (xs ++ ys)
sets_append l [] ys i = rw add-zero
sets_append l (x ∷ xs) ys i =
    let e : i + suc (length xs) ≡ suc i + length xs = omega arith in
    rw e (sets_append (set l i x) xs ys (suc i))

-- What is stored at the front stands there, and the rest stays.
pub sets_front : (l xs : List ℕ) → length xs ≤ length l → sets l 0 xs ≡ xs ++ drop (length xs) l
sets_front l xs h =
    let k : 0 + length xs ≤ length l = omega arith in
    sets-eq xs l 0 k ∙ rw zero-add

-- A row that is written behind others stands behind them.
pub set_row_behind : (xs ys l : List ℕ) (wide row : ℕ) → length xs ≡ wide * row → set_row (xs ++ drop (wide * row) l) wide row ys ≡ xs ++ ys ++ drop (wide * row + wide) l
set_row_behind xs ys l wide row e =
    let kept = take_at xs (drop (wide * row) l) (wide * row) e in
    let past = drop-append-drop (wide * row) l xs (wide * row + wide) (omega arith) e in
    rw (kept, past) refl

-- The words of some calls at the front of an array, and the words after them as they were.
pub front_made : (calls : List Call) (words words' : List ℕ) → words' ≡ call_words calls ++ drop (4 * length calls) words → Front calls words words'
front_made calls words words' e =
    record {
      front = rw e (take_at (call_words calls) _ (4 * length calls) (words_length calls));
      rest = rw e (drop_at (call_words calls) _ (4 * length calls) (words_length calls));
    }
