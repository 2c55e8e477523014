-- Laws of the lines of calls: a line is four fields, and where one field is none there is no line.
use Prim.Native.Nat.{ℕ, suc, ◌+◌, ◌≤◌, ◌<◌, ◌^◌}
use mathlib.Core.Path.{◌≡◌, refl, sym, ◌∙◌, ap}
use mathlib.Core.List.{List, [], ◌∷◌, ◌++◌, append_assoc}
use native.Mathlib.Omega.{arith}
use native.Mathlib.Decide.{dec_lt}
use lib.ListN.{length, get_or, drop, length-drop, length-append}
use lib.Seq.{drop-cons}
use Rattle.calls.specs.declared.Call.{Call}
use Rattle.text.specs.Decimal.{decimal, fields}
use Rattle.text.specs.Lines.{Small, NoLine, call_line}
use Rattle.text.specs.Parts.{Digit, NumberAt, FieldAt, NoField, LineAt}
use Rattle.text.proofs.DecimalLaws.{numbers_same}

-- What a field's end leaves is behind the number that is read.
pub behind_number : (s : List ℕ) (at end v next w : ℕ) (rest : List ℕ) → NumberAt s at v next → (Digit end → ⊥) → w < 2 ^ 32
    → drop at s ≡ decimal w ++ (end ∷ rest) → drop next s ≡ end ∷ rest
behind_number s at end v next w rest m d h e =
    (numbers_same v w (drop next s) (end ∷ rest) m.small h m.whole d (sym m.says ∙ e)).1

-- The text ends behind the number, or another byte stands there: no field.
pub other_end : (s : List ℕ) (at end v next : ℕ) → NumberAt s at v next → (Digit end → ⊥) → (next < length s → get_or s next 0 ≡ end → ⊥) → NoField (drop at s) end
other_end s at end v next m d f w rest k e = go (dec_lt next (length s))
  where
    behind : drop next s ≡ end ∷ rest
    behind = behind_number s at end v next w rest m d k e

    go : Dec (next < length s) → ⊥
    go (yes h) =
        let same : get_or s next 0 ∷ drop (suc next) s ≡ end ∷ rest = sym (drop-cons s next 0 h) ∙ behind in
        f h (cc)
    go (no h) = omega (arith, ap length behind, length-drop next s)

-- what a line says behind its third field
fourth : Call → List ℕ → List ℕ
fourth call rest = decimal call.c ++ (10 ∷ rest)

-- behind its second
third : Call → List ℕ → List ℕ
third call rest = decimal call.b ++ (9 ∷ fourth call rest)

-- behind its first
second : Call → List ℕ → List ℕ
second call rest = decimal call.a ++ (9 ∷ third call rest)

-- A list of fields is its first field, and the others.
pub fields_cons : (x : ℕ) (xs ys : List ℕ) → fields (x ∷ xs) ++ ys ≡ 9 ∷ (decimal x ++ (fields xs ++ ys))
unfolding fields
fields_cons x xs ys = ap (λ (l : List ℕ). 9 ∷ l) (append_assoc (decimal x) (fields xs) ys)

fields_nil : (ys : List ℕ) → fields [] ++ ys ≡ ys
unfolding fields
fields_nil ys = refl

line_split : (call : Call) (rest : List ℕ) → call_line call ++ rest ≡ decimal call.n ++ (9 ∷ second call rest)
unfolding call_line second third fourth
line_split call rest = simp (append_assoc, fields_cons, fields_nil)

-- Four fields make a line.
pub line_made : (s : List ℕ) (at two three four next n a b c : ℕ) → FieldAt s at 9 n two → FieldAt s two 9 a three → FieldAt s three 9 b four → FieldAt s four 10 c next
    → LineAt s at (record { n = n; a = a; b = b; c = c }) next
unfolding second third fourth
line_made s at two three four next n a b c f g h k =
    record {
      small = record { small_n = f.small; small_a = g.small; small_b = h.small; small_c = k.small };
      within = k.within;
      says = f.says ∙ rw (g.says, h.says, k.says) (sym (line_split _ (drop next s)));
    }

-- What stands behind a field that is read.
behind : (s : List ℕ) (at end v next w : ℕ) (rest : List ℕ) → (Digit end → ⊥) → FieldAt s at end v next → w < 2 ^ 32
    → drop at s ≡ decimal w ++ (end ∷ rest) → drop next s ≡ rest
behind s at end v next w rest d f h e =
    let both : end ∷ drop next s ≡ end ∷ rest
    = (numbers_same v w (end ∷ drop next s) (end ∷ rest) f.small h d d (sym f.says ∙ e)).1 in
    cc

-- A field is none, so the line is none: the first,
pub no_first : (s : List ℕ) (at : ℕ) → NoField (drop at s) 9 → NoLine (drop at s)
no_first s at f call rest small e = f call.n (second call rest) small.small_n (e ∙ line_split call rest)

module _ (s : List ℕ) (at n two : ℕ) (f : FieldAt s at 9 n two) where
  to_second : (call : Call) (rest : List ℕ) → Small call → drop at s ≡ call_line call ++ rest → drop two s ≡ second call rest
  to_second call rest small e = behind s at 9 n two call.n (second call rest) (λ d. omega arith) f small.small_n (e ∙ line_split call rest)

  -- the second behind a good first,
  pub no_second : NoField (drop two s) 9 → NoLine (drop at s)
  unfolding second
  no_second g call rest small e = g call.a (third call rest) small.small_a (to_second call rest small e)

  module _ (a three : ℕ) (g : FieldAt s two 9 a three) where
    to_third : (call : Call) (rest : List ℕ) → Small call → drop at s ≡ call_line call ++ rest → drop three s ≡ third call rest
    unfolding second
    to_third call rest small e = behind s two 9 a three call.a (third call rest) (λ d. omega arith) g small.small_a (to_second call rest small e)

    -- the third behind two good ones,
    pub no_third : NoField (drop three s) 9 → NoLine (drop at s)
    unfolding third
    no_third h call rest small e = h call.b (fourth call rest) small.small_b (to_third call rest small e)

    -- or the fourth behind three.
    pub no_fourth : (b four : ℕ) → FieldAt s three 9 b four → NoField (drop four s) 10 → NoLine (drop at s)
    unfolding third fourth
    no_fourth b four h k call rest small e =
        k call.c rest small.small_c (behind s three 9 b four call.b (fourth call rest) (λ d. omega arith) h small.small_b (to_third call rest small e))

-- A line that is read leads on.
pub line_ahead : (s : List ℕ) (at : ℕ) (call : Call) (next : ℕ) → at ≤ length s → LineAt s at call next → at < next
unfolding call_line
line_ahead s at call next h k =
    let e : length (drop at s) ≡ length (call_line call) + length (drop next s) = ap length k.says ∙ length-append (call_line call) (drop next s) in
    let some : 1 ≤ length (call_line call) = simp length-append (omega arith) in
    omega (arith, length-drop at s, length-drop next s, k.within)
