-- What the parts of the desk's reader and writer promise.
use Rattle.std.specs.Prelude.{ℕ, ◌+◌, ◌*◌, ◌≤◌, ◌<◌, ◌^◌, ◌≡◌, List, [], ◌∷◌, ◌++◌, length, get_or, take, drop, Option, Some, None, Result, Ok, Err}
use Rattle.std.proofs.lemmas.List.Edits.{sets}
use Rattle.text.specs.Decimal.{decimal}
use Rattle.calls.specs.declared.Call.{Call}
use Rattle.text.specs.Lines.{Small, NoLine, Good, BadAt, call_line, call_words}
use Rattle.text.specs.declared.input.BadLine.{BadLine}

-- a byte is a digit
abbrev pub Digit : ℕ → Type 0
Digit b = (48 ≤ b) × (b ≤ 57)

-- every byte is one
abbrev pub AllDigits : List ℕ → Type 0
AllDigits [] = Unit {0}
AllDigits (b ∷ rest) = Digit b × AllDigits rest

-- no digit stands at the start of this text
abbrev pub NoDigit : List ℕ → Type 0
NoDigit [] = Unit {0}
NoDigit (b ∷ rest) = Digit b → ⊥

-- n digits stand from a place on, counted up to 11
pub record DigitsAt (s : List ℕ) (at n : ℕ) : Type 0 where
  pub few : n ≤ 11
  pub within : at + n ≤ length s
  pub all : AllDigits (take n (drop at s))
  pub whole : n < 11 → NoDigit (drop (at + n) s)

-- A number stands from a place up to the next, and no digit follows it.
pub record NumberAt (s : List ℕ) (at v next : ℕ) : Type 0 where
  pub small : v < 2 ^ 32
  pub within : next ≤ length s
  pub says : drop at s ≡ decimal v ++ drop next s
  pub whole : NoDigit (drop next s)

-- no number with all its digits stands at the start of this text
abbrev pub NoNumber : List ℕ → Type 0
NoNumber text = (v : ℕ) (rest : List ℕ) → v < 2 ^ 32 → NoDigit rest → text ≡ decimal v ++ rest → ⊥

-- what is read at a place: the number there, or none where there is none
abbrev pub NumberRead : List ℕ → ℕ → Option (ℕ × ℕ) → Type 0
NumberRead s at (Some (v, next)) = NumberAt s at v next
NumberRead s at None = NoNumber (drop at s)

-- A number stands at a place, and a byte ends it just before the next.
pub record FieldAt (s : List ℕ) (at end v next : ℕ) : Type 0 where
  pub small : v < 2 ^ 32
  pub within : next ≤ length s
  pub says : drop at s ≡ decimal v ++ (end ∷ drop next s)

-- no number that this byte ends stands at the start of this text
abbrev pub NoField : List ℕ → ℕ → Type 0
NoField text end = (v : ℕ) (rest : List ℕ) → v < 2 ^ 32 → text ≡ decimal v ++ (end ∷ rest) → ⊥

-- what is read where a number and its end may stand
abbrev pub FieldRead : List ℕ → ℕ → ℕ → Option (ℕ × ℕ) → Type 0
FieldRead s at end (Some (v, next)) = FieldAt s at end v next
FieldRead s at end None = NoField (drop at s) end

-- A good line stands from a place up to the next.
pub record LineAt (s : List ℕ) (at : ℕ) (call : Call) (next : ℕ) : Type 0 where
  pub small : Small call
  pub within : next ≤ length s
  pub says : drop at s ≡ call_line call ++ drop next s

-- what is read where a line may stand
abbrev pub LineRead : List ℕ → ℕ → Option (Call × ℕ) → Type 0
LineRead s at (Some (call, next)) = LineAt s at call next
LineRead s at None = NoLine (drop at s)

-- The words of some calls stand at the front of an array, and the words after them stay.
pub record Front (calls : List Call) (words words' : List ℕ) : Type 0 where
  pub front : take (4 * length calls) words' ≡ call_words calls
  pub rest : drop (4 * length calls) words' ≡ drop (4 * length calls) words

-- A good text is read: so many calls, and their words.
pub record CallsRead (s words words' : List ℕ) (n : ℕ) : Type 0 where
  pub calls : List Call
  pub good : Good s calls
  pub counted : n ≡ length calls
  pub kept : Front calls words words'

-- A bad text is read: its first bad line, and the words of the lines before it.
pub record BadRead (s words words' : List ℕ) (line : ℕ) : Type 0 where
  pub bad : BadAt s line
  pub kept : Front bad.before words words'

-- what is read of a text, and what that leaves in the array of words
abbrev pub TextRead : List ℕ → List ℕ → List ℕ → Result ℕ BadLine → Type 0
TextRead s words words' (Ok n) = CallsRead s words words' n
TextRead s words words' (Err first) = BadRead s words words' first.line

-- the four words of entry i
abbrev pub words_at : List ℕ → ℕ → List ℕ
words_at words i = get_or words (4 * i + 0) 0 ∷ get_or words (4 * i + 1) 0 ∷ get_or words (4 * i + 2) 0 ∷ get_or words (4 * i + 3) 0 ∷ []

-- Some bytes are stored from a place on, and what is handed back is the place behind them.
pub record Put (bytes out : List ℕ) (at : ℕ) (out' : List ℕ) (next : ℕ) : Type 0 where
  pub counted : next ≡ at + length bytes
  pub wrote : out' ≡ sets out at bytes

-- Some bytes stand at the front of the output, so many, and the bytes after them stay.
pub record Written (bytes out out' : List ℕ) (n : ℕ) : Type 0 where
  pub counted : n ≡ length bytes
  pub wrote : out' ≡ bytes ++ drop n out
