-- The lines of the desk (document 01, "The desk program"): what a text of calls says, its first bad line, and the answer.
use Rattle.std.specs.Prelude.{ℕ, suc, zero, ◌+◌, ◌-◌, ◌*◌, ◌≤◌, ◌<◌, ◌^◌, ◌≡◌, List, [], ◌∷◌, ◌++◌, length, get_or, replicate, eqb}
use Rattle.slabs.specs.Choice.{pick}
use Rattle.slabs.specs.Counters.{none_counted}
use Rattle.edits.specs.Store.{store_of}
use Rattle.calls.specs.declared.Call.{Call}
use Rattle.run.specs.Run.{Lent, Midway, midway}
use Rattle.text.specs.Decimal.{decimal, fields}
use Rattle.text.specs.declared.Page.{Page}

-- a line ends with LF
abbrev pub newline : List ℕ
newline = 10 ∷ []

-- the line of a call: four numbers parted by tabs
unfoldable pub call_line : Call → List ℕ
call_line call = decimal call.n ++ (fields (call.a ∷ call.b ∷ call.c ∷ []) ++ newline)

-- the text of some calls
unfoldable pub call_text : List Call → List ℕ
call_text [] = []
call_text (call ∷ rest) = call_line call ++ call_text rest

-- each of its numbers is at most 4,294,967,295
pub record Small (call : Call) : Type 0 where
  pub small_n : call.n < 2 ^ 32
  pub small_a : call.a < 2 ^ 32
  pub small_b : call.b < 2 ^ 32
  pub small_c : call.c < 2 ^ 32

abbrev pub AllSmall : List Call → Type 0
AllSmall [] = Unit {0}
AllSmall (call ∷ rest) = Small call × AllSmall rest

-- no good line stands at the start of this text
abbrev pub NoLine : List ℕ → Type 0
NoLine text = (call : Call) (rest : List ℕ) → Small call → text ≡ call_line call ++ rest → ⊥

-- A text is good: it says these calls, 256 at the most.
pub record Good (text : List ℕ) (calls : List Call) : Type 0 where
  pub says : text ≡ call_text calls
  pub small : AllSmall calls
  pub few : length calls ≤ 256

-- Its first bad line is number line, from 1: the lines before it are good, and what follows is no good line, or a 257th.
pub record BadAt (text : List ℕ) (line : ℕ) : Type 0 where
  pub before : List Call
  pub rest : List ℕ
  pub says : text ≡ call_text before ++ rest
  pub small : AllSmall before
  pub counted : line ≡ length before + 1
  pub more : rest ≡ [] → ⊥
  pub bad : length before < 256 → NoLine rest
  pub few : length before ≤ 256

-- the words of some calls
unfoldable pub call_words : List Call → List ℕ
call_words [] = []
call_words (call ∷ rest) = call.n ∷ call.a ∷ call.b ∷ call.c ∷ call_words rest

-- A, place, code and three values
abbrev pub answer_line : List ℕ → ℕ → List ℕ
answer_line answers place =
    (65 ∷ fields (place ∷ get_or answers (4 * place + 0) 0 ∷ get_or answers (4 * place + 1) 0 ∷ get_or answers (4 * place + 2) 0 ∷ get_or answers (4 * place + 3) 0 ∷ [])) ++ newline

-- R, place, kind, old and new
abbrev pub record_line : List ℕ → ℕ → List ℕ
record_line log r =
    (82 ∷ fields (get_or log (4 * r + 0) 0 ∷ get_or log (4 * r + 1) 0 ∷ get_or log (4 * r + 2) 0 ∷ get_or log (4 * r + 3) 0 ∷ [])) ++ newline

-- of the first n records those of this place
unfoldable pub record_lines : List ℕ → ℕ → ℕ → List ℕ
record_lines log place zero = []
record_lines log place (suc n) = record_lines log place n ++ pick (eqb (get_or log (4 * n + 0) 0) place) (record_line log n) []

-- the answers of the first n calls, each with its records
unfoldable pub run_lines : List ℕ → List ℕ → ℕ → ℕ → List ℕ
run_lines answers log records zero = []
run_lines answers log records (suc n) = run_lines answers log records n ++ (answer_line answers n ++ record_lines log n records)

-- E and the line
abbrev pub error_line : ℕ → List ℕ
error_line line = (69 ∷ fields (line ∷ [])) ++ newline

-- what the desk lends to its run for the words of some calls: zeros, with room for 64 steps, 512 ports, slabs of up to 128 ports, and as
-- many records as ports
abbrev pub desk_lent : List ℕ → Lent
desk_lent words =
    record {
      store = store_of (replicate 256 0) (replicate 512 0) (replicate 512 0) (replicate 128 0) none_counted;
      scratch = replicate 576 0;
      calls = words;
      answers = replicate 1024 0;
      log = replicate 2048 0;
    }

abbrev pub desk_memory : List Call → Lent
desk_memory calls = desk_lent (call_words calls)

-- the lines of a run
abbrev pub midway_lines : Midway → ℕ → List ℕ
midway_lines w n = run_lines w.answers w.log w.written n

-- What the desk prints: the answers of a good text, or its first bad line.
pub data Desk (text : List ℕ) : List ℕ → Type 0 where
  answers : (calls : List Call) → Good text calls → Desk text (midway_lines (midway (desk_memory calls) (length calls)) (length calls))
  refuses : (line : ℕ) → BadAt text line → Desk text (error_line line)

-- What is printed stands at the front of the page, and the bytes after it are 0.
pub record Printed (text : List ℕ) (page : Page) : Type 0 where
  pub line : List ℕ
  pub right : Desk text line
  pub counted : page.len ≡ length line
  pub room : length line ≤ 32768
  pub page_is : page.bytes ≡ line ++ replicate (32768 - length line) 0
