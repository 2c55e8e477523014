-- The transcript of a run (oracle/README.md, "Transcripts"): each call, and its answer and records in the desk's lines. And the line of a
-- refused run, which the oracle has not.
use Rattle.std.specs.Prelude.{ℕ, suc, zero, ◌/◌, List, [], ◌∷◌, ◌++◌, length}
use Rattle.text.specs.Decimal.{fields}
use Rattle.text.specs.Lines.{newline, answer_line, record_lines}
use Rattle.text.specs.Parts.{words_at}

-- C and the four words of a call
abbrev pub call_line : List ℕ → ℕ → List ℕ
call_line calls place = (67 ∷ fields (words_at calls place)) ++ newline

-- the first n calls of a run, each with its answer and its records
unfoldable pub transcript : List ℕ → List ℕ → List ℕ → ℕ → List ℕ
transcript calls answers log zero = []
transcript calls answers log (suc n) =
    transcript calls answers log n ++ (call_line calls n ++ (answer_line answers n ++ record_lines log n (length log / 4)))

-- Q and the code of a run that is refused
abbrev pub refusal_line : ℕ → List ℕ
refusal_line code = (81 ∷ fields (code ∷ [])) ++ newline
