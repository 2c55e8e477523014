-- Rows of a table: so many words each, one after the other.
use Rattle.std.specs.Prelude.{ℕ, ◌+◌, ◌*◌, List, ◌++◌, take, drop}

-- the words of row number `row`
abbrev pub row_at : List ℕ → ℕ → ℕ → List ℕ
row_at table wide row = take wide (drop (wide * row) table)

-- the table once these words are its row number `row`
abbrev pub set_row : List ℕ → ℕ → ℕ → List ℕ → List ℕ
set_row table wide row words = take (wide * row) table ++ words ++ drop (wide * row + wide) table
