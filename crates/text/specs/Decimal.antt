-- Numbers in a text (document 01, "The desk program"): decimal, with no needless zero in front.
use Rattle.std.specs.Prelude.{ℕ, suc, zero, ◌+◌, ◌/◌, ◌%◌, List, [], ◌∷◌, ◌++◌, ltb}
use Rattle.slabs.specs.Choice.{pick}

-- the digits of a number that has at most so many
unfoldable pub digits : ℕ → ℕ → List ℕ
digits zero n = []
digits (suc most) n = pick (ltb n 10) ((48 + n) ∷ []) (digits most (n / 10) ++ ((48 + n % 10) ∷ []))

-- a 32-bit number has at most 10
abbrev pub decimal : ℕ → List ℕ
decimal n = digits 10 n

-- a tab and a number, for each of a list
unfoldable pub fields : List ℕ → List ℕ
fields [] = []
fields (x ∷ xs) = (9 ∷ decimal x) ++ fields xs
