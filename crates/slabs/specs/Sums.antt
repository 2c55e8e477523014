-- Sums over numbers below a bound (slots, ports, sizes) and over the slabs of a chain: what "every", "exactly one" and "true counts"
-- of document 01's "Sound store" are said with.
use Rattle.std.specs.Prelude.{ℕ, suc, zero, ◌+◌, List, [], ◌∷◌}

-- f 0 + f 1 + .. + f (n - 1)
unfoldable pub sum : (ℕ → ℕ) → ℕ → ℕ
sum f zero = 0
sum f (suc n) = sum f n + f n

-- f x for each x of a list, added up
unfoldable pub sum_of : (ℕ → ℕ) → List ℕ → ℕ
sum_of f [] = 0
sum_of f (x ∷ xs) = f x + sum_of f xs
