-- A row of four words, read and written word by word.
use Prim.Native.Nat.{ℕ, suc, ◌+◌, ◌*◌, ◌≤◌}
use mathlib.Core.Path.{◌≡◌, sym}
use mathlib.Core.List.{List, [], ◌∷◌}
use native.Mathlib.Nat.{add-zero, add_assoc}
use native.Mathlib.Omega.{arith}
use lib.ListN.{length, get_or, set}
use lib.Seq.{sets-eq}
use Rattle.std.proofs.lemmas.List.{drop_more}
use Rattle.slabs.specs.Rows.{row_at, set_row}

module _ (table : List ℕ) (row : ℕ) (inside : 4 * row + 4 ≤ length table) where
  -- It is its words, one after the other,
  pub row_of_four : row_at table 4 row ≡ get_or table (4 * row + 0) 0 ∷ get_or table (4 * row + 1) 0 ∷ get_or table (4 * row + 2) 0 ∷ get_or table (4 * row + 3) 0 ∷ []
  row_of_four =
      let first = drop_more table (4 * row) 0 (omega arith) in
      let second = drop_more table (4 * row + 1) 0 (omega arith) in
      let third = drop_more table (4 * row + 2) 0 (omega arith) in
      let fourth = drop_more table (4 * row + 3) 0 (omega arith) in
      simp (add-zero, add_assoc, first, second, third, fourth)

  -- and it is written as its words are.
  pub set_row_of_four :
      (a b c d : ℕ) →
      set_row table 4 row (a ∷ b ∷ c ∷ d ∷ []) ≡ set (set (set (set table (4 * row + 0) a) (4 * row + 1) b) (4 * row + 2) c) (4 * row + 3) d
  set_row_of_four a b c d =
      let second : 4 * row + 1 ≡ suc (4 * row) = omega arith in
      let third : 4 * row + 2 ≡ suc (suc (4 * row)) = omega arith in
      let fourth : 4 * row + 3 ≡ suc (suc (suc (4 * row))) = omega arith in
      rw (add-zero, second, third, fourth) (sym (sets-eq (a ∷ b ∷ c ∷ d ∷ []) table (4 * row) inside))
