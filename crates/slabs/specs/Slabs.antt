-- What the slab part keeps true (document 01, rule 4, and what rules 1, 5 and 6 say of ports that no step holds). The slabs that are
-- held stand as a parameter: for each port, how many held slabs it lies in. In a store at rest the live slots hold them; while an edit
-- is half done it may hold one more or one fewer.
use Rattle.std.specs.Prelude.{ℕ, suc, ◌+◌, ◌≤◌, ◌<◌, ◌≡◌, List, [], ◌∷◌, length, get_or, leb, ltb, eqb}
use Rattle.slabs.specs.Choice.{pick}
use Rattle.slabs.specs.Sums.{sum, sum_of}

-- 1 where port p lies in the slab of this size from first on, else 0
unfoldable pub in_slab : ℕ → ℕ → ℕ → ℕ
in_slab first size p = pick (leb first p) (pick (ltb p (first + size)) 1 0) 0

-- 1 where p is this port, else 0
unfoldable pub is_port : ℕ → ℕ → ℕ
is_port first p = pick (eqb first p) 1 0

-- A chain: the word leads to the first of these numbers, each leads by `next` to the one after it, and the last to none. It serves the
-- free slabs of a size and the free slots.
abbrev pub Chain : (ℕ → ℕ) → ℕ → List ℕ → Type 0
Chain next word [] = word ≡ 0
Chain next word (p ∷ ps) = (word ≡ suc p) × Chain next (next p) ps

-- in how many free slabs port p lies, where chains i holds those of size i + 1 by their first ports
unfoldable pub free_at : (ℕ → List ℕ) → ℕ → ℕ → ℕ
free_at chains sizes p = sum (λ i. sum_of (λ first. in_slab first (suc i) p) (chains i)) sizes

-- how many free slabs start at port p
unfoldable pub starts_at : (ℕ → List ℕ) → ℕ → ℕ → ℕ
starts_at chains sizes p = sum (λ i. sum_of (λ first. is_port first p) (chains i)) sizes

pub record Slabs (links owners heads : List ℕ) (mark : ℕ) (held : ℕ → ℕ) : Type 0 where
  -- the mark is within room, and the two tables have equal length
  pub room : mark ≤ length links
  pub equal : length owners ≡ length links
  -- the free slabs of each size are one chain that ends, from the head word of that size
  pub chains : ℕ → List ℕ
  pub chained : (i : ℕ) → i < length heads → Chain (λ p. get_or links p 0) (get_or heads i 0) (chains i)
  -- a port below the mark is in one slab and in no second, held or free, and no slab goes beyond the mark
  pub once : (p : ℕ) → p < mark → held p + free_at chains (length heads) p ≡ 1
  pub within : (p : ℕ) → mark ≤ p → held p + free_at chains (length heads) p ≡ 0
  -- a port in no held slab has owner word 0, and link word 0 but where a free slab starts
  pub bare : (p : ℕ) → held p ≡ 0 → get_or owners p 0 ≡ 0
  pub loose : (p : ℕ) → held p ≡ 0 → starts_at chains (length heads) p ≡ 0 → get_or links p 0 ≡ 0

-- the held slabs and one more
abbrev pub with : (ℕ → ℕ) → ℕ → ℕ → ℕ → ℕ
with held first size p = held p + in_slab first size p
