-- Link words (document 01, "Lent memory", links, and rule 6): partner plus 1, or 0. What cutting a wire does to them.
use Rattle.std.specs.Prelude.{ℕ, suc, zero, ◌+◌, ◌-◌, ◌≤◌, ◌≡◌, List, Option, Some, None, length, get_or, set, eqb}
use Rattle.slabs.specs.Choice.{pick}
use Rattle.slabs.specs.Sums.{sum}
use Rattle.slabs.specs.PortEntry.{Live, direction_of}

-- what the link word of port p says: its partner, or none
unfoldable pub link_at : List ℕ → ℕ → Option ℕ
link_at links p = pick (eqb (get_or links p 0) 0) None (Some (get_or links p 0 - 1))

-- each link word is 0 or names a port of the table
abbrev pub Inside : List ℕ → Type 0
Inside links = (p : ℕ) → get_or links p 0 ≤ length links

-- rule 6 for one wire: p and q are live, face opposite ways, and q names p back
pub record Mate (owners links : List ℕ) (p q : ℕ) : Type 0 where
  pub here : Live owners p
  pub there : Live owners q
  pub across : direction_of (get_or owners p 0) ≡ direction_of (get_or owners q 0) → ⊥
  pub back : get_or links q 0 ≡ suc p

-- rule 6 over the ports of the slabs that are held, which `held` counts: a nonzero link word names the port's mate
abbrev pub Wiring : List ℕ → List ℕ → (ℕ → ℕ) → Type 0
Wiring owners links held = (p q : ℕ) → 1 ≤ held p → get_or links p 0 ≡ suc q → Mate owners links p q

-- 1 for a live outlet with a nonzero link word, by its owner word and its link word
unfoldable pub wired_outlet : ℕ → ℕ → ℕ
wired_outlet owner link = pick (eqb owner 0) 0 (pick (eqb link 0) 0 (direction_of owner))

-- rule 7: the wires below port n, each counted once, at its outlet
unfoldable pub pairs : List ℕ → List ℕ → ℕ → ℕ
pairs owners links n = sum (λ p. wired_outlet (get_or owners p 0) (get_or links p 0)) n

-- the link words once the wire at port p is cut at both its ends
unfoldable pub cut_at : List ℕ → ℕ → List ℕ
cut_at links p = pick (eqb (get_or links p 0) 0) links (set (set links p 0) (get_or links p 0 - 1) 0)

-- how many wires that cuts: 1, or 0 at a port without one
unfoldable pub wired_at : List ℕ → ℕ → ℕ
wired_at links p = pick (eqb (get_or links p 0) 0) 0 1

-- the link words once the wires at n ports from first on are cut, by rising number
unfoldable pub cut_run : List ℕ → ℕ → ℕ → List ℕ
cut_run links first zero = links
cut_run links first (suc n) = cut_at (cut_run links first n) (first + n)

-- how many wires that cuts: one with both its ends among these ports is gone when its second end comes, so it counts once
unfoldable pub wires_in : List ℕ → ℕ → ℕ → ℕ
wires_in links first zero = 0
wires_in links first (suc n) = wires_in links first n + wired_at (cut_run links first n) (first + n)
