-- What cutting and filling leave of a table's shape: its length, and that its link words stay inside. With bounds on what is counted.
use Prim.Native.Nat.{ℕ, suc, zero, ◌+◌, ◌-◌, ◌≤◌}
use mathlib.Core.List.{List}
use mathlib.Core.Path.{◌≡◌, refl, ◌∙◌}
use mathlib.Core.Bool.{Bool, true, false}
use native.Mathlib.Omega.{arith}
use Rattle.std.proofs.lemmas.Grind.{common_steps}
use lib.ListN.{length, get_or, set, length-set}
use lib.Dec.{eqb}
use Rattle.slabs.specs.Choice.{pick}
use Rattle.slabs.specs.Links.{Inside, cut_at, wired_at, cut_run, wires_in}
use Rattle.slabs.specs.Slab.{filled}
use Rattle.slabs.proofs.ChoiceLaws.{pick_bit}

-- After a store each word is the one that was stored or the one before, so a bound of both is one of it.
pub read_set : (ls : List ℕ) (i w p b : ℕ) → w ≤ b → get_or ls p 0 ≤ b → get_or (set ls i w) p 0 ≤ b
read_set ls i w p b hw hp = grind (arith, common_steps)

-- A store of a word that is inside keeps the table inside.
pub set_inside : (ls : List ℕ) (i w : ℕ) → w ≤ length ls → Inside ls → Inside (set ls i w)
set_inside ls i w hw h p = rw length-set (read_set ls i w p (length ls) hw (h p))

-- Cutting at a port leaves the length,
pub cut_at_length : (ls : List ℕ) (p : ℕ) → length (cut_at ls p) ≡ length ls
unfolding cut_at
cut_at_length ls p = grind (arith, common_steps)

-- and keeps the link words inside.
pub cut_at_inside : (ls : List ℕ) (p : ℕ) → Inside ls → Inside (cut_at ls p)
unfolding cut_at
cut_at_inside ls p h = go (eqb (get_or ls p 0) 0)
  where
    go : (t : Bool) → Inside (pick t ls (set (set ls p 0) (get_or ls p 0 - 1) 0))
    go true = h
    go false = set_inside (set ls p 0) (get_or ls p 0 - 1) 0 (omega arith) (set_inside ls p 0 (omega arith) h)

-- One port has one wire at most.
pub wired_at_le : (ls : List ℕ) (p : ℕ) → wired_at ls p ≤ 1
unfolding wired_at
wired_at_le ls p = pick_bit (eqb (get_or ls p 0) 0)

-- Cutting over a run leaves the length too,
pub cut_run-length : (ls : List ℕ) (first n : ℕ) → length (cut_run ls first n) ≡ length ls
unfolding cut_run
cut_run-length ls first zero = refl
cut_run-length ls first (suc n) = cut_at_length (cut_run ls first n) (first + n) ∙ cut_run-length ls first n

-- and keeps the link words inside.
pub cut_run_inside : (ls : List ℕ) (first n : ℕ) → Inside ls → Inside (cut_run ls first n)
unfolding cut_run
cut_run_inside ls first zero h = h
cut_run_inside ls first (suc n) h = cut_at_inside (cut_run ls first n) (first + n) (cut_run_inside ls first n h)

-- A run has as many wires as ports at most.
pub wires_in_le : (ls : List ℕ) (first n : ℕ) → wires_in ls first n ≤ n
unfolding wires_in
wires_in_le ls first zero = omega arith
wires_in_le ls first (suc n) = omega (arith, wires_in_le ls first n, wired_at_le (cut_run ls first n) (first + n))

-- Filling leaves the length.
pub filled-length : (ls : List ℕ) (first n w : ℕ) → length (filled ls first n w) ≡ length ls
unfolding filled
filled-length ls first zero w = refl
filled-length ls first (suc n) w = length-set (filled ls first n w) (first + n) w ∙ filled-length ls first n w

-- What a loop over a run of cuts needs.
pub ruleset cut_laws = (cut_run-length, cut_run_inside, wires_in_le, wired_at_le)
