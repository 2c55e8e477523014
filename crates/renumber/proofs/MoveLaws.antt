-- What carrying ports leaves of the link words' shape: the length, and that they stay inside.
use Prim.Native.Nat.{ℕ, suc, zero, ◌+◌, ◌-◌, ◌≤◌, ◌<◌}
use native.Mathlib.Omega.{arith}
use lib.ListN.{length, get_or, set, length-set}
use lib.Dec.{eqb}
use mathlib.Core.List.{List}
use mathlib.Core.Path.{◌≡◌, refl, ◌∙◌}
use mathlib.Core.Bool.{Bool, true, false}
use Rattle.slabs.specs.Choice.{pick}
use Rattle.slabs.specs.Links.{Inside}
use Rattle.slabs.proofs.Shapes.{set_inside}
use Rattle.renumber.specs.Moves.{carried, moved, turn, moved_run}
use Rattle.renumber.specs.declared.moves.Run.{Run}

-- A carried word leaves the table's length,
carried-length : (links : List ℕ) (old new : ℕ) → length (carried links old new) ≡ length links
unfolding carried
carried-length links old new = simp length-set

-- and the words inside.
carried_inside : (links : List ℕ) (old new : ℕ) → Inside links → Inside (carried links old new)
unfolding carried
carried_inside links old new h =
    set_inside (set links old 0) new (get_or links old 0) (rw length-set (h old)) (set_inside links old 0 (omega arith) h)

-- A moved port leaves the table's length,
pub moved_length : (links : List ℕ) (old new : ℕ) → length (moved links old new) ≡ length links
unfolding moved
moved_length links old new = go (eqb old new) (eqb (get_or links old 0) 0)
  where
    go : (t u : Bool) → length (pick t links (pick u (carried links old new) (set (carried links old new) (get_or links old 0 - 1) (new + 1)))) ≡ length links
    go true u = refl
    go false true = carried-length links old new
    go false false = simp length-set (carried-length links old new)

-- and the words inside.
pub moved_inside : (links : List ℕ) (old new : ℕ) → new < length links → Inside links → Inside (moved links old new)
unfolding moved
moved_inside links old new b h = go (eqb old new) (eqb (get_or links old 0) 0)
  where
    go : (t u : Bool) → Inside (pick t links (pick u (carried links old new) (set (carried links old new) (get_or links old 0 - 1) (new + 1))))
    go true u = h
    go false true = carried_inside links old new h
    go false false =
        set_inside (carried links old new) (get_or links old 0 - 1) (new + 1) (rw carried-length (omega arith)) (carried_inside links old new h)

-- The port that goes at step i is one of the run.
pub turn_below : (run : Run) (i : ℕ) → i < run.n → turn run i < run.n
unfolding turn
turn_below run i h = go run.rising
  where
    go : (t : Bool) → pick t i (run.n - 1 - i) < run.n
    go true = h
    go false = omega arith

-- A run of moved ports leaves the table's length,
pub moved_run-length : (links : List ℕ) (run : Run) (i : ℕ) → length (moved_run links run i) ≡ length links
unfolding moved_run
moved_run-length links run zero = refl
moved_run-length links run (suc i) =
    moved_length (moved_run links run i) (run.from + turn run i) (run.to + turn run i) ∙ moved_run-length links run i

-- and the words inside.
pub moved_run_inside : (links : List ℕ) (run : Run) (i : ℕ) → run.to + run.n ≤ length links → i ≤ run.n → Inside links → Inside (moved_run links run i)
unfolding moved_run
moved_run_inside links run zero b l h = h
moved_run_inside links run (suc i) b l h =
    moved_inside (moved_run links run i) (run.from + turn run i) (run.to + turn run i) (omega (arith, moved_run-length links run i, turn_below run i (omega arith))) (moved_run_inside links run i b (omega arith) h)

-- What a loop over a run needs of the words that it has moved.
pub ruleset run_laws = (turn_below, moved_run-length, moved_run_inside)
