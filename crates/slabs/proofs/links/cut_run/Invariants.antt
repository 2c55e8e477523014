-- After i turns the table and the count are those of i ports, and each turn is the definition's next step.
use Prim.Native.Nat.{ℕ}
use mathlib.Core.List.{List}
use mathlib.Core.Path.{◌≡◌}
use Rattle.slabs.specs.Links.{cut_run, wires_in}
use Rattle.slabs.proofs.links.cut_run.Given as goal

-- after i ports
pub record Cut (links₀ : List ℕ) (first : ℕ) (links : List ℕ) (wires i : ℕ) : Type 0 where
  pub words : links ≡ cut_run links₀ first i
  pub counted : wires ≡ wires_in links₀ first i

abbrev pub invariant-loop-i : goal.invariant-loop-i
invariant-loop-i l = Cut l.initial.links l.first l.links l.wires l.i
