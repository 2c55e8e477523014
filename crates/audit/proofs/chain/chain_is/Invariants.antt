-- `chain_is` decides the walk over n free slots: what is left of it after i steps holds exactly where all of it does.
use Prim.Native.Nat.{ℕ, ◌-◌}
use mathlib.Core.List.{List}
use Rattle.audit.specs.Parts.{Walk}
use Rattle.audit.proofs.chain.chain_is.Given as goal

-- after i steps
pub record Walked (slots : List ℕ) (mark head n word before i : ℕ) : Type 0 where
  pub onward : Walk slots mark head 0 n → Walk slots mark word before (n - i)
  pub back : Walk slots mark word before (n - i) → Walk slots mark head 0 n

abbrev pub invariant-loop : goal.invariant-loop
invariant-loop l = Walked l.slots.words.now l.slots.mark l.head l.n l.word l.before l.counter
