-- The lines before the place are good; the line there is taken, or is the first bad one.
use Prim.Native.Nat.{ℕ, ◌-◌, ◌*◌, ◌≤◌}
use mathlib.Core.Path.{◌≡◌}
use mathlib.Core.List.{List, ◌++◌}
use lib.ListN.{length, drop}
use Rattle.calls.specs.declared.Call.{Call}
use Rattle.text.specs.Lines.{AllSmall, call_text, call_words}
use Rattle.text.proofs.input.read_calls.Given as goal

-- the lines before a place are good, and their words stand at the front of the array
pub record Passed (s words₀ words : List ℕ) (at n : ℕ) : Type 0 where
  pub calls : List Call
  pub says : s ≡ call_text calls ++ drop at s
  pub small : AllSmall calls
  pub counted : n ≡ length calls
  pub few : n ≤ 256
  pub within : at ≤ length s
  pub wrote : words ≡ call_words calls ++ drop (4 * n) words₀

abbrev pub invariant-loop-at : goal.invariant-loop-at
invariant-loop-at l = Passed l.s l.initial.calls l.calls l.at l.n

abbrev pub decreases-loop-at : goal.decreases-loop-at
decreases-loop-at l = length l.s - l.at
