-- The digits passed are the digits of the sum so far.
use Rattle.std.proofs.Common.{ℕ, ◌≡◌, ◌+◌, ◌≤◌, ◌<◌, ◌^◌, List, length, take}
use Rattle.text.specs.Decimal.{decimal}
use Rattle.text.proofs.numbers.value.Given as goal

-- after so many digits
pub record Summed (run : List ℕ) (sum passed : ℕ) : Type 0 where
  pub within : passed ≤ length run
  pub says : decimal sum ≡ take passed run
  pub lead : 1 < length run → 1 ≤ sum
  pub size : sum < 10 ^ passed

abbrev pub invariant-loop-byte : goal.invariant-loop-byte
invariant-loop-byte l = Summed l.run l.sum (l.byte-index + 1)
