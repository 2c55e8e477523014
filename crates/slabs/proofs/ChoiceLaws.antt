-- Laws of a choice between two values.
use Prim.Native.Nat.{◌≤◌}
use mathlib.Core.Path.{◌≡◌, refl}
use mathlib.Core.Bool.{Bool, true, false}
use native.Mathlib.Omega.{arith}
use Rattle.slabs.specs.Choice.{pick}

-- A choice between equals needs no test.
pub pick_same : {A : Type 0} (t : Bool) (a : A) → pick t a a ≡ a
pick_same true a = refl
pick_same false a = refl

-- A choice between 0 and 1 is at most 1.
pub pick_bit : (t : Bool) → pick t 0 1 ≤ 1
pick_bit true = omega arith
pick_bit false = omega arith
