-- A test that answers true exactly when a fact holds.
use Rattle.std.specs.Prelude.{◌≡◌, Bool, true, false}

pub record Decides (answer : Bool) (fact : Type 0) : Type 0 where
  pub so : answer ≡ true → fact
  pub not_so : answer ≡ false → fact → ⊥
