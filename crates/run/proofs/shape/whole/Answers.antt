-- `whole` decides: where no rest is left the quotient is the number of fours.
use Prim.Native.Nat.{◌/◌}
use native.Mathlib.Omega.{arith}
use borrow.Author.Tests.{leb-true, leb-false}
use Rattle.run.proofs.shape.whole.Goals as goal

pub returns-then-n-eq0 : goal.returns-then-n-eq0
returns-then-n-eq0 c =
    record {
      so = λ e. record { fours = c.args.n / 4; whole = omega arith; few = leb-true _ _ e };
      not_so = λ e h. omega (arith, h.whole, h.few, leb-false (c.args.n / 4) c.args.most e);
    }
