-- `tiled` decides whether the slabs tile the ports: it claims them all and counts.
use Prim.Native.Nat.{ℕ}
use mathlib.Core.Path.{◌≡◌}
use mathlib.Core.List.{List}
use native.Mathlib.Omega.{arith}
use lib.Dec.{eqb}
use lib.ListN.{length, get_or}
use Rattle.std.specs.Prelude.{Option, None, Some}
use Rattle.std.specs.Option.{option_eq}
use Rattle.slabs.specs.declared.counters.Counters.{Counters}
use Rattle.sound.specs.Sound.{held_at}
use Rattle.audit.specs.Decides.{Decides}
use Rattle.audit.specs.Parts.{HeldSlabs, FreeClaimed, TiledHolds}
use Rattle.audit.proofs.DecideLaws.{decided_not, decides_from, decides_eq}
use Rattle.audit.proofs.TiledLaws.{tiled_once, tiled_made, tiled_counted}
use Rattle.audit.proofs.ports.tiled.Goals as goal

-- where the slabs of the live slots are claimed, the free slabs and the count decide
module _ (slots links owners heads scratch scratch' : List ℕ) (c : Counters) (held : HeldSlabs slots links owners c)
    (here : (p : ℕ) → get_or scratch p 0 ≡ held_at slots c.nodemark p) where
  counted : (r : Option ℕ) → FreeClaimed links owners heads scratch c.portmark (length heads) scratch' r
      → Decides (option_eq eqb r (Some c.portmark)) (TiledHolds slots links owners heads c)
  counted None stuck = decided_not (λ h. stuck h.chains h.free (λ p. omega (arith, here p, tiled_once _ _ _ _ _ h p)))
  counted (Some ports) (chains, free, claimed, tally) =
      decides_from
      (decides_eq _ _)
      (tiled_made _ _ _ _ _ held chains free _ _ (λ p. omega (arith, here p, claimed p)) tally)
      (tiled_counted _ _ _ _ _ held chains free _ _ (λ p. omega (arith, here p, claimed p)) tally)

pub returns-in_default : goal.returns-in_default
returns-in_default c = decided_not (λ h. c.in_default.ensures h.held (λ p. omega (arith, tiled_once _ _ _ _ _ h p)))

pub returns : goal.returns
returns c =
    let t = c.in-Some.ensures in
    rw c.eq.ensures (counted _ _ _ _ _ _ _ t.0 t.1 _ c.free_slabs.ensures)
