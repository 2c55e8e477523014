-- All slots below the mark still fit, so the one of this turn does.
use native.Mathlib.Omega.{arith}
use Rattle.renumber.proofs.PackLaws.{fits_below, slabs_dropped-length, slabs_dropped_fit}
use Rattle.renumber.proofs.compact.drop_slabs.Goals as goal

pub drop_slab-requires : goal.drop_slab-requires
drop_slab-requires c =
    let l = c.loop-slot in
    rw l.invariant (
      rw slabs_dropped-length (omega arith),
      fits_below _ _ c.args.mark _ _ (omega arith) (slabs_dropped_fit _ l.slot _ _ _ c.requires.0 c.requires.1),
    )
