-- Each part does to the words what it says, and what it leaves is what the next one asks.
use native.Mathlib.Omega.{arith}
use Rattle.renumber.proofs.ResizeParts.{can_take, taken_holds, can_move_kept, can_free_old, reallocated_parts}
use Rattle.renumber.proofs.resize.reallocate.Goals as goal

pub take_slab-first-requires : goal.take_slab-first-requires
take_slab-first-requires c = can_take c.requires c.slab_size-size.ensures

pub own_ports-requires : goal.own_ports-requires
own_ports-requires c =
    (c.requires.few, omega (arith, c.requires.equal, taken_holds c.requires c.slab_size-size.ensures c.take_slab-first.ensures))

pub move_kept-requires : goal.move_kept-requires
move_kept-requires c = can_move_kept c.requires c.slab_size-size.ensures c.take_slab-first.ensures

pub free_old-requires : goal.free_old-requires
free_old-requires c =
    can_free_old c.requires c.slab_size-size.ensures c.take_slab-first.ensures c.own_ports.ensures c.move_kept.ensures.words

pub returns-clause-words : goal.returns-clause-words
returns-clause-words c =
    reallocated_parts c.requires c.slab_size-size.ensures c.take_slab-first.ensures c.own_ports.ensures c.move_kept.ensures.words c.write_change.ensures
    c.free_old.ensures
