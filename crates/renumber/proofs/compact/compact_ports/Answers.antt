-- A store that fits gives what packing asks, and the packed slots fit as those of the store did.
use native.Mathlib.Omega.{arith}
use mathlib.Core.Path.{subst}
use Rattle.renumber.specs.Room.{RecordRoom}
use Rattle.renumber.proofs.PackLaws.{fits_wider, followed_slots-length, followed_slots_fit}
use Rattle.renumber.proofs.compact.compact_ports.Goals as goal

pub pack_ports-ports-requires : goal.pack_ports-ports-requires
pack_ports-ports-requires c =
    let a = c.args in
    let fit = c.requires.0 in
    record {
      inside = fit.port_room;
      equal = fit.equal;
      small = fit.few_ports;
      links_inside = fit.links_inside;
      nodes = a.counters.nodemark;
      slots_inside = fit.node_room;
      slots_fit = fits_wider _ _ _ _ 32768 1048576 fit.few_heads fit.few_ports fit.live;
      owners_inside = fit.owners_inside;
      recorded = subst (RecordRoom a.log.now.words.now a.log.now.to) fit.true_ports c.requires.1;
    }

pub drop_slabs-requires : goal.drop_slabs-requires
drop_slabs-requires c =
    let fit = c.requires.0 in
    rw c.pack_ports-ports.ensures.words.slots_after (
      rw followed_slots-length (omega arith),
      followed_slots_fit _ _ _ _ _ _ fit.node_room fit.owners_inside (fits_wider _ _ _ _ 32768 1048576 fit.few_heads fit.few_ports fit.live),
    )
