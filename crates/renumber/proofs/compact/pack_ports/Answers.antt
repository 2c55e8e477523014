use native.Mathlib.Omega.{arith}
use mathlib.Core.Path.{refl, sym, subst, ap, ◌∙◌}
use Rattle.renumber.proofs.RecordLaws.{none_later, one_later}
use Rattle.slabs.specs.Links.{Inside}
use Rattle.edits.proofs.CountLaws.{live_ports_le}
use Rattle.renumber.specs.declared.log.LogPlace.{LogPlace}
use Rattle.renumber.proofs.PackLaws.{ports_none, ports_links, ports_log, ports_read, port_number, packed_links_inside, fits_below, followed_slots-length, followed_slots_fit, ports_free, ports_live}
use Rattle.renumber.proofs.compact.pack_ports.Goals as goal
use Rattle.renumber.proofs.compact.pack_ports.Goals.{in-Some, in_default}

pub loop-p-init : goal.loop-p-init
loop-p-init c = record { memory = refl; words = ports_none _ _ _ _ _; next = none_later _ }

pub move_port-requires : goal.move_port-requires
move_port-requires c =
    let l = c.loop-p in (
      omega (arith, ports_links l.invariant.words),
      omega (arith, ports_links l.invariant.words, live_ports_le c.args.owners.now l.p),
      omega (arith, ports_links l.invariant.words),
      subst Inside (sym l.invariant.words.links_after) (packed_links_inside c.args.owners.now c.args.links.now l.p (omega arith) c.requires.links_inside),
    )

pub follow_first-requires : goal.follow_first-requires
follow_first-requires c =
    let l = c.loop-p in
    let p = c.requires in
    let named = ports_read l.invariant.words _ c.in-Some.ensures in
    let below = p.owners_inside l.p (omega arith) named.0 in
    rw l.invariant.words.slots_after (
      rw followed_slots-length (omega arith),
      fits_below _ _ p.nodes _ _ (omega arith) (followed_slots_fit _ _ l.p _ _ _ p.slots_inside (λ q i live. p.owners_inside q (omega arith) live) p.slots_fit),
    )

pub write-requires : goal.write-requires
write-requires c =
    let l = c.loop-p in
    let named = ports_read l.invariant.words _ c.in-Some.ensures in
    omega (arith, ports_log l.invariant.words, port_number c.args.owners.now l.p c.args.mark (omega arith) named.0, ap (λ (to : LogPlace). to.at) l.invariant.next)

pub loop-p-preserved : goal.loop-p-preserved
loop-p-preserved c =
    let l = c.loop-p in
    elim c.match-port_entry.branch [
      | in-Some w ↦
          rw
          (w.slots-is, w.links-is, w.owners-is, w.log-is, w.new-is)
          record {
            memory = w.write.ensures.memory ∙ l.invariant.memory;
            words = rw (w.follow_first.ensures, w.move_port.ensures, w.write.ensures.words, l.invariant.next) (ports_live l.invariant.words _ w.in-Some.ensures);
            next = w.write.ensures.next ∙ rw l.invariant.next (one_later _ _);
          }
      | in_default w ↦
          rw
          (w.slots-is, w.links-is, w.owners-is, w.log-is, w.new-is)
          record { memory = l.invariant.memory; words = ports_free l.invariant.words w.in_default.ensures; next = l.invariant.next }
    ]
