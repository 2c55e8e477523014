use native.Mathlib.Omega.{arith}
use lib.ListN.{length}
use mathlib.Core.Path.{◌≡◌, refl, ap, ◌∙◌}
use Rattle.renumber.proofs.RecordLaws.{none_later, one_later}
use Rattle.slabs.specs.NodeEntry.{node_entry}
use Rattle.slabs.specs.declared.node_entry.NodeEntry.TheVariants.{Node}
use Rattle.edits.specs.Fit.{SlotFits}
use Rattle.edits.proofs.CountLaws.{live_slots_le}
use Rattle.renumber.specs.declared.log.LogPlace.{LogPlace}
use Rattle.renumber.proofs.PackLaws.{nodes_none, nodes_slots, nodes_owners, nodes_log, nodes_read, slot_number, nodes_free, nodes_live}
use Rattle.renumber.proofs.compact.pack_nodes.Goals as goal
use Rattle.renumber.proofs.compact.pack_nodes.Goals.{in-Node, in_default}

pub loop-k-init : goal.loop-k-init
loop-k-init c = record { memory = refl; words = nodes_none _ _ _ _; next = none_later _ }

pub move_node-requires : goal.move_node-requires
move_node-requires c =
    let l = c.loop-k in
    let m = c.in-Node.meta in
    let e : node_entry c.args.slots.now l.k ≡ Node m = nodes_read l.invariant.words _ c.in-Node.ensures in
    let fits : SlotFits 32768 (length c.args.owners.now) m = c.requires.slots_fit l.k m (omega arith) e in (
      omega (arith, nodes_slots l.invariant.words, live_slots_le c.args.slots.now l.k),
      omega (arith, live_slots_le c.args.slots.now l.k),
      fits.few_inlets,
      omega (arith, nodes_owners l.invariant.words),
    )

pub write-requires : goal.write-requires
write-requires c =
    let l = c.loop-k in
    let m = c.in-Node.meta in
    let e : node_entry c.args.slots.now l.k ≡ Node m = nodes_read l.invariant.words _ c.in-Node.ensures in
    omega (arith, nodes_log l.invariant.words, slot_number c.args.slots.now l.k c.args.mark m (omega arith) e, ap (λ (to : LogPlace). to.at) l.invariant.next)

pub loop-k-preserved : goal.loop-k-preserved
loop-k-preserved c =
    let l = c.loop-k in
    elim c.match-read_slot.branch [
      | in-Node w ↦
          rw
          (w.slots-is, w.owners-is, w.log-is, w.new-is)
          record {
            memory = w.write.ensures.memory ∙ l.invariant.memory;
            words = rw (w.move_node.ensures.0, w.move_node.ensures.1, w.write.ensures.words, l.invariant.next) (nodes_live l.invariant.words _ w.in-Node.ensures);
            next = w.write.ensures.next ∙ rw l.invariant.next (one_later _ _);
          }
      | in_default w ↦
          rw
          (w.slots-is, w.owners-is, w.log-is, w.new-is)
          record { memory = l.invariant.memory; words = nodes_free l.invariant.words _ _ w.in_default.ensures; next = l.invariant.next }
    ]
