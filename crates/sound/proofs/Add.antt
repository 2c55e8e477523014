-- Adding a step (call 1) keeps a store sound.
use Prim.Native.Nat.{ℕ, ◌+◌, ◌<◌}
use mathlib.Core.Path.{◌≡◌, refl, sym, ◌∙◌}
use mathlib.Core.List.{List, []}
use mathlib.Core.Bool.{true}
use native.Mathlib.Omega.{arith}
use native.Mathlib.Decide.{ℕ_discrete}
use lib.ListN.{length}
use lib.Dec.{ltb}
use borrow.Author.Tests.{eq-eqb, ltb-false}
use Rattle.slabs.specs.Slab.{owners_written}
use Rattle.slabs.specs.NodeEntry.{node_entry, set_entry}
use Rattle.slabs.specs.declared.node_entry.NodeMeta.{NodeMeta}
use Rattle.slabs.specs.declared.node_entry.NodeEntry.TheVariants.{Node}
use Rattle.edits.specs.Store.{Store}
use Rattle.edits.specs.Answer.{is_done, done}
use Rattle.edits.specs.FreeSlots.{slot_at_hand, next_slot, slot_taken, taken_node_mark, taken_free_slot}
use Rattle.edits.specs.Steps.{most, add_answer, added, new_slab_at_hand, new_first, new_heads, new_links, new_mark}
use Rattle.edits.specs.Fit.{CanAdd}
use Rattle.edits.specs.declared.answer.Refusal.TheVariants.{TooManyPorts, SlabTooLarge, NoSlot, NoSlab}
use Rattle.std.specs.Prelude.{Err}
use Rattle.calls.specs.Call.{add_call}
use Rattle.sound.specs.Sound.{Shaped, LiveSlot, held_at, Owned, Sound}
use Rattle.sound.proofs.SlotLaws.{slab_held, node_is}
use Rattle.sound.proofs.SlotTable.{live_slot, Entered, slot_enters}
use Rattle.sound.proofs.OwnerLaws.{owned_kept}
use Rattle.sound.proofs.PortTable.{table_held, PortsEntered, step_from, ports_enter}
use Rattle.sound.proofs.Parts.{Parts, parts_of, sound_of, slot_table, chain_of, port_table, parts_by}
use Rattle.sound.proofs.Kept.{decided_store, done_past, done_by}
use Rattle.sound.proofs.Shapes.{new_heads_length}

-- An add that is done passed every test.
pub add_done : (s : Store) (inlets outlets : ℕ) → is_done (add_answer s.slots (length s.links) s.heads s.counters inlets outlets) ≡ true
    → CanAdd s inlets outlets
unfolding add_answer
add_done s inlets outlets passed =
    let a = done_past (ltb most inlets) (Err TooManyPorts) _ refl passed in
    let b = done_past (ltb most outlets) (Err TooManyPorts) _ refl a.1 in
    let c = done_past (ltb (length s.heads) (inlets + outlets)) (Err SlabTooLarge) _ refl b.1 in
    let d = done_by (slot_at_hand s.slots s.counters) _ (Err NoSlot) refl c.1 in
    let e = done_by (new_slab_at_hand s.heads s.counters.portmark (length s.links) (inlets + outlets)) (done (next_slot s.counters) 0 0) (Err NoSlab) refl d.1 in
    record {
      few_inlets = ltb-false most inlets a.0;
      few_outlets = ltb-false most outlets b.0;
      sized = ltb-false (length s.heads) (inlets + outlets) c.0;
      slot = d.0;
      slab = e.0;
    }

-- A new step without ports has no place.
new_first_none : (heads : List ℕ) (mark total : ℕ) → total ≡ 0 → new_first heads mark total ≡ 0
unfolding new_first
new_first_none heads mark total e = rw (eq-eqb total 0 e)

-- The store with the new step has its parts.
pub added_parts : (s : Store) → Parts s → (inlets outlets : ℕ) → CanAdd s inlets outlets → Parts (added s inlets outlets)
unfolding added
added_parts s P inlets outlets can =
    parts_by _ (rw (new_heads_length s.links s.heads total) slots.table) slots.chain (table_held ports.table slots.held) owned
  where
    total : ℕ
    total = inlets + outlets

    node : ℕ
    node = next_slot s.counters

    meta : NodeMeta
    meta = step_from inlets outlets (new_first s.heads s.counters.portmark total)

    slots' : List ℕ
    slots' = set_entry (slot_taken s.slots s.counters) node (Node meta)

    owners' : List ℕ
    owners' = owners_written s.owners node meta.first inlets outlets

    live : LiveSlot (length s.heads) meta
    live =
        record {
          few_inlets = can.few_inlets;
          few_outlets = can.few_outlets;
          fit = omega arith;
          sized = can.sized;
          unplaced = new_first_none s.heads s.counters.portmark total;
        }

    slots : Entered s.slots slots' (length s.heads) s.counters.nodemark (taken_node_mark s.counters) (taken_free_slot s.slots s.counters) (s.counters.nodes + 1) node meta
    slots = slot_enters s.slots s.counters (length s.heads) s.counters.nodes meta (slot_table s P) (chain_of s P) can.slot live

    ports : PortsEntered s.owners (new_links s.links s.heads total) owners' (new_heads s.links s.heads total)
        (new_mark s.heads s.counters.portmark total) (held_at s.slots s.counters.nodemark) (s.counters.ports + total) s.counters.links node meta
    ports = ports_enter (port_table s P) node inlets outlets can.sized can.slab

    owned : (k : ℕ) → k < taken_node_mark s.counters → (m : NodeMeta) → node_entry slots' k ≡ Node m → Owned owners' k m
    owned k l m is = go (ℕ_discrete k node)
      where
        go : Dec (k ≡ node) → Owned owners' k m
        go (yes e) = rw (e, ← node_is (sym slots.here ∙ rw e at is)) ports.owned
        go (no n) =
            let (b, was) = slots.was k m l n is in
            owned_kept (P.owned k b m was) owners' (live_slot (slot_table s P) k m b was).fit
            (λ p lies. ports.kept p (omega (arith, slab_held s.slots s.counters.nodemark k m p b was)))

-- So an add, done or refused, keeps a store sound.
pub add_sound : (s : Store) → Shaped s → Sound s → (inlets outlets : ℕ) → Sound (add_call s inlets outlets).store
unfolding add_call
add_sound s shaped sound inlets outlets =
    decided_store _ s (added s inlets outlets) [] Sound sound
    (λ done. sound_of (added s inlets outlets) (added_parts s (parts_of s shaped sound) inlets outlets (add_done s inlets outlets done)))
