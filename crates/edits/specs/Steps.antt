-- Add and remove, calls 1 and 2 (document 01, "Orders", and the first two rules of the edits).
use Rattle.std.specs.Prelude.{ℕ, suc, ◌+◌, ◌≤◌, ◌<◌, ◌≡◌, List, Bool, true, length, eqb, ltb}
use Rattle.slabs.specs.Choice.{pick}
use Rattle.slabs.specs.NodeEntry.{set_entry}
use Rattle.slabs.specs.Links.{wires_in}
use Rattle.slabs.specs.Counters.{port_marked, node_counted, node_uncounted, slab_freed}
use Rattle.slabs.specs.Slab.{head_of, at_hand, taken_first, taken_links, taken_heads, taken_mark, owners_written, freed_links, freed_owners, freed_heads}
use Rattle.slabs.specs.declared.counters.Counters.{Counters}
use Rattle.slabs.specs.declared.node_entry.NodeMeta.{NodeMeta}
use Rattle.slabs.specs.declared.node_entry.NodeEntry.TheVariants.{Node}
use Rattle.edits.specs.Store.{Store, node_at, on_node}
use Rattle.edits.specs.FreeSlots.{slot_at_hand, next_slot, slot_taken, slot_taken_counters, slot_freed, slot_freed_counters}
use Rattle.edits.specs.Answer.{Answer}
use Rattle.edits.specs.declared.answer.Refusal.TheVariants.{NoNode, TooManyPorts, SlabTooLarge, NoSlot, NoSlab}
use Rattle.edits.specs.Answer.{done}
use Rattle.std.specs.Prelude.{Err}

-- the most inlets, and the most outlets, of a step
abbrev pub most : ℕ
most = 16384

-- the slab of a new step of so many ports: none where it has no ports
unfoldable pub new_slab_at_hand : List ℕ → ℕ → ℕ → ℕ → Bool
new_slab_at_hand heads mark room total = pick (eqb total 0) true (at_hand heads mark room total)

unfoldable pub new_first : List ℕ → ℕ → ℕ → ℕ
new_first heads mark total = pick (eqb total 0) 0 (taken_first heads mark total)

unfoldable pub new_links : List ℕ → List ℕ → ℕ → List ℕ
new_links links heads total = pick (eqb total 0) links (taken_links links heads total)

unfoldable pub new_heads : List ℕ → List ℕ → ℕ → List ℕ
new_heads links heads total = pick (eqb total 0) heads (taken_heads links heads total)

unfoldable pub new_mark : List ℕ → ℕ → ℕ → ℕ
new_mark heads mark total = pick (eqb total 0) mark (taken_mark heads mark total)

-- What taking the slab of a new step asks: the node has an owner word, the slab is at hand and lies in the tables.
pub record CanTakePorts (links owners heads : List ℕ) (c : Counters) (node inlets outlets : ℕ) : Type 0 where
  pub few : node < 65536
  pub sized : inlets + outlets ≤ length heads
  pub few_heads : length heads ≤ 32768
  pub small : length links ≤ 1048576
  pub equal : length owners ≡ length links
  pub slab : new_slab_at_hand heads c.portmark (length links) (inlets + outlets) ≡ true
  pub inside : (first : ℕ) → 1 ≤ inlets + outlets → head_of heads (inlets + outlets) ≡ suc first → first + (inlets + outlets) ≤ length links

-- What it does, its owner words written.
pub record TookPorts (links owners heads : List ℕ) (c : Counters) (node inlets outlets : ℕ) (links' owners' heads' : List ℕ) (first' : ℕ) (c' : Counters) : Type 0 where
  pub first : first' ≡ new_first heads c.portmark (inlets + outlets)
  pub counters : c' ≡ port_marked c (new_mark heads c.portmark (inlets + outlets))
  pub links_after : links' ≡ new_links links heads (inlets + outlets)
  pub owners_after : owners' ≡ owners_written owners node (new_first heads c.portmark (inlets + outlets)) inlets outlets
  pub heads_after : heads' ≡ new_heads links heads (inlets + outlets)

-- call 1: 3, 4, 5, 6, in this order
unfoldable pub add_answer : List ℕ → ℕ → List ℕ → Counters → ℕ → ℕ → Answer
add_answer slots room heads c inlets outlets =
    pick (ltb most inlets)
    (Err TooManyPorts)
    (pick (ltb most outlets)
    (Err TooManyPorts)
    (pick (ltb (length heads) (inlets + outlets))
    (Err SlabTooLarge)
    (pick (slot_at_hand slots c)
    (pick (new_slab_at_hand heads c.portmark room (inlets + outlets)) (done (next_slot c) 0 0) (Err NoSlab))
    (Err NoSlot))))

-- the store with the new step: its capacity is inlets plus outlets
unfoldable pub added : Store → ℕ → ℕ → Store
added s inlets outlets =
    let c : Counters = s.counters in
    let total : ℕ = inlets + outlets in
    let first : ℕ = new_first s.heads c.portmark total in
    let meta : NodeMeta = record { first = first; inlets = inlets; outlets = outlets; capacity = total } in
    record {
      slots = set_entry (slot_taken s.slots c) (next_slot c) (Node meta);
      links = new_links s.links s.heads total;
      owners = owners_written s.owners (next_slot c) first inlets outlets;
      heads = new_heads s.links s.heads total;
      counters = node_counted (port_marked (slot_taken_counters s.slots c) (new_mark s.heads c.portmark total)) total;
    }

-- call 2
unfoldable pub remove_answer : List ℕ → ℕ → ℕ → Answer
remove_answer slots mark node = on_node (node_at slots mark node) (λ m. done 0 0 0) (Err (NoNode node))

-- a slot of capacity 0 has no slab to free
unfoldable pub removed_links : List ℕ → List ℕ → NodeMeta → List ℕ
removed_links links heads m = pick (eqb m.capacity 0) links (freed_links links heads m.first m.capacity)

unfoldable pub removed_owners : List ℕ → NodeMeta → List ℕ
removed_owners owners m = pick (eqb m.capacity 0) owners (freed_owners owners m.first m.capacity)

unfoldable pub removed_heads : List ℕ → NodeMeta → List ℕ
removed_heads heads m = pick (eqb m.capacity 0) heads (freed_heads heads m.first m.capacity)

unfoldable pub removed_counters : Counters → List ℕ → NodeMeta → Counters
removed_counters c links m = pick (eqb m.capacity 0) c (slab_freed c (m.inlets + m.outlets) (wires_in links m.first m.capacity))

-- the store without the step: its slot is the head of the free chain, its slab is freed with its wires
unfoldable pub removed : Store → ℕ → NodeMeta → Store
removed s node m =
    record {
      slots = slot_freed s.slots s.counters node;
      links = removed_links s.links s.heads m;
      owners = removed_owners s.owners m;
      heads = removed_heads s.heads m;
      counters = removed_counters (node_uncounted (slot_freed_counters s.counters node)) s.links m;
    }
