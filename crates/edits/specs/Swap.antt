-- Swap, call 6 (document 01, "Answer numbers" 1, and the rule of swap).
use Rattle.std.specs.Prelude.{ℕ, ◌+◌, ◌*◌, ◌≤◌, ◌<◌, ◌≡◌, length, List, Bool, true, false, eqb, leb}
use Rattle.slabs.specs.Choice.{pick}
use Rattle.slabs.specs.NodeEntry.{width, node_entry, set_entry}
use Rattle.slabs.specs.Counters.{free_slot_moved}
use Rattle.slabs.specs.Slab.{owners_written}
use Rattle.slabs.specs.declared.counters.Counters.{Counters}
use Rattle.slabs.specs.declared.node_entry.NodeEntry.{NodeEntry}
use Rattle.slabs.specs.declared.node_entry.NodeEntry.TheVariants.{Free, Node}
use Rattle.edits.specs.Store.{Store}
use Rattle.edits.specs.FreeSlots.{set_previous, set_next}
use Rattle.edits.specs.Steps.{most}
use Rattle.edits.specs.Answer.{Answer}
use Rattle.edits.specs.declared.answer.Refusal.TheVariants.{NoNode}
use Rattle.edits.specs.Answer.{done}
use Rattle.std.specs.Prelude.{Err}

-- call 6: 1 for a, then for b
unfoldable pub swap_answer : ℕ → ℕ → ℕ → Answer
swap_answer mark a b = pick (leb mark a) (Err (NoNode a)) (pick (leb mark b) (Err (NoNode b)) (done 0 0 0))

-- An entry arrives at a slot: the neighbours of a free one name it there,
unfoldable pub arrived_slots : List ℕ → ℕ → NodeEntry → List ℕ
arrived_slots slots node (Node m) = set_entry slots node (Node m)
arrived_slots slots node (Free previous next) =
    set_previous (set_next (set_entry slots node (Free previous next)) previous (node + 1)) next (node + 1)

-- the owner words of a live one name it there,
unfoldable pub arrived_owners : List ℕ → ℕ → NodeEntry → List ℕ
arrived_owners owners node (Node m) = owners_written owners node m.first m.inlets m.outlets
arrived_owners owners node (Free previous next) = owners

-- and the head follows a free one that has no previous.
unfoldable pub arrived_counters : Counters → ℕ → NodeEntry → Counters
arrived_counters c node (Node m) = c
arrived_counters c node (Free previous next) = pick (eqb previous 0) (free_slot_moved c (node + 1)) c

abbrev pub is_free : NodeEntry → Bool
is_free (Node m) = false
is_free (Free previous next) = true

-- a slot and itself stay put, and so do two free slots
abbrev pub stays : ℕ → ℕ → NodeEntry → NodeEntry → Bool
stays a b here there = pick (eqb a b) true (pick (is_free here) (is_free there) false)

abbrev pub stays_put : List ℕ → ℕ → ℕ → Bool
stays_put slots a b = stays a b (node_entry slots a) (node_entry slots b)

-- what slot a said arrives at b, and what b said at a
unfoldable pub swapped_slots : List ℕ → ℕ → ℕ → List ℕ
swapped_slots slots a b = pick (stays_put slots a b) slots (arrived_slots (arrived_slots slots a (node_entry slots b)) b (node_entry slots a))

unfoldable pub swapped_owners : List ℕ → List ℕ → ℕ → ℕ → List ℕ
swapped_owners slots owners a b = pick (stays_put slots a b) owners (arrived_owners (arrived_owners owners a (node_entry slots b)) b (node_entry slots a))

unfoldable pub swapped_counters : List ℕ → Counters → ℕ → ℕ → Counters
swapped_counters slots c a b = pick (stays_put slots a b) c (arrived_counters (arrived_counters c a (node_entry slots b)) b (node_entry slots a))

unfoldable pub swapped : Store → ℕ → ℕ → Store
swapped s a b =
    record {
      slots = swapped_slots s.slots a b;
      links = s.links;
      owners = swapped_owners s.slots s.owners a b;
      heads = s.heads;
      counters = swapped_counters s.slots s.counters a b;
    }

-- An entry can arrive: a live one has a slab inside the table of owners, a free one neighbours inside the table of slots.
abbrev pub EntryInside : ℕ → ℕ → NodeEntry → Type 0
EntryInside slots owners (Node m) = (m.inlets ≤ most) × (m.first + m.inlets + m.outlets ≤ owners)
EntryInside slots owners (Free previous next) = (width * previous ≤ slots) × (width * next ≤ slots)

pub record CanArrive (slots owners : List ℕ) (node : ℕ) (entry : NodeEntry) : Type 0 where
  pub few : node < 65536
  pub inside : width * node + width ≤ length slots
  pub entry_inside : EntryInside (length slots) (length owners) entry

pub record Arrived (slots owners : List ℕ) (c : Counters) (node : ℕ) (entry : NodeEntry) (slots' owners' : List ℕ) (r : Counters) : Type 0 where
  pub slots_after : slots' ≡ arrived_slots slots node entry
  pub owners_after : owners' ≡ arrived_owners owners node entry
  pub counters_after : r ≡ arrived_counters c node entry

pub record CanSwap (slots owners : List ℕ) (a b : ℕ) : Type 0 where
  pub few_a : a < 65536
  pub few_b : b < 65536
  pub inside_a : width * a + width ≤ length slots
  pub inside_b : width * b + width ≤ length slots
  pub entry_a : EntryInside (length slots) (length owners) (node_entry slots a)
  pub entry_b : EntryInside (length slots) (length owners) (node_entry slots b)

pub record Swapped (slots owners : List ℕ) (c : Counters) (a b : ℕ) (slots' owners' : List ℕ) (r : Counters) : Type 0 where
  pub slots_after : slots' ≡ swapped_slots slots a b
  pub owners_after : owners' ≡ swapped_owners slots owners a b
  pub counters_after : r ≡ swapped_counters slots c a b
