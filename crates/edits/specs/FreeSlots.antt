-- The free slots as a doubly linked chain (document 01, "Lent memory", slots, and the first rule of the edits): taking the head free
-- slot, else the slot at the mark, and making a slot the head.
use Rattle.std.specs.Prelude.{ℕ, suc, ◌+◌, ◌-◌, ◌*◌, ◌≤◌, ◌≡◌, List, Bool, true, length, set, eqb, leb}
use Rattle.slabs.specs.Choice.{pick}
use Rattle.slabs.specs.NodeEntry.{width, slot_word, set_entry}
use Rattle.slabs.specs.Counters.{free_slot_moved}
use Rattle.slabs.specs.declared.counters.Counters.{Counters}
use Rattle.slabs.specs.declared.node_entry.NodeEntry.TheVariants.{Free}

-- the slots once this word of the free slot that `word` names is a neighbour; 0 names none
abbrev pub set_neighbour : ℕ → List ℕ → ℕ → ℕ → List ℕ
set_neighbour at slots word neighbour = pick (eqb word 0) slots (set slots (width * (word - 1) + at) neighbour)

-- its first word is its previous,
unfoldable pub set_previous : List ℕ → ℕ → ℕ → List ℕ
set_previous slots word previous = set_neighbour 0 slots word previous

-- its third its next
unfoldable pub set_next : List ℕ → ℕ → ℕ → List ℕ
set_next slots word next = set_neighbour 2 slots word next

-- a slot can be had: the chain has one, or the room above the node mark. Where not, the answer is 5
unfoldable pub slot_at_hand : List ℕ → Counters → Bool
slot_at_hand slots c = pick (eqb c.freeslot 0) (leb (width * c.nodemark + width) (length slots)) true

-- the slot that is taken
unfoldable pub next_slot : Counters → ℕ
next_slot c = pick (eqb c.freeslot 0) c.nodemark (c.freeslot - 1)

-- the word of the head free slot that names the next one
abbrev pub second_free : List ℕ → Counters → ℕ
second_free slots c = slot_word slots (c.freeslot - 1) 2

-- the slots once it is taken: the next free slot has no previous
unfoldable pub slot_taken : List ℕ → Counters → List ℕ
slot_taken slots c = pick (eqb c.freeslot 0) slots (set_previous slots (second_free slots c) 0)

unfoldable pub taken_node_mark : Counters → ℕ
taken_node_mark c = pick (eqb c.freeslot 0) (c.nodemark + 1) c.nodemark

unfoldable pub taken_free_slot : List ℕ → Counters → ℕ
taken_free_slot slots c = pick (eqb c.freeslot 0) c.freeslot (second_free slots c)

-- the counters then: no other field changes
abbrev pub slot_taken_counters : List ℕ → Counters → Counters
slot_taken_counters slots c = record { nodemark = taken_node_mark c; portmark = c.portmark; freeslot = taken_free_slot slots c; nodes = c.nodes; ports = c.ports; links = c.links }

-- the slots once this one is the head of the free chain
unfoldable pub slot_freed : List ℕ → Counters → ℕ → List ℕ
slot_freed slots c node = set_entry (set_previous slots c.freeslot (node + 1)) node (Free 0 c.freeslot)

abbrev pub slot_freed_counters : Counters → ℕ → Counters
slot_freed_counters c node = free_slot_moved c (node + 1)

-- What taking a slot asks: the slots that it reads and writes are in the table.
pub record CanTakeSlot (slots : List ℕ) (c : Counters) : Type 0 where
  pub head : width * c.freeslot ≤ length slots
  pub second : (k : ℕ) → c.freeslot ≡ suc k → width * slot_word slots k 2 ≤ length slots
  pub few : c.nodemark ≤ 65536

-- What taking a slot does: which slot it is, and the slots and counters after it.
pub record TookSlot (slots : List ℕ) (c : Counters) (slots' : List ℕ) (node' : ℕ) (c' : Counters) : Type 0 where
  pub node : node' ≡ next_slot c
  pub counters : c' ≡ slot_taken_counters slots c
  pub slots_after : slots' ≡ slot_taken slots c
