-- Slot words (document 01, "Lent memory", slots), and the ports of a live slot in its slab: inlets, outlets, spare.
use Rattle.std.specs.Prelude.{ℕ, ◌+◌, ◌-◌, ◌*◌, List, get_or, set, eqb}
use Rattle.slabs.specs.Choice.{pick}
use Rattle.slabs.specs.declared.node_entry.NodeMeta.{NodeMeta}
use Rattle.slabs.specs.declared.node_entry.PortRange.{PortRange}
use Rattle.slabs.specs.declared.node_entry.NodeEntry.{NodeEntry}
use Rattle.slabs.specs.declared.node_entry.NodeEntry.TheVariants.{Free, Node}

-- the words of a slot
abbrev pub width : ℕ
width = 4

-- word j of slot k
abbrev pub slot_word : List ℕ → ℕ → ℕ → ℕ
slot_word slots k j = get_or slots (width * k + j) 0

-- what slot k says: free where its second word is 0, else live
unfoldable pub node_entry : List ℕ → ℕ → NodeEntry
node_entry slots k =
    pick (eqb (slot_word slots k 1) 0)
    (Free (slot_word slots k 0) (slot_word slots k 2))
    (Node
    (record { first = slot_word slots k 0; inlets = slot_word slots k 1 - 1; outlets = slot_word slots k 2; capacity = slot_word slots k 3 }))

-- the slots after these words are written to slot k
abbrev pub set_slot : List ℕ → ℕ → ℕ → ℕ → ℕ → ℕ → List ℕ
set_slot slots k w₀ w₁ w₂ w₃ =
    set (set (set (set slots (width * k + 0) w₀) (width * k + 1) w₁) (width * k + 2) w₂) (width * k + 3) w₃

-- the slots after an entry is written to slot k
unfoldable pub set_entry : List ℕ → ℕ → NodeEntry → List ℕ
set_entry slots k (Free previous next) = set_slot slots k previous 0 next 0
set_entry slots k (Node m) = set_slot slots k m.first (m.inlets + 1) m.outlets m.capacity

-- the inlets of an entry, 0 of a free one
abbrev pub inlets_of : NodeEntry → ℕ
inlets_of (Free previous next) = 0
inlets_of (Node m) = m.inlets

-- the slab of a live slot: its inlets first, then its outlets, then what is spare
abbrev pub inlet_ports : NodeMeta → PortRange
inlet_ports m = record { start = m.first; end = m.first + m.inlets }

abbrev pub outlet_ports : NodeMeta → PortRange
outlet_ports m = record { start = m.first + m.inlets; end = m.first + m.inlets + m.outlets }

abbrev pub spare_ports : NodeMeta → PortRange
spare_ports m = record { start = m.first + m.inlets + m.outlets; end = m.first + m.capacity }
