-- What the code of the calls needs of the words that it is lent, so that it stays inside the tables and no sum wraps. A sound store of
-- well-shaped tables has it (the law `sound_fit`).
use Rattle.std.specs.Prelude.{ℕ, suc, ◌+◌, ◌*◌, ◌≤◌, ◌<◌, ◌≡◌, List, true, length, get_or}
use Rattle.slabs.specs.PortEntry.{Live, node_of}
use Rattle.slabs.specs.NodeEntry.{width, slot_word, node_entry}
use Rattle.slabs.specs.Links.{Inside}
use Rattle.slabs.specs.Slab.{head_of}
use Rattle.slabs.specs.declared.counters.Counters.{Counters}
use Rattle.slabs.specs.declared.node_entry.NodeMeta.{NodeMeta}
use Rattle.slabs.specs.declared.node_entry.NodeEntry.TheVariants.{Free, Node}
use Rattle.edits.specs.Store.{Store}
use Rattle.edits.specs.declared.store.Tables.{Tables}
use Rattle.edits.specs.FreeSlots.{slot_at_hand}
use Rattle.edits.specs.Steps.{most, new_slab_at_hand}
use Rattle.edits.specs.Counts.{live_slots, live_ports}

-- a live slot whose slab lies inside the port tables
pub record SlotFits (heads room : ℕ) (m : NodeMeta) : Type 0 where
  pub few_inlets : m.inlets ≤ most
  pub few_outlets : m.outlets ≤ most
  pub fit : m.inlets + m.outlets ≤ m.capacity
  pub sized : m.capacity ≤ heads
  pub ends : m.first + m.capacity ≤ room

-- every live slot below the mark is such a slot
abbrev pub SlotsFit : List ℕ → ℕ → ℕ → ℕ → Type 0
SlotsFit slots mark heads room = (k : ℕ) (m : NodeMeta) → k < mark → node_entry slots k ≡ Node m → SlotFits heads room m

pub record Fit (s : Store) : Type 0 where
  pub few_slots : length s.slots ≤ width * 65536
  pub equal : length s.owners ≡ length s.links
  pub few_ports : length s.links ≤ 1048576
  pub few_heads : length s.heads ≤ 32768
  pub node_room : width * s.counters.nodemark ≤ length s.slots
  pub port_room : s.counters.portmark ≤ length s.links
  pub live : SlotsFit s.slots s.counters.nodemark (length s.heads) (length s.links)
  -- the neighbours of a free slot, the free slot head and the one after it are slots below the mark, or none
  pub free : (k previous next : ℕ) → k < s.counters.nodemark → node_entry s.slots k ≡ Free previous next → (previous ≤ s.counters.nodemark) × (next ≤ s.counters.nodemark)
  pub head : s.counters.freeslot ≤ s.counters.nodemark
  pub second : (k : ℕ) → s.counters.freeslot ≡ suc k → slot_word s.slots k 2 ≤ s.counters.nodemark
  pub links_inside : Inside s.links
  pub heads_inside : (size first : ℕ) → 1 ≤ size → size ≤ length s.heads → head_of s.heads size ≡ suc first → first + size ≤ length s.links
  -- a live port's owner word names a slot below the mark
  pub owners_inside : (p : ℕ) → p < s.counters.portmark → Live s.owners p → node_of (get_or s.owners p 0) < s.counters.nodemark
  pub true_nodes : s.counters.nodes ≡ live_slots s.slots s.counters.nodemark
  pub true_ports : s.counters.ports ≡ live_ports s.owners s.counters.portmark
  pub few_links : s.counters.links ≤ 1048576

-- nothing refuses an add of these counts
pub record CanAdd (s : Store) (inlets outlets : ℕ) : Type 0 where
  pub few_inlets : inlets ≤ most
  pub few_outlets : outlets ≤ most
  pub sized : inlets + outlets ≤ length s.heads
  pub slot : slot_at_hand s.slots s.counters ≡ true
  pub slab : new_slab_at_hand s.heads s.counters.portmark (length s.links) (inlets + outlets) ≡ true

-- these are the words of a store
pub record StoreIs (s : Store) (slots links owners heads : List ℕ) (c : Counters) : Type 0 where
  pub slots_after : slots ≡ s.slots
  pub links_after : links ≡ s.links
  pub owners_after : owners ≡ s.owners
  pub heads_after : heads ≡ s.heads
  pub counters_after : c ≡ s.counters

-- the words of a store stand in these tables
abbrev pub StoreIn : Store → Tables → Counters → Type 0
StoreIn s t c = StoreIs s t.slots.now t.links.now t.owners.now t.heads.now c
