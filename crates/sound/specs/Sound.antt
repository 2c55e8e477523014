-- A sound store: document 01's seven rules, in its order. Well-shaped tables are taken for granted; `Shaped` says what they are.
use Rattle.std.specs.Prelude.{ℕ, suc, ◌+◌, ◌*◌, ◌≤◌, ◌<◌, ◌≡◌, List, [], ◌∷◌, length, get_or, ltb}
use Rattle.slabs.specs.Choice.{pick}
use Rattle.slabs.specs.Sums.{sum, sum_of}
use Rattle.slabs.specs.PortEntry.{owner_word}
use Rattle.slabs.specs.NodeEntry.{width, slot_word, node_entry}
use Rattle.slabs.specs.Links.{Wiring, pairs}
use Rattle.slabs.specs.Slabs.{in_slab, is_port, Chain, free_at, starts_at}
use Rattle.slabs.specs.declared.node_entry.NodeMeta.{NodeMeta}
use Rattle.slabs.specs.declared.node_entry.NodeEntry.{NodeEntry}
use Rattle.slabs.specs.declared.node_entry.NodeEntry.TheVariants.{Free, Node}
use Rattle.edits.specs.Store.{Store, on_node}
use Rattle.edits.specs.Steps.{most}
use Rattle.edits.specs.Counts.{live_slots, live_ports}

-- "Lent memory": whole slots, at most 65,536; links and owners of equal length, at most 1,048,576; 1 to 32,768 heads
pub record Shaped (s : Store) : Type 0 where
  pub room : ℕ
  pub whole : length s.slots ≡ width * room
  pub few_slots : room ≤ 65536
  pub equal : length s.owners ≡ length s.links
  pub few_ports : length s.links ≤ 1048576
  pub some_heads : 1 ≤ length s.heads
  pub few_heads : length s.heads ≤ 32768

-- Rule 1: neither mark is beyond its table, and from the marks on every word is 0.
pub record Marks (s : Store) : Type 0 where
  pub nodes_inside : width * s.counters.nodemark ≤ length s.slots
  pub ports_inside : s.counters.portmark ≤ length s.links
  pub slots_blank : (i : ℕ) → width * s.counters.nodemark ≤ i → get_or s.slots i 0 ≡ 0
  pub links_blank : (p : ℕ) → s.counters.portmark ≤ p → get_or s.links p 0 ≡ 0
  pub owners_blank : (p : ℕ) → s.counters.portmark ≤ p → get_or s.owners p 0 ≡ 0

-- Rule 2 for a live slot
pub record LiveSlot (heads : ℕ) (m : NodeMeta) : Type 0 where
  pub few_inlets : m.inlets ≤ most
  pub few_outlets : m.outlets ≤ most
  pub fit : m.inlets + m.outlets ≤ m.capacity
  pub sized : m.capacity ≤ heads
  pub unplaced : m.capacity ≡ 0 → m.first ≡ 0

-- Rule 2: a slot is free, its second and fourth words 0, or live. The other two words of a free slot are rule 3's.
abbrev pub SlotSays : ℕ → ℕ → NodeEntry → Type 0
SlotSays heads fourth (Free previous next) = fourth ≡ 0
SlotSays heads fourth (Node m) = LiveSlot heads m

-- Rule 2, below the node mark
abbrev pub Slots : Store → Type 0
Slots s = (k : ℕ) → k < s.counters.nodemark → SlotSays (length s.heads) (slot_word s.slots k 3) (node_entry s.slots k)

-- each slot of a chain names the one before it as its previous, and the first none
abbrev pub Backed : (ℕ → ℕ) → ℕ → List ℕ → Type 0
Backed previous before [] = Unit {0}
Backed previous before (k ∷ ks) = (previous k ≡ before) × Backed previous (suc k) ks

-- 1 for a free slot below the node mark
unfoldable pub free_slots : Store → ℕ → ℕ
free_slots s k = pick (ltb k s.counters.nodemark) (on_node (node_entry s.slots k) (λ m. 0) 1) 0

-- Rule 3: the free slots are linked there and back into a single chain that starts at the head; it meets each of them once, and nothing
-- else.
pub record FreeChain (s : Store) : Type 0 where
  pub chain : List ℕ
  pub forward : Chain (λ k. slot_word s.slots k 2) s.counters.freeslot chain
  pub backward : Backed (λ k. slot_word s.slots k 0) 0 chain
  pub each_once : (k : ℕ) → sum_of (λ j. is_port j k) chain ≡ free_slots s k

-- in how many slabs of live slots port p lies
unfoldable pub held_at : List ℕ → ℕ → ℕ → ℕ
held_at slots mark p = sum (λ k. on_node (node_entry slots k) (λ m. in_slab m.first m.capacity p) 0) mark

abbrev pub held_in : Store → ℕ → ℕ
held_in s p = held_at s.slots s.counters.nodemark p

-- Rule 4: a port below the mark belongs to a single slab, which a live slot holds or which is free and on its size's chain; no slab goes
-- beyond the mark, and each chain comes to an end.
pub record Tiled (s : Store) : Type 0 where
  pub chains : ℕ → List ℕ
  pub chained : (i : ℕ) → i < length s.heads → Chain (λ p. get_or s.links p 0) (get_or s.heads i 0) (chains i)
  pub once : (p : ℕ) → p < s.counters.portmark → held_in s p + free_at chains (length s.heads) p ≡ 1
  pub within : (p : ℕ) → s.counters.portmark ≤ p → held_in s p + free_at chains (length s.heads) p ≡ 0

-- Rule 5 for the slab of live slot k: the inlets' owner words, then the outlets', then zeros
pub record Owned (owners : List ℕ) (k : ℕ) (m : NodeMeta) : Type 0 where
  pub inlets_owned : (i : ℕ) → i < m.inlets → get_or owners (m.first + i) 0 ≡ owner_word k 0
  pub outlets_owned : (i : ℕ) → i < m.outlets → get_or owners (m.first + m.inlets + i) 0 ≡ owner_word k 1
  pub spare_unowned : (i : ℕ) → m.inlets + m.outlets ≤ i → i < m.capacity → get_or owners (m.first + i) 0 ≡ 0

-- Rule 5 for all slabs: a port that no live slot holds has no owner.
pub record Owners (s : Store) : Type 0 where
  pub live : (k : ℕ) → k < s.counters.nodemark → (m : NodeMeta) → node_entry s.slots k ≡ Node m → Owned s.owners k m
  pub free : (p : ℕ) → held_in s p ≡ 0 → get_or s.owners p 0 ≡ 0

-- Rule 6: where the link word of a held port is not 0 it names the port's mate; a port that is not held has link word 0, but for the first
-- one of a free slab.
pub record Links (s : Store) (chains : ℕ → List ℕ) : Type 0 where
  pub wiring : Wiring s.owners s.links (held_in s)
  pub loose : (p : ℕ) → held_in s p ≡ 0 → starts_at chains (length s.heads) p ≡ 0 → get_or s.links p 0 ≡ 0

-- Rule 7: nodes, ports and links say how many live slots, live ports and wires there are, a wire counting once.
pub record Counted (s : Store) : Type 0 where
  pub nodes : s.counters.nodes ≡ live_slots s.slots s.counters.nodemark
  pub ports : s.counters.ports ≡ live_ports s.owners s.counters.portmark
  pub links : s.counters.links ≡ pairs s.owners s.links s.counters.portmark

pub record Sound (s : Store) : Type 0 where
  pub marks : Marks s
  pub slots : Slots s
  pub free_chain : FreeChain s
  pub tiled : Tiled s
  pub owners : Owners s
  pub links : Links s tiled.chains
  pub counted : Counted s
