-- A sound store in the parts that the edits keep: what the slab part promises takes the place of rule 4 and of what rules 1, 5 and 6 say of
-- ports that no step holds. They make two halves, the table of slots and the tables of ports, which meet in what the slots hold and in rule 5.
use Prim.Native.Nat.{ℕ, ◌*◌, ◌≤◌, ◌<◌}
use mathlib.Core.Path.{◌≡◌}
use native.Mathlib.Omega.{arith}
use lib.ListN.{length, get_or}
use Rattle.slabs.specs.NodeEntry.{width, node_entry}
use Rattle.slabs.specs.Links.{Wiring}
use Rattle.slabs.specs.Slabs.{Slabs, starts_at}
use Rattle.slabs.specs.declared.node_entry.NodeMeta.{NodeMeta}
use Rattle.slabs.specs.declared.node_entry.NodeEntry.TheVariants.{Node}
use Rattle.slabs.proofs.SlabLaws.{starts_free}
use Rattle.edits.specs.Store.{Store}
use Rattle.sound.specs.Sound.{Shaped, Slots, FreeChain, held_in, Owned, Counted, Sound}
use Rattle.sound.proofs.FreeSlotLaws.{SlotChain, slot_chain, free_chain}
use Rattle.sound.proofs.SlotTable.{SlotTable}
use Rattle.sound.proofs.PortTable.{PortTable}

-- the parts
pub record Parts (s : Store) : Type 0 where
  pub node_room : width * s.counters.nodemark ≤ length s.slots
  pub slots_blank : (i : ℕ) → width * s.counters.nodemark ≤ i → get_or s.slots i 0 ≡ 0
  pub slots : Slots s
  pub free_chain : FreeChain s
  pub slabs : Slabs s.links s.owners s.heads s.counters.portmark (held_in s)
  pub owned : (k : ℕ) → k < s.counters.nodemark → (m : NodeMeta) → node_entry s.slots k ≡ Node m → Owned s.owners k m
  pub wiring : Wiring s.owners s.links (held_in s)
  pub counted : Counted s

-- A sound store of well-shaped tables has them,
pub parts_of : (s : Store) → Shaped s → Sound s → Parts s
parts_of s shaped sound =
    record {
      node_room = sound.marks.nodes_inside;
      slots_blank = sound.marks.slots_blank;
      slots = sound.slots;
      free_chain = sound.free_chain;
      slabs =
          record {
            room = sound.marks.ports_inside;
            equal = shaped.equal;
            chains = sound.tiled.chains;
            chained = sound.tiled.chained;
            once = sound.tiled.once;
            within = sound.tiled.within;
            bare = sound.owners.free;
            loose = sound.links.loose;
          };
      owned = sound.owners.live;
      wiring = sound.links.wiring;
      counted = sound.counted;
    }

-- A port at or above the mark is in no slab,
pub unheld : (s : Store) (P : Parts s) (p : ℕ) → s.counters.portmark ≤ p → held_in s p ≡ 0
unheld s P p h = omega (arith, P.slabs.within p h)

-- and no free slab starts there.
unstarted : (s : Store) (P : Parts s) (p : ℕ) → s.counters.portmark ≤ p → starts_at P.slabs.chains (length s.heads) p ≡ 0
unstarted s P p h = omega (arith, P.slabs.within p h, starts_free P.slabs.chains (length s.heads) p)

-- So the parts make a store sound.
pub sound_of : (s : Store) → Parts s → Sound s
sound_of s P =
    record {
      marks =
          record {
            nodes_inside = P.node_room;
            ports_inside = P.slabs.room;
            slots_blank = P.slots_blank;
            links_blank = λ p h. P.slabs.loose p (unheld s P p h) (unstarted s P p h);
            owners_blank = λ p h. P.slabs.bare p (unheld s P p h);
          };
      slots = P.slots;
      free_chain = P.free_chain;
      tiled = record { chains = P.slabs.chains; chained = P.slabs.chained; once = P.slabs.once; within = P.slabs.within };
      owners = record { live = P.owned; free = P.slabs.bare };
      links = record { wiring = P.wiring; loose = P.slabs.loose };
      counted = P.counted;
    }

-- One half of the parts is the table of slots,
pub slot_table : (s : Store) → Parts s → SlotTable s.slots (length s.heads) s.counters.nodemark s.counters.nodes
slot_table s P = record { room = P.node_room; blank = P.slots_blank; says = P.slots; counted = P.counted.nodes }

-- with the chain of its free slots,
pub chain_of : (s : Store) → Parts s → SlotChain s.slots s.counters.freeslot s.counters.nodemark
chain_of s P = slot_chain s P.free_chain

-- the other the tables of ports;
pub port_table : (s : Store) → Parts s
    → PortTable s.links s.owners s.heads s.counters.portmark (held_in s) s.counters.ports s.counters.links
port_table s P =
    record { slabs = P.slabs; wiring = P.wiring; ports_counted = P.counted.ports; wires_counted = P.counted.links }

-- and both, with rule 5, are all.
pub parts_by : (s : Store) → SlotTable s.slots (length s.heads) s.counters.nodemark s.counters.nodes
    → SlotChain s.slots s.counters.freeslot s.counters.nodemark
    → PortTable s.links s.owners s.heads s.counters.portmark (held_in s) s.counters.ports s.counters.links
    → ((k : ℕ) → k < s.counters.nodemark → (m : NodeMeta) → node_entry s.slots k ≡ Node m → Owned s.owners k m)
    → Parts s
parts_by s table chain ports owned =
    record {
      node_room = table.room;
      slots_blank = table.blank;
      slots = table.says;
      free_chain = free_chain s chain;
      slabs = ports.slabs;
      owned = owned;
      wiring = ports.wiring;
      counted = record { nodes = table.counted; ports = ports.ports_counted; links = ports.wires_counted };
    }
