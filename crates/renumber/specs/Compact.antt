-- The compactions, calls 7 and 8 (document 01, the rule of the compactions): order is kept, every live node or port is recorded.
use Rattle.std.specs.Prelude.{ℕ, suc, zero, ◌+◌, ◌-◌, ◌*◌, List, [], ◌∷◌, ◌++◌, length, get_or, set, eqb, ltb}
use Rattle.slabs.specs.Choice.{pick}
use Rattle.slabs.specs.NodeEntry.{width, node_entry, set_entry}
use Rattle.slabs.specs.PortEntry.{node_of}
use Rattle.slabs.specs.Counters.{nodes_packed, ports_packed}
use Rattle.slabs.specs.Slab.{filled, owners_written}
use Rattle.slabs.specs.declared.node_entry.NodeEntry.TheVariants.{Node}
use Rattle.edits.specs.Store.{Store, on_node}
use Rattle.edits.specs.Counts.{live_slots, live_ports}
use Rattle.renumber.specs.Records.{Rec, rec}
use Rattle.renumber.specs.Moves.{moved}
use Rattle.edits.specs.Answer.{Answer}
use Rattle.edits.specs.declared.answer.Refusal.TheVariants.{LogFull}
use Rattle.edits.specs.Answer.{done}
use Rattle.std.specs.Prelude.{Err}

-- both: 7 where fewer records remain than there are nodes, or ports
unfoldable pub compact_answer : ℕ → ℕ → Answer
compact_answer count left = pick (ltb left count) (Err LogFull) (done count 0 0)

-- the slots once those below k have moved down
unfoldable pub packed_slots : List ℕ → ℕ → List ℕ
packed_slots slots zero = slots
packed_slots slots (suc k) = on_node (node_entry slots k) (λ m. set_entry (packed_slots slots k) (live_slots slots k) (Node m)) (packed_slots slots k)

-- the owner words then
unfoldable pub renamed_owners : List ℕ → List ℕ → ℕ → List ℕ
renamed_owners slots owners zero = owners
renamed_owners slots owners (suc k) =
    on_node (node_entry slots k)
    (λ m. owners_written (renamed_owners slots owners k) (live_slots slots k) m.first m.inlets m.outlets)
    (renamed_owners slots owners k)

unfoldable pub node_records : List ℕ → ℕ → List Rec
node_records slots zero = []
node_records slots (suc k) = on_node (node_entry slots k) (λ m. node_records slots k ++ (rec 4 k (live_slots slots k) ∷ [])) (node_records slots k)

-- call 7: what is left of the slots below the old mark is 0, and no slot is free
unfoldable pub compacted_slots : List ℕ → ℕ → List ℕ
compacted_slots slots mark = filled (packed_slots slots mark) (width * live_slots slots mark) (width * (mark - live_slots slots mark)) 0

unfoldable pub nodes_compacted : Store → Store
nodes_compacted s =
    record {
      slots = compacted_slots s.slots s.counters.nodemark;
      links = s.links;
      owners = renamed_owners s.slots s.owners s.counters.nodemark;
      heads = s.heads;
      counters = nodes_packed s.counters;
    }

-- the link words once the ports below p have moved down, their partners' words following
unfoldable pub packed_links : List ℕ → List ℕ → ℕ → List ℕ
packed_links owners links zero = links
packed_links owners links (suc p) =
    pick (eqb (get_or owners p 0) 0) (packed_links owners links p) (moved (packed_links owners links p) p (live_ports owners p))

-- the owner words then
unfoldable pub packed_owners : List ℕ → ℕ → List ℕ
packed_owners owners zero = owners
packed_owners owners (suc p) =
    pick (eqb (get_or owners p 0) 0) (packed_owners owners p) (set (packed_owners owners p) (live_ports owners p) (get_or owners p 0))

-- a step whose first port has moved follows it, and its capacity is what it needs
unfoldable pub followed : List ℕ → ℕ → ℕ → ℕ → List ℕ
followed slots node old new =
    on_node (node_entry slots node)
    (λ m. pick (eqb m.first old) (set_entry slots node (Node (record { first = new; inlets = m.inlets; outlets = m.outlets; capacity = m.inlets + m.outlets }))) slots)
    slots

unfoldable pub followed_slots : List ℕ → List ℕ → ℕ → List ℕ
followed_slots slots owners zero = slots
followed_slots slots owners (suc p) =
    pick (eqb (get_or owners p 0) 0)
    (followed_slots slots owners p)
    (followed (followed_slots slots owners p) (node_of (get_or owners p 0)) p (live_ports owners p))

unfoldable pub port_records : List ℕ → ℕ → List Rec
port_records owners zero = []
port_records owners (suc p) = pick (eqb (get_or owners p 0) 0) (port_records owners p) (port_records owners p ++ (rec 3 p (live_ports owners p) ∷ []))

-- a live step without ports has first port 0 and capacity 0
unfoldable pub slab_dropped : List ℕ → ℕ → List ℕ
slab_dropped slots k =
    on_node (node_entry slots k)
    (λ m. pick (eqb (m.inlets + m.outlets) 0) (set_entry slots k (Node (record { first = 0; inlets = 0; outlets = 0; capacity = 0 }))) slots)
    slots

unfoldable pub slabs_dropped : List ℕ → ℕ → List ℕ
slabs_dropped slots zero = slots
slabs_dropped slots (suc k) = slab_dropped (slabs_dropped slots k) k

-- call 8: what is left of links and owners below the old mark is 0, and all chains are empty
unfoldable pub emptied_above : List ℕ → ℕ → ℕ → List ℕ
emptied_above table live mark = filled table live (mark - live) 0

unfoldable pub ports_compacted : Store → Store
ports_compacted s =
    let mark : ℕ = s.counters.portmark in
    record {
      slots = slabs_dropped (followed_slots s.slots s.owners mark) s.counters.nodemark;
      links = emptied_above (packed_links s.owners s.links mark) (live_ports s.owners mark) mark;
      owners = emptied_above (packed_owners s.owners mark) (live_ports s.owners mark) mark;
      heads = filled s.heads 0 (length s.heads) 0;
      counters = ports_packed s.counters;
    }
