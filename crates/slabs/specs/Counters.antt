-- The six counters (document 01, "Lent memory"): what each change of them is, in every field.
use Rattle.std.specs.Prelude.{ℕ, ◌+◌, ◌-◌}
use Rattle.slabs.specs.declared.counters.Counters.{Counters}

-- an empty store
abbrev pub none_counted : Counters
none_counted = record { nodemark = 0; portmark = 0; freeslot = 0; nodes = 0; ports = 0; links = 0 }

-- one wire more
abbrev pub link_counted : Counters → Counters
link_counted c = record { nodemark = c.nodemark; portmark = c.portmark; freeslot = c.freeslot; nodes = c.nodes; ports = c.ports; links = c.links + 1 }

-- so many wires fewer
abbrev pub links_uncounted : Counters → ℕ → Counters
links_uncounted c wires = record { nodemark = c.nodemark; portmark = c.portmark; freeslot = c.freeslot; nodes = c.nodes; ports = c.ports; links = c.links - wires }

-- a slab with so many live ports is freed, which cuts so many wires
abbrev pub slab_freed : Counters → ℕ → ℕ → Counters
slab_freed c live wires = record { nodemark = c.nodemark; portmark = c.portmark; freeslot = c.freeslot; nodes = c.nodes; ports = c.ports - live; links = c.links - wires }

-- the port mark stands elsewhere
abbrev pub port_marked : Counters → ℕ → Counters
port_marked c mark = record { nodemark = c.nodemark; portmark = mark; freeslot = c.freeslot; nodes = c.nodes; ports = c.ports; links = c.links }

-- the port mark goes up by the size of a new slab
abbrev pub mark_raised : Counters → ℕ → Counters
mark_raised c size = port_marked c (c.portmark + size)

-- the node mark goes up by one slot
abbrev pub node_mark_raised : Counters → Counters
node_mark_raised c = record { nodemark = c.nodemark + 1; portmark = c.portmark; freeslot = c.freeslot; nodes = c.nodes; ports = c.ports; links = c.links }

-- the free chain of slots starts elsewhere
abbrev pub free_slot_moved : Counters → ℕ → Counters
free_slot_moved c head = record { nodemark = c.nodemark; portmark = c.portmark; freeslot = head; nodes = c.nodes; ports = c.ports; links = c.links }

-- one live slot more, with so many ports
abbrev pub node_counted : Counters → ℕ → Counters
node_counted c live = record { nodemark = c.nodemark; portmark = c.portmark; freeslot = c.freeslot; nodes = c.nodes + 1; ports = c.ports + live; links = c.links }

-- one live slot fewer
abbrev pub node_uncounted : Counters → Counters
node_uncounted c = record { nodemark = c.nodemark; portmark = c.portmark; freeslot = c.freeslot; nodes = c.nodes - 1; ports = c.ports; links = c.links }

-- a live slot has so many ports where it had so many before
abbrev pub ports_recounted : Counters → ℕ → ℕ → Counters
ports_recounted c before after = record { nodemark = c.nodemark; portmark = c.portmark; freeslot = c.freeslot; nodes = c.nodes; ports = c.ports - before + after; links = c.links }

-- the live slots are all below a new node mark, and no slot is free
abbrev pub nodes_packed : Counters → Counters
nodes_packed c = record { nodemark = c.nodes; portmark = c.portmark; freeslot = 0; nodes = c.nodes; ports = c.ports; links = c.links }

-- the live ports are all below a new port mark
abbrev pub ports_packed : Counters → Counters
ports_packed c = port_marked c c.ports
