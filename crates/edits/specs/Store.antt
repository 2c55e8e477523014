-- The store as values: the four lent tables and the six counters (document 01, "Lent memory"). What a number of a slot or of a port
-- stands for, and how a definition goes by cases on it.
use Rattle.std.specs.Prelude.{ℕ, ◌≡◌, List, Option, Some, None, get_or, ltb}
use Rattle.slabs.specs.Choice.{pick}
use Rattle.slabs.specs.NodeEntry.{node_entry}
use Rattle.slabs.specs.PortEntry.{port_entry}
use Rattle.slabs.specs.declared.counters.Counters.{Counters}
use Rattle.slabs.specs.declared.node_entry.NodeMeta.{NodeMeta}
use Rattle.slabs.specs.declared.node_entry.NodeEntry.{NodeEntry}
use Rattle.slabs.specs.declared.node_entry.NodeEntry.TheVariants as node
use Rattle.slabs.specs.declared.port_entry.PortMeta.{PortMeta}
use Rattle.edits.specs.declared.store.Tables.{Tables}
use Rattle.edits.specs.declared.store.View.{View}

pub record Store : Type 0 where
  pub slots : List ℕ
  pub links : List ℕ
  pub owners : List ℕ
  pub heads : List ℕ
  pub counters : Counters

abbrev pub store_of : List ℕ → List ℕ → List ℕ → List ℕ → Counters → Store
store_of slots links owners heads c = record { slots = slots; links = links; owners = owners; heads = heads; counters = c }

-- the store in lent tables, with these counters
abbrev pub store_in : Tables → Counters → Store
store_in t c = store_of t.slots.now t.links.now t.owners.now t.heads.now c

-- the store that is looked at
abbrev pub store_seen : View → Counters → Store
store_seen v c = store_of v.slots.now v.links.now v.owners.now v.heads.now c

-- a look at the tables shows their words
pub record SameWords (t : Tables) (v : View) : Type 0 where
  pub slots : v.slots.now ≡ t.slots.now
  pub links : v.links.now ≡ t.links.now
  pub owners : v.owners.now ≡ t.owners.now
  pub heads : v.heads.now ≡ t.heads.now

-- the tables are the same lent memory after as before, whatever is written to it
pub record SameMemory (before after : Tables) : Type 0 where
  pub slots : after.slots.ghost_name ≡ before.slots.ghost_name
  pub links : after.links.ghost_name ≡ before.links.ghost_name
  pub owners : after.owners.ghost_name ≡ before.owners.ghost_name
  pub heads : after.heads.ghost_name ≡ before.heads.ghost_name

-- what slot k says, where it is below the node mark; at or above it no slot is live
unfoldable pub node_at : List ℕ → ℕ → ℕ → NodeEntry
node_at slots mark k = pick (ltb k mark) (node_entry slots k) (node.Free 0 0)

-- what the owner word of port p says, where it is below the port mark; at or above it no port is live
unfoldable pub port_at : List ℕ → ℕ → ℕ → Option PortMeta
port_at owners mark p = pick (ltb p mark) (port_entry (get_or owners p 0)) None

-- for a live slot, else
abbrev pub on_node : {A : Type 0} → NodeEntry → (NodeMeta → A) → A → A
on_node (node.Node m) live other = live m
on_node (node.Free previous next) live other = other

-- what a live slot below the mark holds
abbrev pub live_node : List ℕ → ℕ → ℕ → Option NodeMeta
live_node slots mark k = on_node (node_at slots mark k) Some None

-- for a live port, with its node and direction, else
abbrev pub on_port : {A : Type 0} → Option PortMeta → (PortMeta → A) → A → A
on_port (Some port) live other = live port
on_port None live other = other

-- for a port wired to this partner, else
abbrev pub on_link : {A : Type 0} → Option ℕ → (ℕ → A) → A → A
on_link (Some partner) wired other = wired partner
on_link None wired other = other
