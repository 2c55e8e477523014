-- What is known of a slot or a port that is found live: it stands below its mark, and its own words say so.
use Prim.Native.Nat.{ℕ, ◌<◌}
use mathlib.Core.List.{List}
use mathlib.Core.Path.{◌≡◌}
use native.Mathlib.Omega.{arith}
use Rattle.std.proofs.lemmas.Grind.{common_steps}
use Rattle.slabs.specs.NodeEntry.{node_entry}
use Rattle.slabs.specs.declared.node_entry.NodeMeta.{NodeMeta}
use Rattle.slabs.specs.declared.node_entry.NodeEntry.TheVariants as node
use Rattle.slabs.specs.declared.port_entry.PortMeta.{PortMeta}
use Rattle.std.specs.Prelude.{Some, None, Result, Ok, Err}
use Rattle.std.specs.Option.{ok_or}
use Rattle.slabs.specs.declared.node_entry.NodeEntry.{NodeEntry}
use Rattle.edits.specs.Store.{node_at, port_at, on_node}

-- A live port stands below the port mark.
pub port_below : (owners : List ℕ) (mark p : ℕ) (m : PortMeta) → port_at owners mark p ≡ Some m → p < mark
unfolding port_at
port_below owners mark p m e = grind (arith, common_steps)

-- A live slot stands below the node mark.
pub node_below : (slots : List ℕ) (mark k : ℕ) (m : NodeMeta) → node_at slots mark k ≡ node.Node m → k < mark
unfolding node_at
node_below slots mark k m e = grind (arith, common_steps)

-- A live slot is live by its own words.
pub node_entry_lem : (slots : List ℕ) (mark k : ℕ) (m : NodeMeta) → node_at slots mark k ≡ node.Node m → node_entry slots k ≡ node.Node m
unfolding node_at
node_entry_lem slots mark k m e = grind (arith, common_steps)

-- A question that finds a live step goes on with it,
pub live_found : {E : Type 0} (e : NodeEntry) (r : E) (m : NodeMeta) → ok_or (on_node e Some None) r ≡ Ok m → e ≡ node.Node m
live_found (node.Node n) r m h = grind arith
live_found (node.Free previous next) r m h = grind arith

-- and one that finds none says so.
pub live_missed : {A E : Type 0} (e : NodeEntry) (r f : E) (live : NodeMeta → Result A E) → ok_or (on_node e Some None) r ≡ Err f → Err f ≡ on_node e live (Err r)
live_missed (node.Node n) r f live h = grind arith
live_missed (node.Free previous next) r f live h = grind arith
