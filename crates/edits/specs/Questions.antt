-- The questions, calls 9 to 13 (document 01, "The calls", "Answer numbers" and "Orders").
use Rattle.std.specs.Prelude.{ℕ, ◌+◌, ◌-◌, List, eqb, ltb}
use Rattle.slabs.specs.Choice.{pick}
use Rattle.slabs.specs.PortEntry.{direction_word}
use Rattle.slabs.specs.Links.{link_at}
use Rattle.slabs.specs.declared.counters.Counters.{Counters}
use Rattle.slabs.specs.declared.node_entry.NodeMeta.{NodeMeta}
use Rattle.edits.specs.Store.{node_at, port_at, on_node, on_port, on_link}
use Rattle.edits.specs.Answer.{Answer}
use Rattle.edits.specs.declared.answer.Refusal.TheVariants.{NoNode, NoPort, NoSuchCall, OwnerNotLive}
use Rattle.edits.specs.Answer.{done}
use Rattle.std.specs.Prelude.{Err}

-- call 9: a step's inlets, outlets and capacity
unfoldable pub ask_node : List ℕ → ℕ → ℕ → Answer
ask_node slots mark node = on_node (node_at slots mark node) (λ m. done m.inlets m.outlets m.capacity) (Err (NoNode node))

-- the offset of a port of this step
abbrev pub offset_in : NodeMeta → ℕ → ℕ → ℕ
offset_in m direction port = pick (eqb direction 0) (port - m.first) (port - m.first - m.inlets)

-- call 10: a port's step, direction and offset
unfoldable pub ask_port : List ℕ → List ℕ → Counters → ℕ → Answer
ask_port slots owners c port =
    on_port (port_at owners c.portmark port)
    (λ here. on_node (node_at slots c.nodemark here.node) (λ m. done here.node (direction_word here.direction) (offset_in m (direction_word here.direction) port)) (Err OwnerNotLive))
    (Err (NoPort port))

-- the port at this offset, of so many ports from first on
abbrev pub nth_port : ℕ → ℕ → ℕ → Answer
nth_port first n offset = pick (ltb offset n) (done (first + offset) 0 0) (Err (NoPort offset))

-- call 11: the port at an offset
unfoldable pub ask_offset : List ℕ → ℕ → ℕ → ℕ → ℕ → Answer
ask_offset slots mark node direction offset =
    pick (ltb 1 direction)
    (Err NoSuchCall)
    (on_node (node_at slots mark node)
    (λ m. pick (eqb direction 0) (nth_port m.first m.inlets offset) (nth_port (m.first + m.inlets) m.outlets offset))
    (Err (NoNode node)))

-- call 12: whether a port is wired, and to which
unfoldable pub ask_link : List ℕ → List ℕ → ℕ → ℕ → Answer
ask_link owners links mark port =
    on_port (port_at owners mark port) (λ here. on_link (link_at links port) (λ partner. done 1 partner 0) (done 0 0 0)) (Err (NoPort port))

-- call 13: the three counts
abbrev pub ask_counts : Counters → Answer
ask_counts c = done c.nodes c.ports c.links
