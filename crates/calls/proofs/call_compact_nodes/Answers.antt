-- A compaction of the nodes that is answered with done leaves room for a record of each live slot.
use mathlib.Core.Path.{sym, ◌∙◌}
use Rattle.calls.proofs.RoomLaws.{can_pack_nodes}
use Rattle.calls.proofs.call_compact_nodes.Goals as goal

pub compact_nodes-requires : goal.compact_nodes-requires
compact_nodes-requires c = can_pack_nodes c.requires.0 c.requires.1 c.left.ensures (sym c.compact_answer.ensures ∙ c.in_ok-values.was)
