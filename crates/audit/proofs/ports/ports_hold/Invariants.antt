-- `ports_hold` decides rule 6 for the live ports and two counts: the ports that the loop has passed have their mates, and are counted.
use Prim.Native.Nat.{ℕ, ◌<◌}
use mathlib.Core.Path.{◌≡◌}
use mathlib.Core.List.{List}
use Rattle.slabs.specs.PortEntry.{Live}
use Rattle.slabs.specs.Links as wires
use Rattle.edits.specs.Counts.{live_ports}
use Rattle.audit.specs.Parts.{MateHolds}
use Rattle.audit.proofs.ports.ports_hold.Given as goal

-- after p ports
pub record Looked (links owners : List ℕ) (ports pairs p : ℕ) : Type 0 where
  pub mated : (q : ℕ) → q < p → Live owners q → MateHolds links owners q
  pub live : ports ≡ live_ports owners p
  pub wired : pairs ≡ wires.pairs owners links p

abbrev pub invariant-loop-port : goal.invariant-loop-port
invariant-loop-port l = Looked l.links l.owners l.ports l.pairs l.port
