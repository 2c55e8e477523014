-- After i turns i ports are cut, each recorded just before its own cut.
use mathlib.Core.Path.{◌≡◌}
use Rattle.renumber.specs.Records.{later, SameLog}
use Rattle.renumber.specs.Room.{CutPorts}
use Rattle.renumber.proofs.moves.remove_ports.Given as goal

abbrev pub invariant-loop-i : goal.invariant-loop-i
invariant-loop-i l =
    record {
      memory : SameLog l.initial.log l.log;
      words : CutPorts l.initial.links l.initial.log.words.now l.initial.log.to l.first l.i l.links l.log.words.now l.wires;
      next : l.log.to ≡ later l.initial.log.to l.i;
    }
