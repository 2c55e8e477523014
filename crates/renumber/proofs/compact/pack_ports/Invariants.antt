-- After p turns the ports below p are packed; no turn has written owner word p, so the word that is read there is the one of the start.
use mathlib.Core.Path.{◌≡◌}
use Rattle.renumber.specs.Records.{later, SameLog}
use Rattle.renumber.specs.Packing.{PackedPorts}
use Rattle.renumber.proofs.compact.pack_ports.Given as goal

abbrev pub invariant-loop-p : goal.invariant-loop-p
invariant-loop-p l =
    record {
      memory : SameLog l.initial.log l.log;
      words : PackedPorts l.initial.slots l.initial.links l.initial.owners l.initial.log.words.now l.p l.initial.log.to l.slots l.links l.owners l.log.words.now l.new;
      next : l.log.to ≡ later l.initial.log.to l.new;
    }
