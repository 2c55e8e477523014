-- After k turns the slots below k are packed; no turn has written slot k, so the entry that is read there is the one of the start.
use mathlib.Core.Path.{◌≡◌}
use Rattle.renumber.specs.Records.{later, SameLog}
use Rattle.renumber.specs.Packing.{PackedNodes}
use Rattle.renumber.proofs.compact.pack_nodes.Given as goal

abbrev pub invariant-loop-k : goal.invariant-loop-k
invariant-loop-k l =
    record {
      memory : SameLog l.initial.log l.log;
      words : PackedNodes l.initial.slots l.initial.owners l.initial.log.words.now l.k l.initial.log.to l.slots l.owners l.log.words.now l.new;
      next : l.log.to ≡ later l.initial.log.to l.new;
    }
