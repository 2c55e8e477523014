-- The slot that was taken lies in the table of slots, and a slab of the ports inside the tables, since the store fits.
use Rattle.std.proofs.Common.{arith}
use Rattle.edits.proofs.TakeLaws.{next_inside}
use Rattle.edits.proofs.steps.add.Goals as goal

pub take_ports-first-requires : goal.take_ports-first-requires
take_ports-first-requires c =
    let fit = c.requires.0 in
    let can = c.requires.1 in
    record {
      few = grind (arith, next_inside);
      sized = can.sized;
      few_heads = fit.few_heads;
      small = fit.few_ports;
      equal = fit.equal;
      slab = rw c.take_slot-node.ensures.counters can.slab;
      inside = λ first one e. fit.heads_inside _ first one can.sized e;
    }
