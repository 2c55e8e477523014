-- A slab that is taken, by its chain or at the mark, lies inside the tables.
use Prim.Native.Nat.{◌+◌, ◌≤◌}
use native.Mathlib.Omega.{arith}
use borrow.Author.Tests.{ne_eqb}
use Rattle.slabs.specs.Slab.{head_of}
use Rattle.edits.specs.Steps.{new_slab_at_hand}
use Rattle.edits.proofs.TakeLaws.{head_inside, taken_ends}
use Rattle.edits.proofs.steps.take_ports.Goals as goal

pub take_slab-first-requires : goal.take_slab-first-requires
unfolding new_slab_at_hand
take_slab-first-requires c =
    let can = c.requires in
    let one : 1 ≤ c.args.inlets + c.args.outlets = omega arith in
    record {
      some = one;
      sized = can.sized;
      small = can.small;
      head_inside = head_inside (head_of c.args.heads.now (c.args.inlets + c.args.outlets)) _ _ one (λ first e. can.inside first one e);
      had = simp (ne_eqb _ _ c.if-total-eq0.false) at can.slab;
    }

pub write_owners-requires : goal.write_owners-requires
unfolding new_slab_at_hand
write_owners-requires c =
    let can = c.requires in
    let had = simp (ne_eqb _ _ c.if-total-eq0.false) at can.slab in
    (can.few, omega (arith, taken_ends _ _ _ _ had (λ first e. can.inside first (omega arith) e)))
