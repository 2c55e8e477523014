use native.Mathlib.Omega.{arith}
use Rattle.audit.proofs.FreeLaws.{free_none, free_skip, free_more, free_stuck}
use Rattle.audit.proofs.ports.free_slabs.Goals as goal

pub loop-index-init : goal.loop-index-init
loop-index-init c = free_none _ _ _ _ _ _ c.requires.2

pub returns-in_err-ports : goal.returns-in_err-ports
returns-in_err-ports c = rw c.from_residual.ensures (free_stuck _ _ _ _ _ _ _ _ c.loop-index.invariant _ (omega arith) c.in_err-ports.ensures)

pub loop-index-preserved : goal.loop-index-preserved
loop-index-preserved c = free_more _ _ _ _ _ _ _ _ c.loop-index.invariant _ _ c.in_ok-ports.ensures

pub loop-index-preserved-then-head-eq0 : goal.loop-index-preserved-then-head-eq0
loop-index-preserved-then-head-eq0 c = free_skip _ _ _ _ _ _ _ _ c.loop-index.invariant c.if-head-eq0.true
