-- Four fields one behind the other, each where the one before ends.
use Rattle.text.proofs.LineLaws.{no_first, no_second, no_third, no_fourth, line_made}
use Rattle.text.proofs.input.read_line.Goals as goal

pub returns-in_err-n : goal.returns-in_err-n
returns-in_err-n c = rw c.from_residual.ensures (no_first c.args.s.now c.args.at c.in_err-n.ensures)

pub returns-in_err-a : goal.returns-in_err-a
returns-in_err-a c = rw c.from_residual-in_err-a.ensures (no_second _ _ _ _ c.in_ok-n.ensures c.in_err-a.ensures)

pub returns-in_err-b : goal.returns-in_err-b
returns-in_err-b c = rw c.from_residual-in_err-b.ensures (no_third _ _ _ _ c.in_ok-n.ensures _ _ c.in_ok-a.ensures c.in_err-b.ensures)

pub returns-in_err-c : goal.returns-in_err-c
returns-in_err-c c =
    rw c.from_residual-in_err-c.ensures (no_fourth _ _ _ _ c.in_ok-n.ensures _ _ c.in_ok-a.ensures _ _ c.in_ok-b.ensures c.in_err-c.ensures)

pub returns : goal.returns
returns c = line_made _ _ _ _ _ _ _ _ _ _ c.in_ok-n.ensures c.in_ok-a.ensures c.in_ok-b.ensures c.in_ok-c.ensures
