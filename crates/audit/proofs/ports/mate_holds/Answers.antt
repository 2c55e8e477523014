-- `mate_holds` decides rule 6 for one live port: where a test before the last one fails, the word names no mate.
use Prim.Native.Nat.{suc}
use mathlib.Core.Path.{◌≡◌, sym, ◌∙◌}
use native.Mathlib.Omega.{arith}
use lib.ListN.{get_or}
use Rattle.audit.proofs.DecideLaws.{decided_not}
use Rattle.audit.proofs.ports.mate_holds.Goals as goal
use Rattle.audit.proofs.ports.mate_holds.Goals.{then-mate-ports, else-mate-ports}

pub returns-else-faces_away : goal.returns-else-faces_away
returns-else-faces_away c =
    let mate = c.in-Some.mate in
    let e : get_or c.args.ports.links.now c.args.port 0 ≡ suc mate = omega (arith, c.in-Some.ensures) in
    rw c.if-faces_away.false
    (decided_not
    (λ h.
    elim c.if-mate-ports.branch [
      | then-mate-ports w ↦ w.faces_away.ensures.not_so (sym w.value-is ∙ c.if-faces_away.false) ((h mate e).there, λ same. (h mate e).across (sym c.requires.3 ∙ same))
      | else-mate-ports w ↦ (h mate e).there (c.requires.4 mate (omega arith))
    ]))
