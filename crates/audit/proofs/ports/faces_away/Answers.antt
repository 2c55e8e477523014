-- `faces_away` decides whether an owner word is of a live port that faces the other way.
use Prim.Native.Nat.{ℕ}
use mathlib.Core.Bool.{not}
use mathlib.Core.Path.{◌≡◌, sym, ◌∙◌}
use borrow.Author.Tests.{eqb-true, eqb-false, not-true, not-false}
use lib.Dec.{eqb}
use Rattle.slabs.proofs.EntryLaws.{same_direction}
use Rattle.audit.specs.Decides.{Decides}
use Rattle.audit.proofs.PortLaws.{word_free, word_port}
use Rattle.audit.proofs.DecideLaws.{decided_not, decides_from}
use Rattle.audit.proofs.ports.faces_away.Goals as goal

-- a test of two numbers, turned round, decides whether they differ
decides_ne : (a b : ℕ) → Decides (not (eqb a b)) (a ≡ b → ⊥)
decides_ne a b = record { so = λ e. eqb-false a b (not-true (eqb a b) e); not_so = λ e differ. differ (eqb-true a b (not-false (eqb a b) e)) }

pub returns-in-Some : goal.returns-in-Some
returns-in-Some c =
    let said = word_port _ _ (sym c.port_entry.ensures ∙ c.in-Some.is) in
    rw
    (c.ne.ensures, same_direction c.in-Some.port.direction c.args.facing)
    (decides_from (decides_ne _ _) (λ differ. (said.0, λ same. differ (said.1 ∙ sym same))) (λ h same. h.1 (sym same ∙ said.1)))

pub returns-in-None : goal.returns-in-None
returns-in-None c = decided_not (λ h. h.0 (word_free _ (sym c.port_entry.ensures ∙ c.in-None.is)))
