-- Past both tests the calls can be answered; every other goal is a law's, and the check finds which.
use borrow.Author.Rules.{rules}
use Rattle.run.proofs.RunLaws.{ran_sound}
use Rattle.run.proofs.run.Goals as goal

pub answer_calls-requires : goal.answer_calls-requires
answer_calls-requires c =
    let v = c.view-view.ensures in
    rw (← v.slots, ← v.links, ← v.owners, ← v.heads) (ran_sound _ _ _ _ _ _ _ _ _ _ c.well_shaped.ensures (search rules) _ _ c.audit.ensures (search rules))
