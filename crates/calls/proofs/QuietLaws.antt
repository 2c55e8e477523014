-- A call without records writes nothing to the log.
use mathlib.Core.Path.{◌≡◌, refl}
use mathlib.Core.List.{List, []}
use native.Mathlib.Omega.{arith}
use Rattle.edits.specs.Store.{Store}
use Rattle.edits.specs.Answer.{Answer}
use Rattle.renumber.specs.Records.{Rec, logged}
use Rattle.renumber.specs.declared.log.Log.{Log}
use Rattle.renumber.proofs.RecordLaws.{none_later}
use Rattle.calls.specs.Call.{decided, Logged}

-- Without records the log stays, and so does the place of the next.
pub logged_nothing : {log : Log} {rs : List Rec} → rs ≡ [] → Logged log log rs
unfolding logged
logged_nothing {log} none = rw none (record { words = refl; next = none_later log.to })

-- A call that has none when it is done has none when it is refused.
pub decided_quiet : (answer : Answer) (before after : Store) → (decided answer before after []).records ≡ []
unfolding decided
decided_quiet answer before after = grind arith
