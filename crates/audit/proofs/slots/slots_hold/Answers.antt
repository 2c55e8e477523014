-- `slots_hold` decides rule 2: `all` decides it of each slot of the range.
use Prim.Native.Nat.{ℕ, ◌<◌}
use mathlib.Core.Bool.{Bool, true, false}
use native.Mathlib.Omega.{arith}
use native.Mathlib.Nat.{zero-add}
use borrow.Author.Rules.{rules}
use borrow.Author.Tests.{tests}
use lib.ListN.{length}
use Rattle.std.specs.Bool.{MatchBool}
use Rattle.std.specs.List.{HoldsAt, AllWithin, range_with_len}
use Rattle.std.proofs.lemmas.Iterator.{cases_from_all, YieldsList-from_range}
use Rattle.std.proofs.lemmas.List.FromFn.{length-range_with_len, get_or-range_with_len}
use Rattle.slabs.specs.NodeEntry.{slot_word, node_entry}
use Rattle.sound.specs.Sound.{SlotSays}
use Rattle.audit.specs.Decides.{Decides}
use Rattle.audit.proofs.DecideLaws.{decided_so, decided_not}
use Rattle.audit.proofs.slots.slots_hold.Goals as goal

-- what holds of each number of a range, or fails at one of them
each_below : (P : ℕ → Type 0) (n : ℕ) (r : Bool)
    → MatchBool r (AllWithin P (range_with_len 0 n) 0 (length (range_with_len 0 n))) ((k : ℕ) × (k < length (range_with_len 0 n)) × HoldsAt (λ x. P x → ⊥) (range_with_len 0 n) k)
    → Decides r ((k : ℕ) → k < n → P k)
each_below P n true h =
    decided_so (λ k l. rw (get_or-range_with_len 0 n k 0 l, zero-add) at (h k 0 (omega arith) (rw length-range_with_len l)))
each_below P n false (k, l, fails) =
    let m : k < n = rw length-range_with_len at l in
    decided_not (λ h. (rw (get_or-range_with_len 0 n k 0 m, zero-add) at (fails 0)) (h k m))

pub returns : goal.returns
returns c =
    let a = c.args in
    each_below (λ k. SlotSays a.heads (slot_word a.slots.words.now k 3) (node_entry a.slots.words.now k)) a.slots.mark _
    (cases_from_all _ _ _ (λ k. SlotSays a.heads (slot_word a.slots.words.now k 3) (node_entry a.slots.words.now k)) (λ k. SlotSays a.heads (slot_word a.slots.words.now k 3) (node_entry a.slots.words.now k) → ⊥) c.all.ensures.ran
    (YieldsList-from_range 0 a.slots.mark a.slots.mark (cc) (omega arith))
    (λ x q k. search (rules, tests))
    (λ x q k. search (rules, tests)))
