-- The true counts are no greater than the marks: so a count that is kept true never grows past the tables.
use Prim.Native.Nat.{ℕ, suc, zero, ◌≤◌}
use mathlib.Core.List.{List}
use native.Mathlib.Omega.{arith}
use lib.ListN.{get_or}
use lib.Dec.{eqb}
use Rattle.slabs.specs.Sums.{sum}
use Rattle.slabs.specs.NodeEntry.{slot_word}
use Rattle.slabs.proofs.ChoiceLaws.{pick_bit}
use Rattle.edits.specs.Counts.{some, live_slots, live_ports}

-- A sum of terms that are at most 1 is at most the number of its terms.
pub count_le : (f : ℕ → ℕ) (n : ℕ) → ((i : ℕ) → f i ≤ 1) → sum f n ≤ n
unfolding sum
count_le f zero h = omega arith
count_le f (suc n) h = omega (arith, count_le f n h, h n)

-- A word counts once or not at all.
pub some_le : (word : ℕ) → some word ≤ 1
unfolding some
some_le word = pick_bit (eqb word 0)

-- No more slots below slot k are live than there are,
pub live_slots_le : (slots : List ℕ) (k : ℕ) → live_slots slots k ≤ k
unfolding live_slots
live_slots_le slots k = count_le (λ j. some (slot_word slots j 1)) k (λ j. some_le (slot_word slots j 1))

-- and no more ports below port p.
pub live_ports_le : (owners : List ℕ) (p : ℕ) → live_ports owners p ≤ p
unfolding live_ports
live_ports_le owners p = count_le (λ q. some (get_or owners q 0)) p (λ q. some_le (get_or owners q 0))
