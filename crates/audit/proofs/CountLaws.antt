-- Laws of counts: bounds on what is counted, what equal counts say, and what one slot or port more adds.
use Prim.Native.Nat.{ℕ, suc, zero, ◌+◌, ◌≤◌, ◌<◌}
use mathlib.Core.Path.{◌≡◌, refl}
use mathlib.Core.Bool.{Bool, true, false}
use mathlib.Core.List.{List}
use native.Mathlib.Omega.{arith}
use native.Mathlib.Decide.{ℕ_discrete}
use lib.Dec.{eqb}
use lib.ListN.{get_or}
use borrow.Author.Tests.{eq-eqb, ne_eqb}
use Rattle.slabs.specs.Choice.{pick}
use Rattle.slabs.specs.Sums.{sum}
use Rattle.slabs.specs.NodeEntry.{slot_word}
use Rattle.slabs.specs.PortEntry.{direction_of}
use Rattle.slabs.specs.Links.{wired_outlet, pairs}
use Rattle.slabs.proofs.SumLaws.{sum_le}
use Rattle.slabs.proofs.EntryLaws.{direction_le}
use Rattle.slabs.proofs.WireLaws.{wired_loose}
use Rattle.edits.specs.Counts.{some, live_slots, live_ports}
use Rattle.edits.proofs.CountLaws.{count_le}

-- Terms that are no greater and add up to as much are equal.
pub sum_pinned : (f g : ℕ → ℕ) (n : ℕ) → ((i : ℕ) → i < n → f i ≤ g i) → sum f n ≡ sum g n → (i : ℕ) → i < n → f i ≡ g i
unfolding sum
sum_pinned f g zero h e i l = absurd (omega arith)
sum_pinned f g (suc n) h e i l = go (ℕ_discrete i n) (sum_pinned f g n fewer (omega (arith, sum_le f g n fewer, h n (omega arith))) i)
  where
    fewer : (j : ℕ) → j < n → f j ≤ g j
    fewer j b = h j (omega arith)

    go : Dec (i ≡ n) → (i < n → f i ≡ g i) → f i ≡ g i
    go (yes s) below = rw s (omega (arith, sum_le f g n fewer, h n (omega arith)))
    go (no d) below = below (omega arith)

-- Terms that are 1 together add up to as many as they are.
pub sum_both : (f g : ℕ → ℕ) (n : ℕ) → ((i : ℕ) → i < n → f i + g i ≡ 1) → sum f n + sum g n ≡ n
unfolding sum
sum_both f g zero h = refl
sum_both f g (suc n) h = omega (arith, sum_both f g n (λ i l. h i (omega arith)), h n (omega arith))

-- A word of 0 counts for none,
pub some_none : (word : ℕ) → word ≡ 0 → some word ≡ 0
unfolding some
some_none word e = simp (eq-eqb word 0 e)

-- and any other for one.
pub some_one : (word : ℕ) → (word ≡ 0 → ⊥) → some word ≡ 1
unfolding some
some_one word n = simp (ne_eqb word 0 n)

-- One slot more is counted where it is live.
pub live_slots_suc : (slots : List ℕ) (k : ℕ) → live_slots slots (suc k) ≡ live_slots slots k + some (slot_word slots k 1)
unfolding live_slots sum
live_slots_suc slots k = refl

-- One port more is counted where it is live.
pub live_ports_suc : (owners : List ℕ) (p : ℕ) → live_ports owners (suc p) ≡ live_ports owners p + some (get_or owners p 0)
unfolding live_ports sum
live_ports_suc owners p = refl

-- A free port is no wired outlet,
pub outlet_free : (owner link : ℕ) → owner ≡ 0 → wired_outlet owner link ≡ 0
unfolding wired_outlet
outlet_free owner link e = simp (eq-eqb owner 0 e)

-- nor is one without a wire,
pub outlet_loose : (owner link : ℕ) → link ≡ 0 → wired_outlet owner link ≡ 0
outlet_loose owner link e = rw e (wired_loose owner)

-- and a live one with a wire is one where it faces out.
pub outlet_wired : (owner link : ℕ) → (owner ≡ 0 → ⊥) → (link ≡ 0 → ⊥) → wired_outlet owner link ≡ direction_of owner
unfolding wired_outlet
outlet_wired owner link live wired = simp (ne_eqb owner 0 live, ne_eqb link 0 wired)

-- One wire more is counted where the port is a wired outlet.
pub pairs_suc : (owners links : List ℕ) (p : ℕ)
    → pairs owners links (suc p) ≡ pairs owners links p + wired_outlet (get_or owners p 0) (get_or links p 0)
unfolding pairs sum
pairs_suc owners links p = refl

-- Below port p there are at most p wires.
pub pairs_le : (owners links : List ℕ) (p : ℕ) → pairs owners links p ≤ p
unfolding pairs wired_outlet
pairs_le owners links p =
    count_le (λ q. wired_outlet (get_or owners q 0) (get_or links q 0)) p (λ q. go (eqb (get_or owners q 0) 0) (eqb (get_or links q 0) 0) (direction_le (get_or owners q 0)))
  where
    go : (t u : Bool) {d : ℕ} → d ≤ 1 → pick t 0 (pick u 0 d) ≤ 1
    go true u h = omega arith
    go false true h = omega arith
    go false false h = h
