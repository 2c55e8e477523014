-- Laws of the scratch: what claiming one more slab makes of it, and what the count of claimed ports says.
use Prim.Native.Nat.{ℕ, suc, zero, ◌+◌, ◌-◌, ◌≤◌, ◌<◌}
use mathlib.Core.Path.{◌≡◌, refl, ap, sym, ◌∙◌}
use mathlib.Core.List.{List}
use native.Mathlib.Nat.{add-zero, add-suc}
use native.Mathlib.Omega.{arith}
use native.Mathlib.Decide.{ℕ_discrete, dec_lt, dec_le}
use lib.ListN.{length, get_or}
use Rattle.slabs.specs.Sums.{sum}
use Rattle.slabs.specs.NodeEntry.{node_entry}
use Rattle.slabs.specs.Slab.{filled}
use Rattle.slabs.specs.Slabs.{in_slab}
use Rattle.slabs.specs.declared.node_entry.NodeEntry.{NodeEntry}
use Rattle.slabs.proofs.FillLaws.{filled_in, filled_below, filled_above}
use Rattle.slabs.proofs.SumLaws.{sum_ext, sum_zero, sum_plus, sum_more}
use Rattle.slabs.proofs.SlabLaws.{in_slab_yes, in_slab_below, in_slab_above, in_slab_at, in_slab_le, in_slab_each}
use Rattle.edits.specs.Store.{on_node}
use Rattle.sound.specs.Sound.{held_at}
use Rattle.audit.specs.Parts.{RunIs, BlankFrom, Tally}
use Rattle.edits.proofs.CountLaws.{count_le}
use Rattle.audit.proofs.CountLaws.{sum_pinned}

-- A sum to a lower bound is no greater.
pub sum_short : (f : ℕ → ℕ) (k n : ℕ) → k ≤ n → sum f k ≤ sum f n
unfolding sum
sum_short f k zero h = let e : k ≡ 0 = omega arith in rw e (omega arith)
sum_short f k (suc n) h = go (ℕ_discrete k (suc n)) (sum_short f k n)
  where
    go : Dec (k ≡ suc n) → (k ≤ n → sum f k ≤ sum f n) → sum f k ≤ sum f n + f n
    go (yes e) below = rw e (omega arith)
    go (no d) below = omega (arith, below (omega arith))

-- the ports of a slab below one of its own
slab_sum : (first n i : ℕ) → i ≤ n → sum (λ p. in_slab first n p) (first + i) ≡ i
unfolding sum
slab_sum first n zero h = rw add-zero (sum_zero (λ p. in_slab first n p) first (λ p l. in_slab_below first n p l))
slab_sum first n (suc i) h = rw add-suc (omega (arith, slab_sum first n i (omega arith), in_slab_at first n i (omega arith)))

-- A slab that ends at or below the mark has so many ports below it.
pub in_slab-sum : (first n mark : ℕ) → first + n ≤ mark → sum (λ p. in_slab first n p) mark ≡ n
in_slab-sum first n mark h =
    ap (sum (λ p. in_slab first n p)) e
    ∙ sum_more (λ p. in_slab first n p) (first + n) (mark - (first + n)) (λ p u. in_slab_above first n p u)
    ∙ slab_sum first n n (omega arith)
  where
    e : mark ≡ first + n + (mark - (first + n))
    e = omega arith

-- A slab of free places is claimed: each of its ports lies in one slab more.
pub claimed_at : (scratch : List ℕ) (first n : ℕ) → RunIs scratch first n 0 → first + n ≤ length scratch
    → (p : ℕ) → get_or (filled scratch first n 1) p 0 ≡ get_or scratch p 0 + in_slab first n p
claimed_at scratch first n free fits p = go (dec_lt p first) (dec_le (first + n) p)
  where
    go : Dec (p < first) → Dec (first + n ≤ p) → get_or (filled scratch first n 1) p 0 ≡ get_or scratch p 0 + in_slab first n p
    go (yes l) d = omega (arith, filled_below scratch first n 1 p l, in_slab_below first n p l)
    go (no l) (yes u) = omega (arith, filled_above scratch first n 1 p u, in_slab_above first n p u)
    go (no l) (no u) =
        let i : p - first < n = omega arith in
        let e : first + (p - first) ≡ p = omega arith in
        rw (← e)
        (omega (arith, filled_in scratch first n 1 (p - first) i fits, free (p - first) i, in_slab_at first n (p - first) i))

-- Where a slab may be claimed and no port is in two, its places are free.
pub run_free : (scratch : List ℕ) (first n : ℕ) → ((p : ℕ) → get_or scratch p 0 + in_slab first n p ≤ 1) → RunIs scratch first n 0
run_free scratch first n once i h = omega (arith, once (first + i), in_slab_at first n i h)

-- A blank scratch counts no port.
pub tally_none : (scratch : List ℕ) (mark : ℕ) → BlankFrom scratch 0 → Tally scratch mark 0
tally_none scratch mark blank =
    record {
      at_most_once = λ p. omega (arith, blank p (omega arith));
      counted = sym (sum_zero (λ p. get_or scratch p 0) mark (λ p l. blank p (omega arith)));
    }

-- A claimed slab counts its ports.
pub tally_more : (scratch : List ℕ) (mark ports first n : ℕ) → Tally scratch mark ports → RunIs scratch first n 0 → first + n ≤ mark
    → mark ≤ length scratch → Tally (filled scratch first n 1) mark (ports + n)
tally_more scratch mark ports first n t free ends reach = record { at_most_once = λ p. once p (dec_le 1 (in_slab first n p)); counted = count }
  where
    at : (p : ℕ) → get_or (filled scratch first n 1) p 0 ≡ get_or scratch p 0 + in_slab first n p
    at = claimed_at scratch first n free (omega arith)

    once : (p : ℕ) → Dec (1 ≤ in_slab first n p) → get_or (filled scratch first n 1) p 0 ≤ 1
    once p (yes k) = omega (arith, at p, in_slab_le first n p, in_slab_each (λ q. get_or scratch q 0 ≡ 0) first n free p k)
    once p (no k) = omega (arith, at p, t.at_most_once p)

    count : ports + n ≡ sum (λ p. get_or (filled scratch first n 1) p 0) mark
    count =
        omega
        (arith, t.counted, in_slab-sum first n mark ends, sum_plus (λ p. get_or scratch p 0) (λ p. in_slab first n p) mark, sum_ext (λ p. get_or (filled scratch first n 1) p 0) (λ p. get_or scratch p 0 + in_slab first n p) mark (λ p l. at p))

-- No more ports are counted than there are below the mark,
pub tally_le : {scratch : List ℕ} {mark ports : ℕ} → Tally scratch mark ports → ports ≤ mark
tally_le {scratch} {mark} t = omega (arith, t.counted, count_le (λ p. get_or scratch p 0) mark t.at_most_once)

-- also with a slab that is to be claimed;
pub tally_room : (scratch : List ℕ) (mark ports first n : ℕ) → Tally scratch mark ports → RunIs scratch first n 0 → first + n ≤ mark
    → mark ≤ length scratch → ports + n ≤ mark
tally_room scratch mark ports first n t free ends reach = tally_le (tally_more scratch mark ports first n t free ends reach)

-- and where so many are, each is claimed.
pub tally_full : {scratch : List ℕ} {mark : ℕ} → Tally scratch mark mark → (p : ℕ) → p < mark → get_or scratch p 0 ≡ 1
tally_full {scratch} {mark} t p l =
    sum_pinned (λ q. get_or scratch q 0) (λ q. in_slab 0 mark q) mark
    (λ q k. omega (arith, t.at_most_once q, in_slab_yes 0 mark q (omega arith) (omega arith)))
    (sym t.counted ∙ sym (in_slab-sum 0 mark mark (omega arith))) p l
    ∙ in_slab_yes 0 mark p (omega arith) (omega arith)

-- Ports each claimed are so many as there are.
pub tally_all : {scratch : List ℕ} {mark ports : ℕ} → Tally scratch mark ports → ((p : ℕ) → p < mark → get_or scratch p 0 ≡ 1) → ports ≡ mark
tally_all {scratch} {mark} t all =
    t.counted ∙ sum_ext (λ p. get_or scratch p 0) (λ p. in_slab 0 mark p) mark (λ p l. all p l ∙ sym (in_slab_yes 0 mark p (omega arith) (omega arith))) ∙ in_slab-sum 0 mark mark (omega arith)

-- No slot, no slab.
pub held_at_none : (slots : List ℕ) (p : ℕ) → held_at slots 0 p ≡ 0
unfolding held_at sum
held_at_none slots p = refl

-- A slot more: its slab, where it is live.
pub held_at_more : (slots : List ℕ) (k p : ℕ) (n : NodeEntry) → node_entry slots k ≡ n
    → held_at slots (suc k) p ≡ held_at slots k p + on_node n (λ m. in_slab m.first m.capacity p) 0
unfolding held_at sum
held_at_more slots k p n e = ap (λ (o : NodeEntry). held_at slots k p + on_node o (λ m. in_slab m.first m.capacity p) 0) e

-- Fewer slots hold no more.
pub held_at_short : (slots : List ℕ) (k mark p : ℕ) → k ≤ mark → held_at slots k p ≤ held_at slots mark p
unfolding held_at
held_at_short slots k mark p h = sum_short (λ j. on_node (node_entry slots j) (λ m. in_slab m.first m.capacity p) 0) k mark h
