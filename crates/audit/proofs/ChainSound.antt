-- The walk over the free slots is rule 3. What it meets is a chain of free slots below the mark; a chain that ends has no number twice; and
-- one with as many numbers as there are free slots has each of them.
use Prim.Native.Nat.{ℕ, suc, zero, ◌+◌, ◌-◌, ◌≤◌, ◌<◌}
use mathlib.Core.Path.{◌≡◌, refl, ap, ◌∙◌}
use mathlib.Core.List.{List, [], ◌∷◌}
use mathlib.Core.Logic.{◌⊎◌, inl, inr}
use native.Mathlib.Omega.{arith}
use native.Mathlib.Decide.{ℕ_discrete, dec_lt, dec_le}
use lib.ListN.{length}
use Rattle.slabs.specs.Sums.{sum}
use Rattle.slabs.specs.NodeEntry.{slot_word}
use Rattle.slabs.specs.Slabs.{is_port, Chain}
use Rattle.slabs.proofs.SumLaws.{sum_ext, sum_zero, sum_plus}
use Rattle.slabs.proofs.SlabLaws.{is_port_yes, is_port_no}
use Rattle.edits.specs.Store.{Store}
use Rattle.edits.specs.Counts.{some, live_slots}
use Rattle.sound.specs.Sound.{Backed, FreeChain}
use Rattle.audit.specs.Parts.{Walk, FreeChainHolds}
use Rattle.audit.proofs.CountLaws.{sum_pinned, sum_both, some_none, some_one}
use Rattle.sound.proofs.ChainLaws.{times_on, first_on, later_on, on_cases, none_on, cons_on}
use Rattle.sound.proofs.SlotLaws.{free_one}
use Rattle.sound.proofs.FreeSlotLaws.{SlotChain, slot_chain, free_chain, free_one_yes, free_one_live, free_one_above, free_one_is}

-- A word leads along one chain.
pub chain_unique : (next : ℕ → ℕ) (word : ℕ) (ps qs : List ℕ) → Chain next word ps → Chain next word qs → ps ≡ qs
chain_unique next word [] [] h k = refl
chain_unique next word [] (q ∷ qs) h k = absurd (omega (arith, k.0))
chain_unique next word (p ∷ ps) [] h k = absurd (omega (arith, h.0))
chain_unique next word (p ∷ ps) (q ∷ qs) h k =
    let e : p ≡ q = omega (arith, h.0, k.0) in
    rw e (ap (λ l. q ∷ l) (chain_unique next (next q) ps qs (rw e at h.1) k.1))

-- A number of a chain leads along a shorter one,
pub chain_rest : (next : ℕ → ℕ) (word : ℕ) (ks : List ℕ) → Chain next word ks → (k : ℕ) → 1 ≤ times_on ks k
    → (rest : List ℕ) × (length rest < length ks) × Chain next (next k) rest
chain_rest next word [] c k h = absurd (omega (arith, none_on k))
chain_rest next word (j ∷ ks) c k h = go (on_cases j ks k h) (chain_rest next (next j) ks c.1 k)
  where
    go : (j ≡ k) ⊎ (1 ≤ times_on ks k) → (1 ≤ times_on ks k → (rest : List ℕ) × (length rest < length ks) × Chain next (next k) rest)
        → (rest : List ℕ) × (length rest < suc (length ks)) × Chain next (next k) rest
    go (inl e) later = (ks, omega arith, rw e at c.1)
    go (inr l) later = let (rest, shorter, r) = later l in (rest, omega arith, r)

-- so it stands on the chain only once.
pub chain_once : (next : ℕ → ℕ) (word : ℕ) (ks : List ℕ) → Chain next word ks → (k : ℕ) → times_on ks k ≤ 1
chain_once next word [] c k = omega (arith, none_on k)
chain_once next word (j ∷ ks) c k = go (ℕ_discrete j k) (dec_le 1 (times_on ks k)) (chain_once next (next j) ks c.1 k)
  where
    go : Dec (j ≡ k) → Dec (1 ≤ times_on ks k) → times_on ks k ≤ 1 → times_on (j ∷ ks) k ≤ 1
    go (no d) h later = omega (arith, cons_on j ks k, is_port_no j k d)
    go (yes e) (no h) later = omega (arith, cons_on j ks k, is_port_yes j k e)
    go (yes e) (yes h) later =
        let (rest, shorter, r) = chain_rest next (next j) ks c.1 k h in
        absurd (omega (arith, ap length (chain_unique next (next k) rest ks r (rw e at c.1))))

-- Of the numbers below n, one is j.
is_port-sum : (j n : ℕ) → j < n → sum (λ k. is_port j k) n ≡ 1
unfolding sum
is_port-sum j zero l = absurd (omega arith)
is_port-sum j (suc n) l = go (ℕ_discrete j n) (is_port-sum j n)
  where
    go : Dec (j ≡ n) → (j < n → sum (λ k. is_port j k) n ≡ 1) → sum (λ k. is_port j k) n + is_port j n ≡ 1
    go (yes e) below = omega (arith, is_port_yes j n e, sum_zero (λ k. is_port j k) n (λ k h. is_port_no j k (omega arith)))
    go (no d) below = omega (arith, below (omega arith), is_port_no j n d)

-- Numbers below n stand on a chain as often, together, as it is long.
pub times_sum : (ks : List ℕ) (n : ℕ) → ((k : ℕ) → 1 ≤ times_on ks k → k < n) → sum (times_on ks) n ≡ length ks
times_sum [] n low = sum_zero (times_on []) n (λ k l. none_on k)
times_sum (j ∷ ks) n low =
    sum_ext (times_on (j ∷ ks)) (λ k. is_port j k + times_on ks k) n (λ k l. cons_on j ks k)
    ∙ sum_plus (λ k. is_port j k) (times_on ks) n
    ∙ omega (arith, is_port-sum j n (low j (first_on j ks)), times_sum ks n (λ k h. low k (later_on j ks k h)))

-- A slot below the mark is free or live.
pub free_sum : (slots : List ℕ) (mark : ℕ) → sum (free_one slots mark) mark + live_slots slots mark ≡ mark
unfolding live_slots
free_sum slots mark = sum_both (free_one slots mark) (λ k. some (slot_word slots k 1)) mark (λ k l. one k l (ℕ_discrete (slot_word slots k 1) 0))
  where
    one : (k : ℕ) → k < mark → Dec (slot_word slots k 1 ≡ 0) → free_one slots mark k + some (slot_word slots k 1) ≡ 1
    one k l (yes e) = omega (arith, free_one_yes slots mark k l e, some_none (slot_word slots k 1) e)
    one k l (no d) = omega (arith, free_one_live slots mark k d, some_one (slot_word slots k 1) d)

-- the slots that a walk meets
record Met (slots : List ℕ) (mark word before n : ℕ) : Type 0 where
  chain : List ℕ
  forward : Chain (λ k. slot_word slots k 2) word chain
  backward : Backed (λ k. slot_word slots k 0) before chain
  long : length chain ≡ n
  free : (k : ℕ) → 1 ≤ times_on chain k → (k < mark) × (slot_word slots k 1 ≡ 0)

-- A walk meets a chain of free slots, as long as it has steps,
met : (slots : List ℕ) (mark word before n : ℕ) → Walk slots mark word before n → Met slots mark word before n
met slots mark word before zero w =
    record { chain = []; forward = w; backward = tt; long = refl; free = λ k h. absurd (omega (arith, none_on k)) }
met slots mark word before (suc n) w = one (met slots mark (slot_word slots (word - 1) 2) word n w.2)
  where
    here : word ≡ suc (word - 1)
    here = omega (arith, w.0)

    one : Met slots mark (slot_word slots (word - 1) 2) word n → Met slots mark word before (suc n)
    one m =
        record {
          chain = (word - 1) ∷ m.chain;
          forward = (here, m.forward);
          backward = (w.1.led_here, rw (← here) m.backward);
          long = ap suc m.long;
          free = λ k h. each k (on_cases (word - 1) m.chain k h);
        }
      where
        each : (k : ℕ) → (word - 1 ≡ k) ⊎ (1 ≤ times_on m.chain k) → (k < mark) × (slot_word slots k 1 ≡ 0)
        each k (inl e) = (omega (arith, w.1.below), rw (← e) w.1.is_free)
        each k (inr h) = m.free k h

-- and such a chain is walked over.
unmet : (slots : List ℕ) (mark word before : ℕ) (ks : List ℕ) → Chain (λ k. slot_word slots k 2) word ks
    → Backed (λ k. slot_word slots k 0) before ks
    → ((k : ℕ) → 1 ≤ times_on ks k → (k < mark) × (slot_word slots k 1 ≡ 0))
    → Walk slots mark word before (length ks)
unmet slots mark word before [] c b free = c
unmet slots mark word before (k ∷ ks) c b free =
    let e : word - 1 ≡ k = omega (arith, c.0) in
    let here = free k (first_on k ks) in (
      omega (arith, c.0),
      record { below = omega (arith, c.0, here.0); is_free = rw e here.1; led_here = rw e b.0 },
      rw (e, c.0) (unmet slots mark (slot_word slots k 2) (suc k) ks c.1 b.1 (λ j h. free j (later_on k ks j h))),
    )

module _ (slots : List ℕ) (head mark : ℕ) where
  -- A walk over as many slots as are free is rule 3 of a table of slots,
  walk_slots : Walk slots mark head 0 (mark - live_slots slots mark) → SlotChain slots head mark
  walk_slots w = record { chain = m.chain; forward = m.forward; backward = m.backward; each_once = λ k. count k (dec_lt k mark) }
    where
      m : Met slots mark head 0 (mark - live_slots slots mark)
      m = met slots mark head 0 (mark - live_slots slots mark) w

      at_most : (k : ℕ) → k < mark → times_on m.chain k ≤ free_one slots mark k
      at_most k l = go (dec_le 1 (times_on m.chain k))
        where
          go : Dec (1 ≤ times_on m.chain k) → times_on m.chain k ≤ free_one slots mark k
          go (yes h) = omega (arith, chain_once (λ j. slot_word slots j 2) head m.chain m.forward k, free_one_yes slots mark k l (m.free k h).1)
          go (no h) = omega arith

      count : (k : ℕ) → Dec (k < mark) → times_on m.chain k ≡ free_one slots mark k
      count k (yes l) =
          sum_pinned (times_on m.chain) (free_one slots mark) mark at_most
          (omega (arith, times_sum m.chain mark (λ j h. (m.free j h).0), m.long, free_sum slots mark)) k l
      count k (no h) = none (dec_le 1 (times_on m.chain k))
        where
          none : Dec (1 ≤ times_on m.chain k) → times_on m.chain k ≡ free_one slots mark k
          none (yes t) = absurd (omega (arith, (m.free k t).0))
          none (no t) = omega (arith, free_one_above slots mark k (omega arith))

  -- and rule 3 is such a walk.
  slots_walk : SlotChain slots head mark → Walk slots mark head 0 (mark - live_slots slots mark)
  slots_walk c = rw (← long) (unmet slots mark head 0 c.chain c.forward c.backward free)
    where
      free : (k : ℕ) → 1 ≤ times_on c.chain k → (k < mark) × (slot_word slots k 1 ≡ 0)
      free k h = free_one_is slots mark k (rw (← c.each_once k) h)

      long : length c.chain ≡ mark - live_slots slots mark
      long =
          omega
          (arith, times_sum c.chain mark (λ k h. (free k h).0), sum_ext (times_on c.chain) (free_one slots mark) mark (λ k l. c.each_once k), free_sum slots mark)

-- What the audit's walk decides is rule 3,
pub walk_chain : (s : Store) → FreeChainHolds s.slots s.counters → FreeChain s
walk_chain s h = free_chain s (walk_slots s.slots s.counters.freeslot s.counters.nodemark h.walked)

-- and rule 3 with the count of nodes is what it decides.
pub chain_walk : (s : Store) → FreeChain s → s.counters.nodes ≡ live_slots s.slots s.counters.nodemark
    → FreeChainHolds s.slots s.counters
chain_walk s c nodes =
    record { nodes = nodes; walked = slots_walk s.slots s.counters.freeslot s.counters.nodemark (slot_chain s c) }
