-- Two numbers exchanged: what that leaves of sums, and of the table of slots.
use Prim.Native.Nat.{ℕ, ◌*◌, ◌≤◌, ◌<◌}
use mathlib.Core.Path.{◌≡◌, refl, sym, ap, ◌∙◌}
use mathlib.Core.List.{List}
use native.Mathlib.Decide.{ℕ_discrete}
use lib.ListN.{length, get_or}
use lib.Dec.{eqb}
use borrow.Author.Tests.{eq-eqb, ne_eqb}
use Rattle.slabs.specs.Choice.{pick}
use Rattle.slabs.specs.Sums.{sum}
use Rattle.slabs.specs.NodeEntry.{width, slot_word, node_entry}
use Rattle.slabs.proofs.SumLaws.{sum_ext}
use Rattle.edits.specs.Counts.{some, live_slots}
use Rattle.sound.specs.Sound.{held_at}
use Rattle.sound.proofs.SlotLaws.{slab_of, on_node_same, some_live, SaysAs, says_as}
use Rattle.sound.proofs.SlotTable.{SlotTable}
use Rattle.sound.proofs.CountLaws.{sum_swap}

-- a number once a and b are exchanged
unfoldable pub exchanged : ℕ → ℕ → ℕ → ℕ
exchanged a b k = pick (eqb k a) b (pick (eqb k b) a k)

-- The first is the second,
pub exchanged_first : (a b : ℕ) → exchanged a b a ≡ b
unfolding exchanged
exchanged_first a b = simp (eq-eqb a a refl)

-- the second the first,
pub exchanged_second : (a b : ℕ) → exchanged a b b ≡ a
unfolding exchanged
exchanged_second a b = go (ℕ_discrete b a)
  where
    go : Dec (b ≡ a) → exchanged a b b ≡ a
    go (yes e) = rw (eq-eqb b a e) e
    go (no n) = simp (ne_eqb b a n, eq-eqb b b refl)

-- and every other one itself.
pub exchanged_other : (a b k : ℕ) → (k ≡ a → ⊥) → (k ≡ b → ⊥) → exchanged a b k ≡ k
unfolding exchanged
exchanged_other a b k na nb = simp (ne_eqb k a na, ne_eqb k b nb)

-- What holds of these three holds of every number.
pub exchange_cases : (P : ℕ → ℕ → Type 0) (a b : ℕ) → P b a → P a b → ((k : ℕ) → (k ≡ a → ⊥) → (k ≡ b → ⊥) → P k k)
    → (k : ℕ) → P (exchanged a b k) k
exchange_cases P a b first second other k = go (ℕ_discrete k a) (ℕ_discrete k b)
  where
    go : Dec (k ≡ a) → Dec (k ≡ b) → P (exchanged a b k) k
    go (yes e) d = rw (e, exchanged_first a b) first
    go (no na) (yes e) = rw (e, exchanged_second a b) second
    go (no na) (no nb) = rw (exchanged_other a b k na nb) (other k na nb)

-- Exchanged twice a number is itself.
pub exchanged_twice : (a b k : ℕ) → exchanged a b (exchanged a b k) ≡ k
exchanged_twice a b =
    exchange_cases (λ j k. exchanged a b j ≡ k) a b (exchanged_second a b) (exchanged_first a b) (exchanged_other a b)

-- Below a bound above both it stays below.
pub exchanged_below : (a b m k : ℕ) → a < m → b < m → k < m → exchanged a b k < m
exchanged_below a b m k la lb = exchange_cases (λ j i. i < m → j < m) a b (λ l. lb) (λ l. la) (λ i na nb l. l) k

-- A sum stays when two of its terms are exchanged.
pub sum_exchange : (f : ℕ → ℕ) (m a b : ℕ) → a < m → b < m → (a ≡ b → ⊥) → sum (λ k. f (exchanged a b k)) m ≡ sum f m
sum_exchange f m a b la lb d =
    sum_swap (λ k. f (exchanged a b k)) f m a b la lb d (ap f (exchanged_first a b)) (ap f (exchanged_second a b))
    (λ k na nb. ap f (exchanged_other a b k na nb))

-- Two slots are exchanged, as far as steps go:
module _ (slots slots' : List ℕ) (a b mark : ℕ) (la : a < mark) (lb : b < mark) (d : a ≡ b → ⊥)
    (says : (k : ℕ) → SaysAs slots (exchanged a b k) slots' k) where
  -- each port lies in as many slabs,
  pub held_at_exchange : (p : ℕ) → held_at slots' mark p ≡ held_at slots mark p
  unfolding held_at
  held_at_exchange p =
      sum_ext _ _ mark (λ k l. on_node_same (node_entry slots (exchanged a b k)) (node_entry slots' k) _ 0 (says k).step) ∙
      sum_exchange (λ k. slab_of (node_entry slots k) p) mark a b la lb d

  -- as many slots are live,
  pub live_slots_exchange : live_slots slots' mark ≡ live_slots slots mark
  unfolding live_slots
  live_slots_exchange =
      sum_ext _ _ mark
      (λ k l.
      some_live slots' k ∙ on_node_same (node_entry slots (exchanged a b k)) (node_entry slots' k) _ 0 (says k).step ∙
      sym (some_live slots (exchanged a b k))) ∙
      sum_exchange (λ k. some (slot_word slots k 1)) mark a b la lb d

  -- and the table keeps rules 1, 2 and 7.
  pub table_exchange : {heads nodes : ℕ} → SlotTable slots heads mark nodes → length slots' ≡ length slots
      → ((i : ℕ) → width * mark ≤ i → get_or slots' i 0 ≡ get_or slots i 0)
      → SlotTable slots' heads mark nodes
  table_exchange {heads} t len above =
      record {
        room = rw len t.room;
        blank = λ i h. above i h ∙ t.blank i h;
        says = λ k l. says_as slots (exchanged a b k) slots' k heads (says k) (t.says (exchanged a b k) (exchanged_below a b mark k la lb l));
        counted = t.counted ∙ sym live_slots_exchange;
      }
