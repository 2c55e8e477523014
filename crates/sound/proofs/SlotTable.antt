-- The table of slots by itself: what rules 1, 2 and 7 say of it, and that a step that comes or goes keeps them, with the free chain.
use Prim.Native.Nat.{ℕ, suc, zero, ◌+◌, ◌-◌, ◌*◌, ◌≤◌, ◌<◌}
use mathlib.Core.Path.{◌≡◌, refl, sym, ◌∙◌}
use mathlib.Core.List.{List}
use mathlib.Core.Bool.{true}
use native.Mathlib.Omega.{arith}
use native.Mathlib.Numerals.{add-one}
use native.Mathlib.Decide.{ℕ_discrete}
use lib.ListN.{length, get_or}
use lib.Dec.{eqb}
use borrow.Author.Tests.{ne_eqb, leb-true}
use Rattle.slabs.specs.Choice.{pick}
use Rattle.slabs.specs.NodeEntry.{width, slot_word, node_entry, set_entry}
use Rattle.slabs.specs.Slabs.{with}
use Rattle.slabs.specs.declared.counters.Counters.{Counters}
use Rattle.slabs.specs.declared.node_entry.NodeMeta.{NodeMeta}
use Rattle.slabs.specs.declared.node_entry.NodeEntry.TheVariants.{Free, Node}
use Rattle.slabs.proofs.EntryLaws.{set_entry-length, word_above, entry_same, free_words}
use Rattle.edits.specs.FreeSlots.{slot_at_hand, next_slot, slot_taken, taken_node_mark, taken_free_slot, slot_freed}
use Rattle.edits.specs.Counts.{live_slots}
use Rattle.sound.specs.Sound.{LiveSlot, SlotSays, held_at}
use Rattle.sound.proofs.SlotLaws.{slab_of, live_of, free_one, step_node, entry_free, live_says, Alike, alike_then, blank_entry, held_at_raise, live_slots_raise, held_at_change, live_slots_change, live_counted, free_one_alike, set_word, previous_word, set_word_length, set_word_above, set_word_alike, says_as}
use Rattle.sound.proofs.FreeSlotLaws.{SlotChain, free_one_above, free_one_live, free_one_raise, entry_word, entry_alike, head_free, head_below, next_below, next_free, slot_chain_kept, slot_chain_freed, slot_chain_taken}

-- rules 1, 2 and 7 of a table of slots
pub record SlotTable (slots : List ℕ) (heads mark nodes : ℕ) : Type 0 where
  pub room : width * mark ≤ length slots
  pub blank : (i : ℕ) → width * mark ≤ i → get_or slots i 0 ≡ 0
  pub says : (k : ℕ) → k < mark → SlotSays heads (slot_word slots k 3) (node_entry slots k)
  pub counted : nodes ≡ live_slots slots mark

module _ {slots : List ℕ} {heads mark nodes : ℕ} (t : SlotTable slots heads mark nodes) where
  -- A step is one of rule 2.
  pub live_slot : (k : ℕ) (m : NodeMeta) → k < mark → node_entry slots k ≡ Node m → LiveSlot heads m
  live_slot k m l is = rw is at (t.says k l)

  -- The slot at the mark says nothing.
  pub mark_blank : node_entry slots mark ≡ Free 0 0
  mark_blank = blank_entry slots mark (λ j b. t.blank (width * mark + j) (omega arith))

  -- So the mark can be raised by one slot.
  pub table_raise : width * mark + width ≤ length slots → SlotTable slots heads (mark + 1) nodes
  table_raise fits =
      record {
        room = omega arith;
        blank = λ i h. t.blank i (omega arith);
        says = λ k l. at k (ℕ_discrete k mark) l;
        counted = rw (add-one mark, live_slots_raise slots mark, mark_blank) (omega (arith, t.counted));
      }
    where
      at : (k : ℕ) → Dec (k ≡ mark) → k < mark + 1 → SlotSays heads (slot_word slots k 3) (node_entry slots k)
      at k (yes e) l = rw (e, mark_blank) (t.blank (width * mark + 3) (omega arith))
      at k (no n) l = t.says k (omega arith)

  -- One slot changes, to an entry of rule 2.
  pub table_change : (slots' : List ℕ) (nodes' k : ℕ) → k < mark → ((j : ℕ) → (j ≡ k → ⊥) → Alike slots slots' j)
      → length slots' ≡ length slots → ((i : ℕ) → width * mark ≤ i → get_or slots' i 0 ≡ get_or slots i 0)
      → SlotSays heads (slot_word slots' k 3) (node_entry slots' k)
      → nodes' + live_of (node_entry slots k) ≡ nodes + live_of (node_entry slots' k)
      → SlotTable slots' heads mark nodes'
  table_change slots' nodes' k l others len above here count =
      record {
        room = rw len t.room;
        blank = λ i h. above i h ∙ t.blank i h;
        says = λ j b. at j (ℕ_discrete j k) b;
        counted = omega (arith, t.counted, live_slots_change slots slots' k others mark l);
      }
    where
      at : (j : ℕ) → Dec (j ≡ k) → j < mark → SlotSays heads (slot_word slots' j 3) (node_entry slots' j)
      at j (yes e) b = rw e here
      at j (no n) b = says_as slots j slots' j heads (others j n) (t.says j b)

-- How a slot is taken: from the mark where the chain is empty, else from the chain. What holds in both cases holds.
pub slot_cases : (P : List ℕ → ℕ → ℕ → ℕ → Type 0) (slots : List ℕ) (c : Counters)
    → (c.freeslot ≡ 0 → P slots c.nodemark (c.nodemark + 1) 0)
    → ((k : ℕ) → c.freeslot ≡ suc k → P (set_word slots 0 (slot_word slots k 2) 0) k c.nodemark (slot_word slots k 2))
    → P (slot_taken slots c) (next_slot c) (taken_node_mark c) (taken_free_slot slots c)
unfolding slot_taken next_slot taken_node_mark taken_free_slot
slot_cases P slots c at_mark at_chain = rw previous_word (go c.freeslot refl)
  where
    go : (w : ℕ) → c.freeslot ≡ w
        → P (pick (eqb w 0) slots (set_word slots 0 (slot_word slots (w - 1) 2) 0)) (pick (eqb w 0) c.nodemark (w - 1))
        (pick (eqb w 0) (c.nodemark + 1) c.nodemark) (pick (eqb w 0) w (slot_word slots (w - 1) 2))
    go zero e = at_mark e
    go (suc k) e = let d : suc k - 1 ≡ k = omega arith in rw (d, ne_eqb (suc k) 0 (omega arith)) (at_chain k e)

-- A slot can be had from the mark only where the room above it is enough.
pub slot_at_hand_room : (slots : List ℕ) (c : Counters) → c.freeslot ≡ 0 → slot_at_hand slots c ≡ true → width * c.nodemark + width ≤ length slots
unfolding slot_at_hand
slot_at_hand_room slots c e h = leb-true _ _ (rw e at h)

-- Slot k has become step m: rules 1, 2, 3 and 7, and what it holds; each other step was there before.
pub record Entered (slots slots' : List ℕ) (heads mark mark' head' nodes' k : ℕ) (m : NodeMeta) : Type 0 where
  pub table : SlotTable slots' heads mark' nodes'
  pub chain : SlotChain slots' head' mark'
  pub below : k < mark'
  pub here : node_entry slots' k ≡ Node m
  pub held : (p : ℕ) → with (held_at slots mark) m.first m.capacity p ≡ held_at slots' mark' p
  pub was : (j : ℕ) (n : NodeMeta) → j < mark' → (j ≡ k → ⊥) → node_entry slots' j ≡ Node n → (j < mark) × (node_entry slots j ≡ Node n)

-- A slot that is taken is a step's.
pub slot_enters : (slots : List ℕ) (c : Counters) (heads nodes : ℕ) (m : NodeMeta) → SlotTable slots heads c.nodemark nodes
    → SlotChain slots c.freeslot c.nodemark → slot_at_hand slots c ≡ true → LiveSlot heads m
    → Entered slots (set_entry (slot_taken slots c) (next_slot c) (Node m)) heads c.nodemark (taken_node_mark c) (taken_free_slot slots c) (nodes + 1) (next_slot c) m
slot_enters slots c heads nodes m t chain had live =
    slot_cases (λ slots₁ k mark' head'. Entered slots (set_entry slots₁ k (Node m)) heads mark mark' head' (nodes + 1) k m) slots c at_mark at_chain
  where
    mark : ℕ
    mark = c.nodemark

    at_mark : c.freeslot ≡ 0 → Entered slots (set_entry slots mark (Node m)) heads mark (mark + 1) 0 (nodes + 1) mark m
    at_mark e =
        record {
          table =
              table_change (table_raise t fits) slots₂ (nodes + 1) mark (omega arith) (entry_alike slots mark (Node m)) (set_entry-length slots mark (Node m))
              (λ i h. word_above slots mark (Node m) i (omega arith)) (rw here live) (rw (here, mark_blank t) (omega arith));
          chain =
              slot_chain_kept (rw e at chain) slots₂ (mark + 1) (λ k. free k (ℕ_discrete k mark))
              (λ k l z. (entry_word slots mark (Node m) k 0 (omega arith) (omega arith), entry_word slots mark (Node m) k 2 (omega arith) (omega arith)));
          below = omega arith;
          here = here;
          held = λ p. held p;
          was = λ j n l d is. (omega arith, step_node (node_entry slots j) (node_entry slots₂ j) n (entry_alike slots mark (Node m) j d).step is);
        }
      where
        slots₂ : List ℕ
        slots₂ = set_entry slots mark (Node m)

        fits : width * mark + width ≤ length slots
        fits = slot_at_hand_room slots c e had

        here : node_entry slots₂ mark ≡ Node m
        here = entry_same slots mark (Node m) fits

        free : (k : ℕ) → Dec (k ≡ mark) → free_one slots₂ (mark + 1) k ≡ free_one slots mark k
        free k (yes same) =
            rw same (free_one_live slots₂ (mark + 1) mark (live_says slots₂ mark m here) ∙ sym (free_one_above slots mark mark (omega arith)))
        free k (no n) = free_one_raise slots₂ mark k n ∙ free_one_alike slots slots₂ mark k (entry_alike slots mark (Node m) k n)

        held : (p : ℕ) → with (held_at slots mark) m.first m.capacity p ≡ held_at slots₂ (mark + 1) p
        held p =
            let change : held_at slots₂ (suc mark) p + slab_of (node_entry slots mark) p ≡ held_at slots (suc mark) p + slab_of (node_entry slots₂ mark) p =
            held_at_change slots slots₂ mark (entry_alike slots mark (Node m)) (suc mark) p (omega arith)
            in
            let raise : held_at slots (suc mark) p ≡ held_at slots mark p + slab_of (node_entry slots mark) p = held_at_raise slots mark p in
            rw add-one (omega (arith, rw (here, mark_blank t) at change, rw (mark_blank t) at raise))

    at_chain : (k : ℕ) → c.freeslot ≡ suc k
        → Entered slots (set_entry (set_word slots 0 (slot_word slots k 2) 0) k (Node m)) heads mark mark (slot_word slots k 2) (nodes + 1) k m
    at_chain k e =
        record {
          table =
              table_change t slots₂ (nodes + 1) k below others len
              (λ i h. word_above slots₁ k (Node m) i (omega (arith, below)) ∙ set_word_above slots 0 w 0 mark i (omega arith) low h)
              (rw here live) (rw (here, was_free) (omega arith));
          chain = slot_chain_taken slots mark k m (rw e at chain) t.room;
          below = below;
          here = here;
          held = held;
          was = λ j n l d is. (l, step_node (node_entry slots j) (node_entry slots₂ j) n (others j d).step is);
        }
      where
        w : ℕ
        w = slot_word slots k 2

        slots₁ : List ℕ
        slots₁ = set_word slots 0 w 0

        slots₂ : List ℕ
        slots₂ = set_entry slots₁ k (Node m)

        below : k < mark
        below = (head_free chain k e).0

        was_free : node_entry slots k ≡ Free (slot_word slots k 0) w
        was_free = entry_free slots k (head_free chain k e).1

        low : w ≤ mark
        low = next_below chain k below (head_free chain k e).1

        len : length slots₂ ≡ length slots
        len = set_entry-length slots₁ k (Node m) ∙ set_word_length slots 0 w 0

        here : node_entry slots₂ k ≡ Node m
        here = entry_same slots₁ k (Node m) (omega (arith, below, t.room, set_word_length slots 0 w 0))

        second : (j : ℕ) → w ≡ suc j → slot_word slots j 1 ≡ 0
        second j i = (next_free chain k j below (head_free chain k e).1 i).1

        others : (j : ℕ) → (j ≡ k → ⊥) → Alike slots slots₂ j
        others j d =
            alike_then (set_word_alike slots 0 w 0 (omega arith) (omega arith) (omega arith) second j) (entry_alike slots₁ k (Node m) j d)

        held : (p : ℕ) → with (held_at slots mark) m.first m.capacity p ≡ held_at slots₂ mark p
        held p =
            let change : held_at slots₂ mark p + slab_of (node_entry slots k) p ≡ held_at slots mark p + slab_of (node_entry slots₂ k) p =
            held_at_change slots slots₂ k others mark p below
            in
            omega (arith, rw (here, was_free) at change)

-- Slot k, which was step m, is free: rules 1, 2, 3 and 7, and what it held; each other step is there still.
pub record Gone (slots slots' : List ℕ) (heads mark head' nodes' k : ℕ) (m : NodeMeta) : Type 0 where
  pub table : SlotTable slots' heads mark nodes'
  pub chain : SlotChain slots' head' mark
  pub held : (p : ℕ) → held_at slots mark p ≡ with (held_at slots' mark) m.first m.capacity p
  pub was : (j : ℕ) (n : NodeMeta) → node_entry slots' j ≡ Node n → (j ≡ k → ⊥) × (node_entry slots j ≡ Node n)

-- A step's slot that is freed heads the chain.
pub slot_goes : (slots : List ℕ) (c : Counters) (heads nodes k : ℕ) (m : NodeMeta) → SlotTable slots heads c.nodemark nodes
    → SlotChain slots c.freeslot c.nodemark → k < c.nodemark → node_entry slots k ≡ Node m
    → Gone slots (slot_freed slots c k) heads c.nodemark (k + 1) (nodes - 1) k m
unfolding slot_freed
slot_goes slots c heads nodes k m t chain l is =
    rw previous_word
    (record {
      table =
          table_change t slots₂ (nodes - 1) k l others (set_entry-length slots₁ k (Free 0 head) ∙ set_word_length slots 0 head (k + 1))
          (λ i h. word_above slots₁ k (Free 0 head) i (omega arith) ∙ set_word_above slots 0 head (k + 1) mark i (omega arith) (head_below chain) h)
          (rw here (free_words slots₁ k 0 head room).3) (rw (here, is) (omega (arith, t.counted, some_step)));
      chain = slot_chain_freed chain t.room k l (live_says slots k m is);
      held = held;
      was = was;
    })
  where
    mark : ℕ
    mark = c.nodemark

    head : ℕ
    head = c.freeslot

    slots₁ : List ℕ
    slots₁ = set_word slots 0 head (k + 1)

    slots₂ : List ℕ
    slots₂ = set_entry slots₁ k (Free 0 head)

    room : width * k + width ≤ length slots₁
    room = omega (arith, t.room, set_word_length slots 0 head (k + 1))

    here : node_entry slots₂ k ≡ Free 0 head
    here = entry_same slots₁ k (Free 0 head) room

    others : (j : ℕ) → (j ≡ k → ⊥) → Alike slots slots₂ j
    others j d =
        alike_then (set_word_alike slots 0 head (k + 1) (omega arith) (omega arith) (omega arith) (λ i e. (head_free chain i e).1) j)
        (entry_alike slots₁ k (Free 0 head) j d)

    some_step : 1 ≤ live_slots slots mark
    some_step = rw is at (live_counted slots mark k l)

    held : (p : ℕ) → held_at slots mark p ≡ with (held_at slots₂ mark) m.first m.capacity p
    held p =
        let change : held_at slots₂ mark p + slab_of (node_entry slots k) p ≡ held_at slots mark p + slab_of (node_entry slots₂ k) p =
        held_at_change slots slots₂ k others mark p l
        in
        omega (arith, rw (here, is) at change)

    was : (j : ℕ) (n : NodeMeta) → node_entry slots₂ j ≡ Node n → (j ≡ k → ⊥) × (node_entry slots j ≡ Node n)
    was j n h =
        let d : j ≡ k → ⊥ = λ e. live_says slots₂ j n h (rw e (free_words slots₁ k 0 head room).1) in
        (d, step_node (node_entry slots j) (node_entry slots₂ j) n (others j d).step h)
