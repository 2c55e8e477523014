-- A free slot's place on the chain is given to another slot, whose step goes where the free slot was: the chain is the same with one number
-- for another.
use Prim.Native.Nat.{ℕ, suc, zero, ◌+◌, ◌*◌, ◌≤◌, ◌<◌}
use mathlib.Core.Path.{◌≡◌, refl, sym, ap, ◌∙◌}
use mathlib.Core.List.{List}
use native.Mathlib.Omega.{arith}
use native.Mathlib.Decide.{ℕ_discrete}
use lib.ListN.{length, get_or}
use Rattle.slabs.specs.NodeEntry.{width, slot_word, node_entry, set_entry}
use Rattle.slabs.specs.declared.node_entry.NodeMeta.{NodeMeta}
use Rattle.slabs.specs.declared.node_entry.NodeEntry.TheVariants.{Free, Node}
use Rattle.slabs.proofs.EntryLaws.{set_entry-length, word_above, free_words, entry_same, entry_ext}
use Rattle.sound.proofs.SlotLaws.{step_of, free_one, entry_free, live_says, live_words, SaysAs, Alike, alike_ext, alike_free, free_one_alike, set_word, set_word_length, set_word_other, set_word_above, set_word_same, FreeWords, words_kept}
use Rattle.sound.proofs.FreeSlotLaws.{SlotChain, free_one_yes, free_one_live, entry_word, head_free, next_free, previous_free, next_back, back_next, head_back, back_head, not_next, not_previous, slot_chain_renamed}
use Rattle.sound.proofs.SlotTable.{SlotTable}
use Rattle.sound.proofs.Exchange.{exchanged, exchanged_first, exchanged_other, exchange_cases, exchanged_twice}
use Rattle.sound.proofs.MoveLaws.{carry, carry_still}

-- A word that names neither of two slots stays when they are exchanged.
pub word_still : (a b w : ℕ) → ((j : ℕ) → w ≡ suc j → (j ≡ a → ⊥) × (j ≡ b → ⊥)) → carry (exchanged a b) w ≡ w
word_still a b w apart = carry_still (exchanged a b) w (λ j e. exchanged_other a b j (apart j e).0 (apart j e).1)

-- The free slot from, whose step's place was to, is at to, and step m at from: its neighbours name it there.
pub record FreeMoved (slots slots' : List ℕ) (mark from to : ℕ) (m : NodeMeta) : Type 0 where
  pub length_kept : length slots' ≡ length slots
  pub above : (i : ℕ) → width * mark ≤ i → get_or slots' i 0 ≡ get_or slots i 0
  pub here : node_entry slots' from ≡ Node m
  pub there : FreeWords slots' to (slot_word slots from 0) (slot_word slots from 2)
  pub before : (j : ℕ) → slot_word slots from 0 ≡ suc j → slot_word slots' j 2 ≡ suc to
  pub after : (j : ℕ) → slot_word slots from 2 ≡ suc j → slot_word slots' j 0 ≡ suc to
  pub others : (j l : ℕ) → l < width → (j ≡ from → ⊥) → (j ≡ to → ⊥) → (slot_word slots from 0 ≡ suc j → l ≡ 2 → ⊥)
      → (slot_word slots from 2 ≡ suc j → l ≡ 0 → ⊥)
      → slot_word slots' j l ≡ slot_word slots j l

module _ {slots slots' : List ℕ} {heads mark nodes head from to : ℕ} {m : NodeMeta} (moved : FreeMoved slots slots' mark from to m)
    (t : SlotTable slots heads mark nodes) (c : SlotChain slots head mark) (lf : from < mark) (lt : to < mark) (free : slot_word slots from 1 ≡ 0)
    (live : node_entry slots to ≡ Node m) where
  -- A free slot is not the live one.
  not_to : (j : ℕ) → slot_word slots j 1 ≡ 0 → j ≡ to → ⊥
  not_to j e same = live_says slots to m live (rw same at e)

  -- Each other slot is alike.
  pub moved_alike : (j : ℕ) → (j ≡ from → ⊥) → (j ≡ to → ⊥) → Alike slots slots' j
  moved_alike j nf nt = go (ℕ_discrete (slot_word slots j 1) 0)
    where
      go : Dec (slot_word slots j 1 ≡ 0) → Alike slots slots' j
      go (yes e) =
          alike_free slots slots' j e (moved.others j 1 (omega arith) nf nt (λ i z. omega arith) (λ i z. omega arith) ∙ e)
          (moved.others j 3 (omega arith) nf nt (λ i z. omega arith) (λ i z. omega arith))
      go (no n) =
          alike_ext slots slots' j
          (λ l b. moved.others j l b nf nt (λ i z. n (previous_free c from j lf free i).1) (λ i z. n (next_free c from j lf free i).1))

  -- So the two slots are exchanged, as far as steps go,
  pub moved_says : (k : ℕ) → SaysAs slots (exchanged from to k) slots' k
  moved_says =
      exchange_cases (λ j k. SaysAs slots j slots' k) from to
      (record {
        step = ap step_of (moved.here ∙ sym live);
        fourth = (live_words slots' from m moved.here).3 ∙ sym (live_words slots to m live).3;
      })
      (record { step = rw (entry_free slots from free, entry_free slots' to moved.there.1); fourth = moved.there.3 ∙ sym fourth })
      moved_alike
    where
      fourth : slot_word slots from 3 ≡ 0
      fourth = rw (entry_free slots from free) at (t.says from lf)

  -- and the chain has the one number for the other.
  pub moved_chain : SlotChain slots' (carry (exchanged from to) head) mark
  moved_chain =
      slot_chain_renamed c (exchanged from to) (exchanged from to) (exchanged_twice from to) (exchanged_twice from to) slots' (λ k l e. words k l e (ℕ_discrete k from))
      (λ k. exchange_cases (λ j i. free_one slots' mark i ≡ free_one slots mark j) from to at_from at_to (λ j nf nt. free_one_alike slots slots' mark j (moved_alike j nf nt)) k)
    where
      at_from : free_one slots' mark from ≡ free_one slots mark to
      at_from =
          free_one_live slots' mark from (live_says slots' from m moved.here) ∙ sym (free_one_live slots mark to (live_says slots to m live))

      at_to : free_one slots' mark to ≡ free_one slots mark from
      at_to = free_one_yes slots' mark to lt moved.there.1 ∙ sym (free_one_yes slots mark from lf free)

      -- a neighbour's word that named the slot where it was names it where it is
      follows : (w : ℕ) → w ≡ suc from → carry (exchanged from to) w ≡ suc to
      follows w e = rw (e, exchanged_first from to)

      words : (k : ℕ) → k < mark → slot_word slots k 1 ≡ 0 → Dec (k ≡ from)
          → (slot_word slots' (exchanged from to k) 0 ≡ carry (exchanged from to) (slot_word slots k 0))
          × (slot_word slots' (exchanged from to k) 2 ≡ carry (exchanged from to) (slot_word slots k 2))
      words k l e (yes i) = rw (i, exchanged_first from to) (
        moved.there.0 ∙ sym (word_still from to (slot_word slots from 0) previous),
        moved.there.2 ∙ sym (word_still from to (slot_word slots from 2) next),
      )
        where
          previous : (j : ℕ) → slot_word slots from 0 ≡ suc j → (j ≡ from → ⊥) × (j ≡ to → ⊥)
          previous j z = (λ same. not_previous c from lf free (rw same at z), not_to j (previous_free c from j lf free z).1)

          next : (j : ℕ) → slot_word slots from 2 ≡ suc j → (j ≡ from → ⊥) × (j ≡ to → ⊥)
          next j z = (λ same. not_next c from lf free (rw same at z), not_to j (next_free c from j lf free z).1)
      words k l e (no n) =
          rw (exchanged_other from to k n (not_to k e)) (first (ℕ_discrete (slot_word slots from 2) (suc k)), third (ℕ_discrete (slot_word slots from 0) (suc k)))
        where
          first : Dec (slot_word slots from 2 ≡ suc k) → slot_word slots' k 0 ≡ carry (exchanged from to) (slot_word slots k 0)
          first (yes z) = moved.after k z ∙ sym (follows (slot_word slots k 0) (next_back c from k lf free z))
          first (no z) =
              moved.others k 0 (omega arith) n (not_to k e) (λ i y. omega arith) (λ i y. z i) ∙
              sym
              (word_still from to (slot_word slots k 0)
              (λ j i. (λ same. z (rw same at (back_next c k j l e i)), not_to j (previous_free c k j l e i).1)))

          third : Dec (slot_word slots from 0 ≡ suc k) → slot_word slots' k 2 ≡ carry (exchanged from to) (slot_word slots k 2)
          third (yes z) = moved.before k z ∙ sym (follows (slot_word slots k 2) (back_next c from k lf free z))
          third (no z) =
              moved.others k 2 (omega arith) n (not_to k e) (λ i y. z i) (λ i y. omega arith) ∙
              sym
              (word_still from to (slot_word slots k 2)
              (λ j i. (λ same. z (rw same at (next_back c k j l e i)), not_to j (next_free c k j l e i).1)))

  -- Where the free slot had no previous it was the head, and the head follows it;
  pub moved_head : slot_word slots from 0 ≡ 0 → SlotChain slots' (to + 1) mark
  moved_head z =
      let e : carry (exchanged from to) head ≡ to + 1 = rw (back_head c from lf free z, exchanged_first from to) (omega arith) in
      rw e at moved_chain

  -- else the head stays.
  pub moved_rest : (slot_word slots from 0 ≡ 0 → ⊥) → SlotChain slots' head mark
  moved_rest n =
      let e : carry (exchanged from to) head ≡ head =
      word_still from to head (λ j i. (λ same. n (head_back c from (rw same at i)), not_to j (head_free c j i).1))
      in
      rw e at moved_chain

-- the table once a free entry has arrived at slot to: its neighbours name it there
abbrev pub free_arrived : List ℕ → ℕ → ℕ → ℕ → List ℕ
free_arrived slots to previous next = set_word (set_word (set_entry slots to (Free previous next)) 2 previous (to + 1)) 0 next (to + 1)

-- Its neighbours are other slots, below the mark:
module _ (slots : List ℕ) (mark to previous next : ℕ) (room : width * mark ≤ length slots) (lt : to < mark)
    (before : (j : ℕ) → previous ≡ suc j → (j < mark) × (j ≡ to → ⊥)) (after : (j : ℕ) → next ≡ suc j → (j < mark) × (j ≡ to → ⊥)) where
  -- the entry that arrives,
  slots₁ : List ℕ
  slots₁ = set_entry slots to (Free previous next)

  -- and the one before it.
  slots₂ : List ℕ
  slots₂ = set_word slots₁ 2 previous (to + 1)

  -- The table keeps its length,
  pub arrived_length : length (free_arrived slots to previous next) ≡ length slots
  unfolding slots₁ slots₂
  arrived_length = set_word_length slots₂ 0 next (to + 1) ∙ set_word_length slots₁ 2 previous (to + 1) ∙ set_entry-length slots to (Free previous next)

  -- the words from the mark on,
  pub arrived_above : (i : ℕ) → width * mark ≤ i → get_or (free_arrived slots to previous next) i 0 ≡ get_or slots i 0
  unfolding slots₁ slots₂
  arrived_above i h =
      set_word_above slots₂ 0 next (to + 1) mark i (omega arith) (low next after) h ∙
      set_word_above slots₁ 2 previous (to + 1) mark i (omega arith) (low previous before) h ∙ word_above slots to (Free previous next) i (omega arith)
    where
      low : (w : ℕ) → ((j : ℕ) → w ≡ suc j → (j < mark) × (j ≡ to → ⊥)) → w ≤ mark
      low zero lies = omega arith
      low (suc j) lies = omega (arith, lies j refl)

  -- and those of other slots, but for the words of the neighbours that name it.
  pub arrived_other : (j l : ℕ) → l < width → (j ≡ to → ⊥) → (previous ≡ suc j → l ≡ 2 → ⊥) → (next ≡ suc j → l ≡ 0 → ⊥)
      → slot_word (free_arrived slots to previous next) j l ≡ slot_word slots j l
  unfolding slots₁ slots₂
  arrived_other j l b d np nn =
      set_word_other slots₂ 0 next (to + 1) j l (omega arith) b nn ∙ set_word_other slots₁ 2 previous (to + 1) j l (omega arith) b np ∙
      entry_word slots to (Free previous next) j l b d

  -- The slot has the entry's words,
  pub arrived_here : (l : ℕ) → l < width → slot_word (free_arrived slots to previous next) to l ≡ slot_word (set_entry slots to (Free previous next)) to l
  unfolding slots₁ slots₂
  arrived_here l b =
      set_word_other slots₂ 0 next (to + 1) to l (omega arith) b (λ e z. (after to e).1 refl) ∙
      set_word_other slots₁ 2 previous (to + 1) to l (omega arith) b (λ e z. (before to e).1 refl)

  -- the one before it names it,
  pub arrived_before : (j : ℕ) → previous ≡ suc j → slot_word (free_arrived slots to previous next) j 2 ≡ suc to
  unfolding slots₁ slots₂
  arrived_before j e =
      set_word_other slots₂ 0 next (to + 1) j 2 (omega arith) (omega arith) (λ i z. omega arith) ∙
      set_word_same slots₁ 2 previous j (to + 1) e (omega arith) (omega (arith, before j e, set_entry-length slots to (Free previous next))) ∙ omega arith

  -- and so does the one after it.
  pub arrived_after : (j : ℕ) → next ≡ suc j → slot_word (free_arrived slots to previous next) j 0 ≡ suc to
  unfolding slots₁ slots₂
  arrived_after j e =
      set_word_same slots₂ 0 next j (to + 1) e (omega arith)
      (omega (arith, after j e, set_word_length slots₁ 2 previous (to + 1), set_entry-length slots to (Free previous next))) ∙ omega arith

-- A free slot and a live one change places, in either order of writing:
module _ {slots : List ℕ} {heads mark nodes head from to : ℕ} {m : NodeMeta} (t : SlotTable slots heads mark nodes) (c : SlotChain slots head mark)
    (lf : from < mark) (lt : to < mark) (free : slot_word slots from 1 ≡ 0) (live : node_entry slots to ≡ Node m) where
  -- the neighbours of the free slot are neither the live one
  before_to : (j : ℕ) → slot_word slots from 0 ≡ suc j → (j < mark) × (j ≡ to → ⊥)
  before_to j e = let (l, z) = previous_free c from j lf free e in (l, λ same. live_says slots to m live (rw same at z))

  after_to : (j : ℕ) → slot_word slots from 2 ≡ suc j → (j < mark) × (j ≡ to → ⊥)
  after_to j e = let (l, z) = next_free c from j lf free e in (l, λ same. live_says slots to m live (rw same at z))

  -- nor itself.
  before_from : (j : ℕ) → slot_word slots from 0 ≡ suc j → j ≡ from → ⊥
  before_from j e same = not_previous c from lf free (rw same at e)

  after_from : (j : ℕ) → slot_word slots from 2 ≡ suc j → j ≡ from → ⊥
  after_from j e same = not_next c from lf free (rw same at e)

  two : from ≡ to → ⊥
  two e = live_says slots to m live (rw e at free)

  -- The free entry arrives first,
  pub moved_before : FreeMoved slots (set_entry (free_arrived slots to (slot_word slots from 0) (slot_word slots from 2)) from (Node m)) mark from to m
  moved_before =
      record {
        length_kept = set_entry-length slots₁ from (Node m) ∙ len;
        above = λ i h. word_above slots₁ from (Node m) i (omega arith) ∙ arrived_above slots mark to _ _ t.room lt before_to after_to i h;
        here = entry_same slots₁ from (Node m) (omega (arith, t.room, len));
        there = words_kept (set_entry slots to (Free (slot_word slots from 0) (slot_word slots from 2))) (set_entry slots₁ from (Node m)) to at_to words;
        before =
            λ j e.
            entry_word slots₁ from (Node m) j 2 (omega arith) (before_from j e) ∙ arrived_before slots mark to _ _ t.room lt before_to after_to j e;
        after =
            λ j e.
            entry_word slots₁ from (Node m) j 0 (omega arith) (after_from j e) ∙ arrived_after slots mark to _ _ t.room lt before_to after_to j e;
        others =
            λ j l b nf nt np nn.
            entry_word slots₁ from (Node m) j l b nf ∙ arrived_other slots mark to _ _ t.room lt before_to after_to j l b nt np nn;
      }
    where
      slots₁ : List ℕ
      slots₁ = free_arrived slots to (slot_word slots from 0) (slot_word slots from 2)

      len : length slots₁ ≡ length slots
      len = arrived_length slots mark to _ _ t.room lt before_to after_to

      words : FreeWords (set_entry slots to (Free (slot_word slots from 0) (slot_word slots from 2))) to (slot_word slots from 0) (slot_word slots from 2)
      words = free_words slots to (slot_word slots from 0) (slot_word slots from 2) (omega (arith, t.room))

      at_to : (l : ℕ) → l < width
          → slot_word (set_entry slots₁ from (Node m)) to l ≡ slot_word (set_entry slots to (Free (slot_word slots from 0) (slot_word slots from 2))) to l
      at_to l b = entry_word slots₁ from (Node m) to l b (λ e. two (sym e)) ∙ arrived_here slots mark to _ _ t.room lt before_to after_to l b

  -- or the step does.
  pub moved_after : FreeMoved slots (free_arrived (set_entry slots from (Node m)) to (slot_word slots from 0) (slot_word slots from 2)) mark from to m
  moved_after =
      record {
        length_kept = arrived_length slots₁ mark to _ _ room lt before_to after_to ∙ len;
        above = λ i h. arrived_above slots₁ mark to _ _ room lt before_to after_to i h ∙ word_above slots from (Node m) i (omega arith);
        here = entry_ext slots₂ slots₁ from at_from ∙ entry_same slots from (Node m) (omega (arith, t.room));
        there = words_kept (set_entry slots₁ to (Free (slot_word slots from 0) (slot_word slots from 2))) slots₂ to at_to words;
        before = arrived_before slots₁ mark to _ _ room lt before_to after_to;
        after = arrived_after slots₁ mark to _ _ room lt before_to after_to;
        others =
            λ j l b nf nt np nn.
            arrived_other slots₁ mark to _ _ room lt before_to after_to j l b nt np nn ∙ entry_word slots from (Node m) j l b nf;
      }
    where
      slots₁ : List ℕ
      slots₁ = set_entry slots from (Node m)

      slots₂ : List ℕ
      slots₂ = free_arrived slots₁ to (slot_word slots from 0) (slot_word slots from 2)

      len : length slots₁ ≡ length slots
      len = set_entry-length slots from (Node m)

      room : width * mark ≤ length slots₁
      room = rw len t.room

      words : FreeWords (set_entry slots₁ to (Free (slot_word slots from 0) (slot_word slots from 2))) to (slot_word slots from 0) (slot_word slots from 2)
      words = free_words slots₁ to (slot_word slots from 0) (slot_word slots from 2) (omega (arith, room))

      at_to : (l : ℕ) → l < width
          → slot_word slots₂ to l ≡ slot_word (set_entry slots₁ to (Free (slot_word slots from 0) (slot_word slots from 2))) to l
      at_to = arrived_here slots₁ mark to _ _ room lt before_to after_to

      at_from : (l : ℕ) → l < width → slot_word slots₂ from l ≡ slot_word slots₁ from l
      at_from l b =
          arrived_other slots₁ mark to _ _ room lt before_to after_to from l b two (λ e z. before_from from e refl) (λ e z. after_from from e refl)
