-- The free chain of slots (rule 3) when words change: it stays where the words of its slots stay, loses its head to a step, gets a freed
-- slot in front, and follows its slots when they are renamed.
use Prim.Native.Nat.{ℕ, suc, ◌+◌, ◌*◌, ◌≤◌, ◌<◌}
use mathlib.Core.Path.{◌≡◌, refl, sym, ap, ◌∙◌}
use mathlib.Core.List.{List, [], ◌∷◌, map}
use mathlib.Core.Logic.{◌⊎◌, inl, inr}
use native.Mathlib.Omega.{arith}
use native.Mathlib.Decide.{ℕ_discrete, dec_lt}
use lib.ListN.{length}
use borrow.Author.Tests.{lt-ltb, le-ltb}
use Rattle.slabs.specs.NodeEntry.{width, slot_word, set_entry}
use Rattle.slabs.specs.Slabs.{is_port, Chain}
use Rattle.slabs.specs.declared.node_entry.NodeMeta.{NodeMeta}
use Rattle.slabs.specs.declared.node_entry.NodeEntry.{NodeEntry}
use Rattle.slabs.specs.declared.node_entry.NodeEntry.TheVariants.{Free, Node}
use Rattle.slabs.proofs.EntryLaws.{word_apart, node_words, free_words}
use Rattle.slabs.proofs.SlabLaws.{is_port_yes, is_port_no, chain_kept}
use Rattle.edits.specs.Store.{Store}
use Rattle.sound.specs.Sound.{Backed, free_slots, FreeChain}
use Rattle.sound.proofs.ChainLaws.{times_on, first_on, on_cases, none_on, cons_on, next_backed, previous_leads, first_backed, first_alone, chain_word, chain_next, backed_previous, chain_first, next_on, previous_on, backed_kept, backed_from, chain_renamed, backed_renamed, renamed_on}
use Rattle.sound.proofs.SlotLaws.{free_one, entry_free, entry_live, Alike, alike_ext, free_one_alike, set_word, set_word_length, set_word_other, set_word_same, set_word_alike, FreeWords}
use Rattle.sound.proofs.MoveLaws.{carry}

-- rule 3 of a table of slots, the word that leads to the chain, and the mark
pub record SlotChain (slots : List ℕ) (head mark : ℕ) : Type 0 where
  pub chain : List ℕ
  pub forward : Chain (λ k. slot_word slots k 2) head chain
  pub backward : Backed (λ k. slot_word slots k 0) 0 chain
  pub each_once : (k : ℕ) → times_on chain k ≡ free_one slots mark k

-- Rule 3 of a store is that of its table of slots,
pub slot_chain : (s : Store) → FreeChain s → SlotChain s.slots s.counters.freeslot s.counters.nodemark
unfolding free_one free_slots
slot_chain s c = record { chain = c.chain; forward = c.forward; backward = c.backward; each_once = c.each_once }

-- and the other way round.
pub free_chain : (s : Store) → SlotChain s.slots s.counters.freeslot s.counters.nodemark → FreeChain s
unfolding free_one free_slots
free_chain s c = record { chain = c.chain; forward = c.forward; backward = c.backward; each_once = c.each_once }

-- A free slot below the mark counts,
pub free_one_yes : (slots : List ℕ) (mark k : ℕ) → k < mark → slot_word slots k 1 ≡ 0 → free_one slots mark k ≡ 1
unfolding free_one
free_one_yes slots mark k l e = rw (lt-ltb k mark l, entry_free slots k e)

-- a live one does not,
pub free_one_live : (slots : List ℕ) (mark k : ℕ) → (slot_word slots k 1 ≡ 0 → ⊥) → free_one slots mark k ≡ 0
unfolding free_one
free_one_live slots mark k n = go (dec_lt k mark)
  where
    go : Dec (k < mark) → free_one slots mark k ≡ 0
    go (yes l) = rw (lt-ltb k mark l, entry_live slots k n)
    go (no l) = rw (le-ltb k mark (omega arith))

-- nor does one at the mark or above it.
pub free_one_above : (slots : List ℕ) (mark k : ℕ) → mark ≤ k → free_one slots mark k ≡ 0
unfolding free_one
free_one_above slots mark k h = rw (le-ltb k mark h)

-- What counts is a free slot below the mark,
pub free_one_is : (slots : List ℕ) (mark k : ℕ) → 1 ≤ free_one slots mark k → (k < mark) × (slot_word slots k 1 ≡ 0)
free_one_is slots mark k h = go (dec_lt k mark) (ℕ_discrete (slot_word slots k 1) 0)
  where
    go : Dec (k < mark) → Dec (slot_word slots k 1 ≡ 0) → (k < mark) × (slot_word slots k 1 ≡ 0)
    go (yes l) (yes e) = (l, e)
    go (yes l) (no n) = absurd (omega (arith, free_one_live slots mark k n))
    go (no l) d = absurd (omega (arith, free_one_above slots mark k (omega arith)))

-- and counts once.
pub free_one_le : (slots : List ℕ) (mark k : ℕ) → free_one slots mark k ≤ 1
free_one_le slots mark k = go (dec_lt k mark) (ℕ_discrete (slot_word slots k 1) 0)
  where
    go : Dec (k < mark) → Dec (slot_word slots k 1 ≡ 0) → free_one slots mark k ≤ 1
    go (yes l) (yes e) = omega (arith, free_one_yes slots mark k l e)
    go (yes l) (no n) = omega (arith, free_one_live slots mark k n)
    go (no l) d = omega (arith, free_one_above slots mark k (omega arith))

-- A mark that is raised counts the slots below it as before, but for the one that it passed.
pub free_one_raise : (slots : List ℕ) (mark k : ℕ) → (k ≡ mark → ⊥) → free_one slots (mark + 1) k ≡ free_one slots mark k
unfolding free_one
free_one_raise slots mark k d = go (dec_lt k mark)
  where
    go : Dec (k < mark) → free_one slots (mark + 1) k ≡ free_one slots mark k
    go (yes l) = rw (lt-ltb k mark l, lt-ltb k (mark + 1) (omega arith))
    go (no l) = rw (le-ltb k mark (omega arith), le-ltb k (mark + 1) (omega arith))

-- An entry that is written changes no word of another slot,
pub entry_word : (slots : List ℕ) (k : ℕ) (e : NodeEntry) (i l : ℕ) → l < width → (i ≡ k → ⊥) → slot_word (set_entry slots k e) i l ≡ slot_word slots i l
entry_word slots k e i l b d = word_apart slots k e (width * i + l) (omega arith)

-- so each other slot is alike.
pub entry_alike : (slots : List ℕ) (k : ℕ) (e : NodeEntry) (i : ℕ) → (i ≡ k → ⊥) → Alike slots (set_entry slots k e) i
entry_alike slots k e i d = alike_ext slots (set_entry slots k e) i (λ l b. entry_word slots k e i l b d)

-- A number that is on a chain once does not lead to itself.
pub own_next : (next : ℕ → ℕ) (word : ℕ) (ks : List ℕ) → Chain next word ks → (k : ℕ) → times_on ks k ≤ 1 → 1 ≤ times_on ks k → next k ≡ suc k → ⊥
own_next next word [] c k once h e = omega (arith, none_on k)
own_next next word (j ∷ ks) c k once h e =
    go (on_cases j ks k h) (λ l. own_next next (next j) ks c.1 k (omega (arith, cons_on j ks k)) l e)
  where
    go : (j ≡ k) ⊎ (1 ≤ times_on ks k) → (1 ≤ times_on ks k → ⊥) → ⊥
    go (inl i) later =
        let to : next j ≡ suc k = ap next i ∙ e in
        let (rest, is, tail) = chain_first next k ks (rw to at c.1) in
        later (rw is (first_on k rest))
    go (inr l) later = later l

module _ {slots : List ℕ} {head mark : ℕ} (c : SlotChain slots head mark) where
  -- A slot on the chain is free and below the mark,
  pub on_free : (k : ℕ) → 1 ≤ times_on c.chain k → (k < mark) × (slot_word slots k 1 ≡ 0)
  on_free k h = free_one_is slots mark k (omega (arith, c.each_once k))

  -- and is on it once.
  pub on_once : (k : ℕ) → times_on c.chain k ≤ 1
  on_once k = omega (arith, c.each_once k, free_one_le slots mark k)

  -- A free slot below the mark is on the chain.
  pub free_on : (k : ℕ) → k < mark → slot_word slots k 1 ≡ 0 → 1 ≤ times_on c.chain k
  free_on k l e = omega (arith, c.each_once k, free_one_yes slots mark k l e)

  -- The chain's head is the slot that the word leads to,
  pub head_free : (k : ℕ) → head ≡ suc k → (k < mark) × (slot_word slots k 1 ≡ 0)
  head_free k e =
      let (rest, is, tail) = chain_first (λ j. slot_word slots j 2) k c.chain (rw e at c.forward) in
      on_free k (rw is (first_on k rest))

  -- and all its words lead to slots below the mark: the first one,
  pub head_below : head ≤ mark
  head_below = chain_word _ mark head c.chain (λ k h. (on_free k h).0) c.forward

  -- each next,
  pub next_below : (k : ℕ) → k < mark → slot_word slots k 1 ≡ 0 → slot_word slots k 2 ≤ mark
  next_below k l e = chain_next _ mark head c.chain (λ j h. (on_free j h).0) c.forward k (free_on k l e)

  -- and each previous.
  pub previous_below : (k : ℕ) → k < mark → slot_word slots k 1 ≡ 0 → slot_word slots k 0 ≤ mark
  previous_below k l e = backed_previous _ mark 0 c.chain (omega arith) (λ j h. (on_free j h).0) c.backward k (free_on k l e)

  -- What a free slot names as its next is free,
  pub next_free : (k j : ℕ) → k < mark → slot_word slots k 1 ≡ 0 → slot_word slots k 2 ≡ suc j → (j < mark) × (slot_word slots j 1 ≡ 0)
  next_free k j l e i = on_free j (next_on (λ q. slot_word slots q 2) head c.chain c.forward k j (free_on k l e) i)

  -- and so is its previous.
  pub previous_free : (k j : ℕ) → k < mark → slot_word slots k 1 ≡ 0 → slot_word slots k 0 ≡ suc j → (j < mark) × (slot_word slots j 1 ≡ 0)
  previous_free k j l e i = on_free j (go (previous_on (λ q. slot_word slots q 0) 0 c.chain c.backward k j (free_on k l e) i))
    where
      go : (0 ≡ suc j) ⊎ (1 ≤ times_on c.chain j) → 1 ≤ times_on c.chain j
      go (inl z) = absurd (omega arith)
      go (inr h) = h

  -- A free slot's next names it as its previous,
  pub next_back : (k j : ℕ) → k < mark → slot_word slots k 1 ≡ 0 → slot_word slots k 2 ≡ suc j → slot_word slots j 0 ≡ suc k
  next_back k j l e i =
      next_backed (λ q. slot_word slots q 2) (λ q. slot_word slots q 0) head 0 c.chain c.forward c.backward k j (free_on k l e) i

  -- and its previous as its next.
  pub back_next : (k j : ℕ) → k < mark → slot_word slots k 1 ≡ 0 → slot_word slots k 0 ≡ suc j → slot_word slots j 2 ≡ suc k
  back_next k j l e i =
      previous_leads (λ q. slot_word slots q 2) (λ q. slot_word slots q 0) head 0 c.chain (λ q z. absurd (omega arith)) c.forward c.backward k j
      (free_on k l e) i

  -- The head has no previous,
  pub head_back : (k : ℕ) → head ≡ suc k → slot_word slots k 0 ≡ 0
  head_back k e = first_backed (λ q. slot_word slots q 2) (λ q. slot_word slots q 0) head 0 c.chain c.forward c.backward k e

  -- and no other free slot has none.
  pub back_head : (k : ℕ) → k < mark → slot_word slots k 1 ≡ 0 → slot_word slots k 0 ≡ 0 → head ≡ suc k
  back_head k l e z = first_alone (λ q. slot_word slots q 2) (λ q. slot_word slots q 0) head 0 c.chain c.forward c.backward k (free_on k l e) z

  -- No free slot is its own next,
  pub not_next : (k : ℕ) → k < mark → slot_word slots k 1 ≡ 0 → slot_word slots k 2 ≡ suc k → ⊥
  not_next k l e i = own_next (λ q. slot_word slots q 2) head c.chain c.forward k (on_once k) (free_on k l e) i

  -- or its own previous.
  pub not_previous : (k : ℕ) → k < mark → slot_word slots k 1 ≡ 0 → slot_word slots k 0 ≡ suc k → ⊥
  not_previous k l e i = not_next k l e (back_next k k l e i)

  -- The chain stays where the free slots stay, and their first and third words.
  pub slot_chain_kept : (slots' : List ℕ) (mark' : ℕ) → ((k : ℕ) → free_one slots' mark' k ≡ free_one slots mark k)
      → ((k : ℕ) → k < mark → slot_word slots k 1 ≡ 0 → (slot_word slots' k 0 ≡ slot_word slots k 0) × (slot_word slots' k 2 ≡ slot_word slots k 2))
      → SlotChain slots' head mark'
  slot_chain_kept slots' mark' free words =
      record {
        chain = c.chain;
        forward = chain_kept _ _ head c.chain (λ k h. sym (words k (on_free k h).0 (on_free k h).1).1) c.forward;
        backward = backed_kept _ _ 0 c.chain (λ k h. sym (words k (on_free k h).0 (on_free k h).1).0) c.backward;
        each_once = λ k. c.each_once k ∙ sym (free k);
      }

  -- A freed slot is put in front of it.
  pub slot_chain_freed : width * mark ≤ length slots → (k : ℕ) → k < mark → (slot_word slots k 1 ≡ 0 → ⊥)
      → SlotChain (set_entry (set_word slots 0 head (k + 1)) k (Free 0 head)) (k + 1) mark
  slot_chain_freed room k l live =
      record {
        chain = k ∷ c.chain;
        forward = (omega arith, rw words.2 (chain_kept _ _ head c.chain (λ q h. sym (kept q 2 h (omega arith) (λ e z. omega arith))) c.forward));
        backward = (
          words.0,
          backed_from (λ q. slot_word slots q 2) (λ q. slot_word slots q 0) (λ q. slot_word slots₂ q 0) head 0 (suc k) c.chain on_once second
              (λ q h n. sym (kept q 0 h (omega arith) (λ e z. n e))) c.forward c.backward,
        );
        each_once = λ q. cons_on k c.chain q ∙ counted q (ℕ_discrete q k);
      }
    where
      slots₁ : List ℕ
      slots₁ = set_word slots 0 head (k + 1)

      slots₂ : List ℕ
      slots₂ = set_entry slots₁ k (Free 0 head)

      words : FreeWords slots₂ k 0 head
      words = free_words slots₁ k 0 head (omega (arith, set_word_length slots 0 head (k + 1)))

      apart : (q : ℕ) → 1 ≤ times_on c.chain q → q ≡ k → ⊥
      apart q h e = live (rw e at (on_free q h).1)

      kept : (q j : ℕ) → 1 ≤ times_on c.chain q → j < width → (head ≡ suc q → j ≡ 0 → ⊥) → slot_word slots₂ q j ≡ slot_word slots q j
      kept q j h b d = entry_word slots₁ k (Free 0 head) q j b (apart q h) ∙ set_word_other slots 0 head (k + 1) q j (omega arith) b d

      second : (q : ℕ) → head ≡ suc q → slot_word slots₂ q 0 ≡ suc k
      second q e =
          let f = head_free q e in
          entry_word slots₁ k (Free 0 head) q 0 (omega arith) (λ same. live (rw same at f.1)) ∙
          set_word_same slots 0 head q (k + 1) e (omega arith) (omega arith) ∙ omega arith

      counted : (q : ℕ) → Dec (q ≡ k) → is_port k q + times_on c.chain q ≡ free_one slots₂ mark q
      counted q (yes e) =
          rw e
          (omega (arith, is_port_yes k k refl, c.each_once k, free_one_live slots mark k live, free_one_yes slots₂ mark k l words.1))
      counted q (no n) =
          omega (
            arith,
            is_port_no k q (omega arith),
            c.each_once q,
            free_one_alike slots slots₁ mark q (set_word_alike slots 0 head (k + 1) (omega arith) (omega arith) (omega arith) (λ j e. (head_free j e).1) q),
            free_one_alike slots₁ slots₂ mark q (entry_alike slots₁ k (Free 0 head) q n),
          )

  -- When its slots get new numbers, and with them the words that name them, it follows.
  pub slot_chain_renamed : (f back : ℕ → ℕ) → ((k : ℕ) → back (f k) ≡ k) → ((k : ℕ) → f (back k) ≡ k) → (slots' : List ℕ)
      → ((k : ℕ) → k < mark → slot_word slots k 1 ≡ 0
      → (slot_word slots' (f k) 0 ≡ carry f (slot_word slots k 0)) × (slot_word slots' (f k) 2 ≡ carry f (slot_word slots k 2)))
      → ((k : ℕ) → free_one slots' mark k ≡ free_one slots mark (back k))
      → SlotChain slots' (carry f head) mark
  slot_chain_renamed f back there here slots' words free =
      record {
        chain = map f c.chain;
        forward =
            chain_renamed f (carry f) _ _ head c.chain refl (λ k h. refl) (λ k h. (words k (on_free k h).0 (on_free k h).1).1) c.forward;
        backward =
            backed_renamed f (carry f) (λ k. slot_word slots k 0) (λ k. slot_word slots' k 0) 0 c.chain (λ k h. refl)
            (λ k h. (words k (on_free k h).0 (on_free k h).1).0) c.backward;
        each_once = λ k. renamed_on f back there here c.chain k ∙ c.each_once (back k) ∙ sym (free k);
      }

-- The head is taken, and is live then: the chain is the rest.
pub slot_chain_taken : (slots : List ℕ) (mark k : ℕ) (m : NodeMeta) → SlotChain slots (suc k) mark → width * mark ≤ length slots
    → SlotChain (set_entry (set_word slots 0 (slot_word slots k 2) 0) k (Node m)) (slot_word slots k 2) mark
slot_chain_taken slots mark k m c room =
    let (rest, is, tail) = chain_first (λ q. slot_word slots q 2) k c.chain c.forward in
    go rest tail (rw is at c.backward).1 (λ q. rw is at (c.each_once q))
  where
    w : ℕ
    w = slot_word slots k 2

    slots₁ : List ℕ
    slots₁ = set_word slots 0 w 0

    slots₂ : List ℕ
    slots₂ = set_entry slots₁ k (Node m)

    below : k < mark
    below = (head_free c k refl).0

    words : (slot_word slots₂ k 0 ≡ m.first) × (slot_word slots₂ k 1 ≡ m.inlets + 1) × (slot_word slots₂ k 2 ≡ m.outlets) × (slot_word slots₂ k 3 ≡ m.capacity)
    words = node_words slots₁ k m (omega (arith, below, set_word_length slots 0 w 0))

    go : (rest : List ℕ) → Chain (λ q. slot_word slots q 2) w rest → Backed (λ q. slot_word slots q 0) (suc k) rest
        → ((q : ℕ) → times_on (k ∷ rest) q ≡ free_one slots mark q) → SlotChain slots₂ w mark
    go rest tail back once =
        record {
          chain = rest;
          forward = chain_kept _ _ w rest (λ q h. sym (kept q 2 h (omega arith) (λ e z. omega arith))) tail;
          backward =
              backed_from (λ q. slot_word slots q 2) (λ q. slot_word slots q 0) (λ q. slot_word slots₂ q 0) w (suc k) 0 rest
              (λ q. omega (arith, once q, cons_on k rest q, free_one_le slots mark q)) second
              (λ q h n. sym (kept q 0 h (omega arith) (λ e z. n e))) tail back;
          each_once = λ q. counted q (ℕ_discrete q k);
        }
      where
        apart : (q : ℕ) → 1 ≤ times_on rest q → q ≡ k → ⊥
        apart q h e = omega (arith, once q, cons_on k rest q, is_port_yes k q (sym e), free_one_le slots mark q)

        is_free : (q : ℕ) → 1 ≤ times_on rest q → (q < mark) × (slot_word slots q 1 ≡ 0)
        is_free q h = free_one_is slots mark q (omega (arith, once q, cons_on k rest q))

        kept : (q j : ℕ) → 1 ≤ times_on rest q → j < width → (w ≡ suc q → j ≡ 0 → ⊥) → slot_word slots₂ q j ≡ slot_word slots q j
        kept q j h b d = entry_word slots₁ k (Node m) q j b (apart q h) ∙ set_word_other slots 0 w 0 q j (omega arith) b d

        heads_rest : (q : ℕ) → w ≡ suc q → 1 ≤ times_on rest q
        heads_rest q e =
            let (rest', is, tail') = chain_first (λ j. slot_word slots j 2) q rest (rw e at tail) in
            rw is (first_on q rest')

        second : (q : ℕ) → w ≡ suc q → slot_word slots₂ q 0 ≡ 0
        second q e =
            entry_word slots₁ k (Node m) q 0 (omega arith) (apart q (heads_rest q e)) ∙
            set_word_same slots 0 w q 0 e (omega arith) (omega (arith, is_free q (heads_rest q e)))

        counted : (q : ℕ) → Dec (q ≡ k) → times_on rest q ≡ free_one slots₂ mark q
        counted q (yes e) =
            rw e
            (omega (arith, once k, cons_on k rest k, is_port_yes k k refl, free_one_le slots mark k, free_one_live slots₂ mark k (omega (arith, words))))
        counted q (no n) =
            omega (
              arith,
              is_port_no k q (omega arith),
              once q,
              cons_on k rest q,
              free_one_alike slots slots₁ mark q
                  (set_word_alike slots 0 w 0 (omega arith) (omega arith) (omega arith) (λ j e. (is_free j (heads_rest j e)).1) q),
              free_one_alike slots₁ slots₂ mark q (entry_alike slots₁ k (Node m) q n),
            )
