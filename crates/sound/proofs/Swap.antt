-- Swapping two slots (call 6) keeps a store sound.
use Prim.Native.Nat.{ℕ, ◌+◌, ◌≤◌, ◌<◌}
use mathlib.Core.Path.{◌≡◌, refl, sym, ap, ◌∙◌}
use mathlib.Core.List.{List, []}
use mathlib.Core.Bool.{true}
use native.Mathlib.Omega.{arith}
use native.Mathlib.Decide.{ℕ_discrete}
use lib.ListN.{length}
use lib.Dec.{eqb, leb}
use borrow.Author.Tests.{eq-eqb, ne_eqb, leb-false}
use Rattle.slabs.specs.Choice.{pick}
use Rattle.slabs.specs.NodeEntry.{width, slot_word, node_entry, set_entry}
use Rattle.slabs.specs.Counters.{free_slot_moved}
use Rattle.slabs.specs.Slab.{owners_written}
use Rattle.slabs.specs.declared.node_entry.NodeMeta.{NodeMeta}
use Rattle.slabs.specs.declared.node_entry.NodeEntry.{NodeEntry}
use Rattle.slabs.specs.declared.node_entry.NodeEntry.TheVariants.{Free, Node}
use Rattle.slabs.proofs.EntryLaws.{set_entry-length, word_above, entry_same, entry_other}
use Rattle.edits.specs.Store.{Store, store_of}
use Rattle.edits.specs.Answer.{is_done, done}
use Rattle.edits.specs.Swap.{swap_answer, arrived_slots, arrived_owners, arrived_counters, stays, swapped_slots, swapped_owners, swapped_counters, swapped}
use Rattle.edits.specs.declared.answer.Refusal.TheVariants.{NoNode}
use Rattle.std.specs.Prelude.{Err}
use Rattle.calls.specs.Call.{swap_call}
use Rattle.sound.specs.Sound.{Shaped, LiveSlot, held_at, Owned, Sound}
use Rattle.sound.proofs.RenameLaws.{same_port_then}
use Rattle.sound.proofs.SlotLaws.{step_of, free_one, step_node, free_says, live_says, live_words, SaysAs, alike_then, free_one_alike, previous_word, next_word, node_is}
use Rattle.sound.proofs.FreeSlotLaws.{SlotChain, free_one_live, entry_word, entry_alike, slot_chain_kept}
use Rattle.sound.proofs.SlotTable.{SlotTable, live_slot}
use Rattle.sound.proofs.OwnerLaws.{Rewritten, owned_rewritten}
use Rattle.sound.proofs.PortTable.{PortTable, table_held, table_renamed}
use Rattle.sound.proofs.Parts.{Parts, parts_of, sound_of, slot_table, chain_of, port_table, parts_by}
use Rattle.sound.proofs.Kept.{decided_store, done_past}
use Rattle.sound.proofs.Exchange.{exchanged, exchange_cases, held_at_exchange, table_exchange}
use Rattle.sound.proofs.FreeMove.{FreeMoved, moved_alike, moved_says, moved_head, moved_rest, moved_before, moved_after}
use Rattle.sound.proofs.Fits.{slab_inside, slabs_apart}

-- A swap that is done is of two slots below the mark.
pub swap_done : (mark a b : ℕ) → is_done (swap_answer mark a b) ≡ true → (a < mark) × (b < mark)
unfolding swap_answer
swap_done mark a b passed =
    let here = done_past (leb mark a) (Err (NoNode a)) _ refl passed in
    let there = done_past (leb mark b) (Err (NoNode b)) (done 0 0 0) refl here.1 in
    (leb-false mark a here.0, leb-false mark b there.0)

module _ (s : Store) (P : Parts s) (few : s.counters.nodemark ≤ 65536) where
  -- A step and a free slot that change places: the step's owner words name its new number, and the head follows the free slot.
  pub moved_parts : {slots' : List ℕ} {from to : ℕ} {m : NodeMeta} → FreeMoved s.slots slots' s.counters.nodemark from to m
      → from < s.counters.nodemark → to < s.counters.nodemark → slot_word s.slots from 1 ≡ 0 → node_entry s.slots to ≡ Node m
      → Parts
      (store_of slots' s.links (owners_written s.owners from m.first m.inlets m.outlets) s.heads
      (pick (eqb (slot_word s.slots from 0) 0) (free_slot_moved s.counters (to + 1)) s.counters))
  moved_parts {slots'} {from} {to} {m} moved lf lt free live = go (ℕ_discrete (slot_word s.slots from 0) 0)
    where
      mark : ℕ
      mark = s.counters.nodemark

      owners' : List ℕ
      owners' = owners_written s.owners from m.first m.inlets m.outlets

      two : from ≡ to → ⊥
      two e = live_says s.slots to m live (rw e at free)

      slot : LiveSlot (length s.heads) m
      slot = live_slot (slot_table s P) to m lt live

      rewritten : Rewritten s.owners owners' from m
      rewritten = owned_rewritten (P.owned to lt m live) from (omega arith) (omega arith) slot.fit (slab_inside s P to m lt live)

      says : (k : ℕ) → SaysAs s.slots (exchanged from to k) slots' k
      says = moved_says moved (slot_table s P) (chain_of s P) lf lt free live

      table : SlotTable slots' (length s.heads) mark s.counters.nodes
      table = table_exchange s.slots slots' from to mark lf lt two says (slot_table s P) moved.length_kept moved.above

      owned : (k : ℕ) → k < mark → (n : NodeMeta) → node_entry slots' k ≡ Node n → Owned owners' k n
      owned k l n is = at (ℕ_discrete k from) (ℕ_discrete k to)
        where
          at : Dec (k ≡ from) → Dec (k ≡ to) → Owned owners' k n
          at (yes e) d = rw (e, ← node_is (sym moved.here ∙ rw e at is)) rewritten.owned
          at (no nf) (yes e) = absurd (live_says slots' k n is (rw e moved.there.1))
          at (no nf) (no nt) =
              let was : node_entry s.slots k ≡ Node n =
              step_node (node_entry s.slots k) (node_entry slots' k) n (moved_alike moved (slot_table s P) (chain_of s P) lf lt free live k nf nt).step is
              in
              rewritten.others k n (P.owned k l n was) (live_slot (slot_table s P) k n l was).fit
              (slabs_apart s P to k m n lt l (λ e. nt (sym e)) live was)

      ports : PortTable s.links owners' s.heads s.counters.portmark (held_at slots' mark) s.counters.ports s.counters.links
      ports =
          table_held (table_renamed (port_table s P) owners' rewritten.length_kept rewritten.renamed)
          (λ p. sym (held_at_exchange s.slots slots' from to mark lf lt two says p))

      go : Dec (slot_word s.slots from 0 ≡ 0)
          → Parts (store_of slots' s.links owners' s.heads (pick (eqb (slot_word s.slots from 0) 0) (free_slot_moved s.counters (to + 1)) s.counters))
      go (yes z) =
          rw (eq-eqb _ _ z)
          (parts_by _ table (moved_head moved (slot_table s P) (chain_of s P) lf lt free live z) ports owned)
      go (no n) =
          rw (ne_eqb _ _ n)
          (parts_by _ table (moved_rest moved (slot_table s P) (chain_of s P) lf lt free live n) ports owned)

  -- Two steps that change places: the owner words of each name its new number.
  pub exchanged_parts : (a b : ℕ) (m n : NodeMeta) → a < s.counters.nodemark → b < s.counters.nodemark → (a ≡ b → ⊥)
      → node_entry s.slots a ≡ Node m → node_entry s.slots b ≡ Node n
      → Parts
      (store_of (set_entry (set_entry s.slots a (Node n)) b (Node m)) s.links
      (owners_written (owners_written s.owners a n.first n.inlets n.outlets) b m.first m.inlets m.outlets) s.heads s.counters)
  exchanged_parts a b m n la lb d here there =
      parts_by _ table chain ports owned
    where
      mark : ℕ
      mark = s.counters.nodemark

      slots₁ : List ℕ
      slots₁ = set_entry s.slots a (Node n)

      slots₂ : List ℕ
      slots₂ = set_entry slots₁ b (Node m)

      owners₁ : List ℕ
      owners₁ = owners_written s.owners a n.first n.inlets n.outlets

      owners₂ : List ℕ
      owners₂ = owners_written owners₁ b m.first m.inlets m.outlets

      slot_a : LiveSlot (length s.heads) m
      slot_a = live_slot (slot_table s P) a m la here

      slot_b : LiveSlot (length s.heads) n
      slot_b = live_slot (slot_table s P) b n lb there

      first : Rewritten s.owners owners₁ a n
      first = owned_rewritten (P.owned b lb n there) a (omega arith) (omega arith) slot_b.fit (slab_inside s P b n lb there)

      second : Rewritten owners₁ owners₂ b m
      second =
          owned_rewritten (first.others a m (P.owned a la m here) slot_a.fit (slabs_apart s P b a n m lb la (λ e. d (sym e)) there here)) b
          (omega arith) (omega arith) slot_a.fit (rw first.length_kept (slab_inside s P a m la here))

      room : length slots₁ ≡ length s.slots
      room = set_entry-length s.slots a (Node n)

      at_a : node_entry slots₂ a ≡ Node n
      at_a = entry_other slots₁ b a (Node m) d ∙ entry_same s.slots a (Node n) (omega (arith, P.node_room))

      at_b : node_entry slots₂ b ≡ Node m
      at_b = entry_same slots₁ b (Node m) (omega (arith, P.node_room, room))

      others : (k : ℕ) → (k ≡ a → ⊥) → (k ≡ b → ⊥) → SaysAs s.slots k slots₂ k
      others k na nb = alike_then (entry_alike s.slots a (Node n) k na) (entry_alike slots₁ b (Node m) k nb)

      says : (k : ℕ) → SaysAs s.slots (exchanged a b k) slots₂ k
      says =
          exchange_cases (λ j k. SaysAs s.slots j slots₂ k) a b
          (record { step = ap step_of (at_a ∙ sym there); fourth = (live_words slots₂ a n at_a).3 ∙ sym (live_words s.slots b n there).3 })
          (record { step = ap step_of (at_b ∙ sym here); fourth = (live_words slots₂ b m at_b).3 ∙ sym (live_words s.slots a m here).3 })
          others

      table : SlotTable slots₂ (length s.heads) mark s.counters.nodes
      table =
          table_exchange s.slots slots₂ a b mark la lb d says (slot_table s P) (set_entry-length slots₁ b (Node m) ∙ room)
          (λ i l. word_above slots₁ b (Node m) i (omega arith) ∙ word_above s.slots a (Node n) i (omega arith))

      chain : SlotChain slots₂ s.counters.freeslot mark
      chain = slot_chain_kept (chain_of s P) slots₂ mark (λ k. free k (ℕ_discrete k a) (ℕ_discrete k b)) (λ k l z. (word k 0 (omega arith) z, word k 2 (omega arith) z))
        where
          free : (k : ℕ) → Dec (k ≡ a) → Dec (k ≡ b) → free_one slots₂ mark k ≡ free_one s.slots mark k
          free k (yes e) dec = rw e (free_one_live slots₂ mark a (live_says slots₂ a n at_a) ∙ sym (free_one_live s.slots mark a (live_says s.slots a m here)))
          free k (no na) (yes e) =
              rw e (free_one_live slots₂ mark b (live_says slots₂ b m at_b) ∙ sym (free_one_live s.slots mark b (live_says s.slots b n there)))
          free k (no na) (no nb) = free_one_alike s.slots slots₂ mark k (others k na nb)

          word : (k j : ℕ) → j < width → slot_word s.slots k 1 ≡ 0 → slot_word slots₂ k j ≡ slot_word s.slots k j
          word k j b' z =
              entry_word slots₁ b (Node m) k j b' (λ e. live_says s.slots b n there (rw e at z)) ∙
              entry_word s.slots a (Node n) k j b' (λ e. live_says s.slots a m here (rw e at z))

      ports : PortTable s.links owners₂ s.heads s.counters.portmark (held_at slots₂ mark) s.counters.ports s.counters.links
      ports =
          table_held
          (table_renamed (port_table s P) owners₂ (second.length_kept ∙ first.length_kept) (λ p. same_port_then (first.renamed p) (second.renamed p)))
          (λ p. sym (held_at_exchange s.slots slots₂ a b mark la lb d says p))

      owned : (k : ℕ) → k < mark → (l : NodeMeta) → node_entry slots₂ k ≡ Node l → Owned owners₂ k l
      owned k low l is = at (ℕ_discrete k a) (ℕ_discrete k b)
        where
          at : Dec (k ≡ a) → Dec (k ≡ b) → Owned owners₂ k l
          at (yes e) dec =
              rw (e, ← node_is (sym at_a ∙ rw e at is)) (second.others a n first.owned slot_b.fit (slabs_apart s P a b m n la lb d here there))
          at (no na) (yes e) = rw (e, ← node_is (sym at_b ∙ rw e at is)) second.owned
          at (no na) (no nb) =
              let was : node_entry s.slots k ≡ Node l = step_node (node_entry s.slots k) (node_entry slots₂ k) l (others k na nb).step is in
              let fit : l.inlets + l.outlets ≤ l.capacity = (live_slot (slot_table s P) k l low was).fit in
              second.others k l (first.others k l (P.owned k low l was) fit (slabs_apart s P b k n l lb low (λ e. nb (sym e)) there was)) fit
              (slabs_apart s P a k m l la low (λ e. na (sym e)) here was)

  -- The store with two slots swapped has its parts.
  pub swapped_parts : (a b : ℕ) → a < s.counters.nodemark → b < s.counters.nodemark → Parts (swapped s a b)
  unfolding swapped swapped_slots swapped_owners swapped_counters arrived_slots arrived_owners arrived_counters
  swapped_parts a b la lb = go (node_entry s.slots a) (node_entry s.slots b) refl refl (ℕ_discrete a b)
    where
      by : NodeEntry → NodeEntry → Store
      by here there =
          record {
            slots = pick (stays a b here there) s.slots (arrived_slots (arrived_slots s.slots a there) b here);
            links = s.links;
            owners = pick (stays a b here there) s.owners (arrived_owners (arrived_owners s.owners a there) b here);
            heads = s.heads;
            counters = pick (stays a b here there) s.counters (arrived_counters (arrived_counters s.counters a there) b here);
          }

      go : (here there : NodeEntry) → node_entry s.slots a ≡ here → node_entry s.slots b ≡ there → Dec (a ≡ b) → Parts (by here there)
      go here there is-a is_b (yes e) = rw (eq-eqb a b e) P
      go (Free previous next) (Free previous' next') is-a is_b (no d) = rw (ne_eqb a b d) P
      go (Free previous next) (Node m) is-a is_b (no d) =
          let (z, w₀, w₂) = free_says s.slots a previous next is-a in
          rw (ne_eqb a b d, previous_word, next_word, ← w₀, ← w₂)
          (moved_parts (moved_after (slot_table s P) (chain_of s P) la lb z is_b) la lb z is_b)
      go (Node m) (Free previous next) is-a is_b (no d) =
          let (z, w₀, w₂) = free_says s.slots b previous next is_b in
          rw (ne_eqb a b d, previous_word, next_word, ← w₀, ← w₂)
          (moved_parts (moved_before (slot_table s P) (chain_of s P) lb la z is-a) lb la z is-a)
      go (Node m) (Node n) is-a is_b (no d) = rw (ne_eqb a b d) (exchanged_parts a b m n la lb d is-a is_b)

-- So a swap, done or refused, keeps a store sound.
pub swap_sound : (s : Store) → Shaped s → Sound s → (a b : ℕ) → Sound (swap_call s a b).store
unfolding swap_call
swap_sound s shaped sound a b =
    decided_store _ s (swapped s a b) [] Sound sound
    (λ done.
    let P = parts_of s shaped sound in
    let (la, lb) = swap_done s.counters.nodemark a b done in
    sound_of (swapped s a b) (swapped_parts s P (omega (arith, P.node_room, shaped.whole, shaped.few_slots)) a b la lb))
