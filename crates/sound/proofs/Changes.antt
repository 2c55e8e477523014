-- One step changes: what a resize may count on, how its slot changes the sums over the slots, and what it leaves of the ports that it removes.
use Prim.Native.Nat.{ℕ, ◌+◌, ◌-◌, ◌≤◌, ◌<◌}
use mathlib.Core.List.{List}
use mathlib.Core.Logic.{◌⊎◌, inl, inr}
use mathlib.Core.Path.{◌≡◌, sym, ◌∙◌}
use mathlib.Core.Bool.{true, false}
use native.Mathlib.Nat.{add_assoc, min-le_right, sub-add-min_cancel}
use native.Mathlib.Omega.{arith}
use native.Mathlib.Decide.{ℕ_discrete, dec_lt, dec_le}
use lib.ListN.{length, get_or}
use Rattle.slabs.specs.PortEntry.{owner_word}
use Rattle.slabs.specs.NodeEntry.{node_entry, set_entry}
use Rattle.slabs.specs.Links.{Wiring, pairs, cut_run}
use Rattle.slabs.specs.Slab.{at_hand, filled}
use Rattle.slabs.specs.Slabs.{in_slab, Slabs}
use Rattle.slabs.specs.declared.node_entry.NodeMeta.{NodeMeta}
use Rattle.slabs.specs.declared.node_entry.NodeEntry.TheVariants.{Node}
use Rattle.slabs.proofs.EntryLaws.{set_entry-length, word_above, entry_same}
use Rattle.slabs.proofs.Shapes.{cut_run-length, filled-length}
use Rattle.slabs.proofs.FillLaws.{filled_in, filled_apart}
use Rattle.slabs.proofs.WireLaws.{cut_run_in, cut_run_fewer, cut_run_still, cut_run_wiring, cut_run_pairs}
use Rattle.slabs.proofs.SlabLaws.{in_slab_at, in_slab_yes, in_slab_each}
use Rattle.slabs.proofs.HeldLaws.{filled_wired, written_wiring, written_pairs}
use Rattle.edits.specs.Store.{Store}
use Rattle.edits.specs.Steps.{most}
use Rattle.renumber.specs.Resize.{is_in_place, new_size, inlets_kept, outlets_kept, inlets_removed, outlets_removed, inlets_from, outlets_from, cut_inlets, cut_removed, cut_wires}
use Rattle.renumber.specs.declared.resize.Change.{Change}
use Rattle.sound.specs.Sound.{LiveSlot, held_at, held_in, Owned}
use Rattle.edits.specs.Counts.{live_ports}
use Rattle.sound.proofs.Parts.{Parts, slot_table, chain_of, parts_by, unheld}
use Rattle.sound.proofs.Fits.{slab_ends, slabs_apart}
use Rattle.sound.proofs.SlotLaws.{slab_held, live_says, step_node, held_at_change, free_one, free_one_alike, Alike, node_is}
use Rattle.sound.proofs.FreeSlotLaws.{SlotChain, free_one_live, entry_alike, entry_word, slot_chain_kept}
use Rattle.sound.proofs.OwnerLaws.{owned_kept}
use Rattle.sound.proofs.SlotTable.{SlotTable, live_slot, table_change}
use Rattle.sound.proofs.MoveLaws.{dead_loose}

-- nothing refuses this change of a live step
pub record Granted (s : Store) (ch : Change) : Type 0 where
  pub below : ch.node < s.counters.nodemark
  pub is : node_entry s.slots ch.node ≡ Node ch.meta
  pub few_inlets : ch.inlets ≤ most
  pub few_outlets : ch.outlets ≤ most
  pub sized : is_in_place ch ≡ false → new_size ch ≤ length s.heads
  pub slab : is_in_place ch ≡ false → at_hand s.heads s.counters.portmark (length s.links) (new_size ch) ≡ true

-- The ports of a step are those kept and those removed; no more are kept than it shall have.
pub record Keeps (ch : Change) : Type 0 where
  pub inlets : inlets_kept ch + inlets_removed ch ≡ ch.meta.inlets
  pub outlets : outlets_kept ch + outlets_removed ch ≡ ch.meta.outlets
  pub few_inlets : inlets_kept ch ≤ ch.inlets
  pub few_outlets : outlets_kept ch ≤ ch.outlets

-- So it is of every change.
pub keeps : (ch : Change) → Keeps ch
keeps ch =
    record {
      inlets = omega (arith, sub-add-min_cancel ch.meta.inlets ch.inlets);
      outlets = omega (arith, sub-add-min_cancel ch.meta.outlets ch.outlets);
      few_inlets = min-le_right ch.meta.inlets ch.inlets;
      few_outlets = min-le_right ch.meta.outlets ch.outlets;
    }

-- the owner words where nobody owns the removed ports
unfoldable pub bared : List ℕ → Change → List ℕ
bared owners ch = filled (filled owners (inlets_from ch) (inlets_removed ch) 0) (outlets_from ch) (outlets_removed ch) 0

-- the kept ports of a step, and no other, are live in the slab of this size from first on: its inlets, and its outlets after so many
pub record KeptIn (owners : List ℕ) (ch : Change) (first inlets size : ℕ) : Type 0 where
  pub inlet : (i : ℕ) → i < inlets_kept ch → get_or owners (first + i) 0 ≡ owner_word ch.node 0
  pub outlet : (i : ℕ) → i < outlets_kept ch → get_or owners (first + inlets + i) 0 ≡ owner_word ch.node 1
  pub rest : (i : ℕ) → i < size → inlets_kept ch ≤ i → (inlets ≤ i → i < inlets + outlets_kept ch → ⊥) → get_or owners (first + i) 0 ≡ 0

-- Where they are among the new ports, the owner words of the step as it shall be are theirs at each port with a wire.
pub kept_agree : {owners owners' links : List ℕ} {ch : Change} {first size : ℕ} {held : ℕ → ℕ} → KeptIn owners ch first ch.inlets size
    → Owned owners' ch.node (record { first = first; inlets = ch.inlets; outlets = ch.outlets; capacity = size })
    → Wiring owners links held → ((i : ℕ) → i < size → 1 ≤ held (first + i))
    → (p : ℕ) → 1 ≤ in_slab first size p → (get_or links p 0 ≡ 0 → ⊥) → get_or owners' p 0 ≡ get_or owners p 0
kept_agree {owners} {owners'} {links} {ch} {first} {size} kept owned wiring held =
    in_slab_each (λ p. (get_or links p 0 ≡ 0 → ⊥) → get_or owners' p 0 ≡ get_or owners p 0) first size
    (λ i l wired. at i l wired (dec_lt i (inlets_kept ch)) (dec_le ch.inlets i) (dec_lt i (ch.inlets + outlets_kept ch)))
  where
    none : (i : ℕ) → i < size → (get_or links (first + i) 0 ≡ 0 → ⊥) → get_or owners (first + i) 0 ≡ 0 → ⊥
    none i l wired dead = wired (dead_loose wiring (first + i) (held i l) dead)

    at : (i : ℕ) → i < size → (get_or links (first + i) 0 ≡ 0 → ⊥) → Dec (i < inlets_kept ch) → Dec (ch.inlets ≤ i) → Dec (i < ch.inlets + outlets_kept ch)
        → get_or owners' (first + i) 0 ≡ get_or owners (first + i) 0
    at i l wired (yes a) b c = owned.inlets_owned i (omega (arith, keeps ch)) ∙ sym (kept.inlet i a)
    at i l wired (no a) (yes b) (yes c) =
        let e : first + i ≡ first + ch.inlets + (i - ch.inlets) = omega arith in
        rw e (owned.outlets_owned (i - ch.inlets) (omega (arith, keeps ch)) ∙ sym (kept.outlet (i - ch.inlets) (omega arith)))
    at i l wired (no a) (yes b) (no c) = absurd (none i l wired (kept.rest i l (omega arith) (λ u v. c v)))
    at i l wired (no a) (no b) c = absurd (none i l wired (kept.rest i l (omega arith) (λ u v. b u)))

-- What a step's slab is at rest: it fits, each of its ports is held, it ends at the mark or below it, and its owner words are its own.
pub record Rests (s : Store) (k : ℕ) (m : NodeMeta) : Type 0 where
  pub slot : LiveSlot (length s.heads) m
  pub held : (i : ℕ) → i < m.capacity → 1 ≤ held_in s (m.first + i)
  pub ends : m.first + m.capacity ≤ s.counters.portmark
  pub owned : Owned s.owners k m

-- A live slot of a sound store has such a slab.
pub rests : (s : Store) → Parts s → (k : ℕ) (m : NodeMeta) → k < s.counters.nodemark → node_entry s.slots k ≡ Node m → Rests s k m
rests s P k m l is =
    record {
      slot = live_slot (slot_table s P) k m l is;
      held = hold;
      ends = slab_ends s P k m l is;
      owned = P.owned k l m is;
    }
  where
    hold : (i : ℕ) → i < m.capacity → 1 ≤ held_in s (m.first + i)
    hold i b = omega (arith, slab_held s.slots s.counters.nodemark k m (m.first + i) l is, in_slab_at m.first m.capacity i b)

module _ (s : Store) (P : Parts s) (ch : Change) (rest : Rests s ch.node ch.meta) where
  held_inlets : (i : ℕ) → i < inlets_removed ch → 1 ≤ held_in s (inlets_from ch + i)
  held_inlets i l =
      rw (add_assoc) (rest.held (inlets_kept ch + i) (omega (arith, keeps ch, rest.slot.fit)))

  held_outlets : (i : ℕ) → i < outlets_removed ch → 1 ≤ held_in s (outlets_from ch + i)
  held_outlets i l =
      let e : outlets_from ch + i ≡ ch.meta.first + (ch.meta.inlets + outlets_kept ch + i) = omega arith in
      rw e (rest.held (ch.meta.inlets + outlets_kept ch + i) (omega (arith, keeps ch, rest.slot.fit)))

  first_wiring : Wiring s.owners (cut_inlets s.links ch) (held_in s)
  unfolding cut_inlets
  first_wiring = cut_run_wiring s.owners s.links (held_in s) P.wiring P.slabs.bare (inlets_from ch) (inlets_removed ch) held_inlets

  -- Once the removed ports are cut, rule 6 is true of what is held,
  pub cut_wiring : Wiring s.owners (cut_removed s.links ch) (held_in s)
  unfolding cut_removed
  cut_wiring = cut_run_wiring s.owners (cut_inlets s.links ch) (held_in s) first_wiring P.slabs.bare (outlets_from ch) (outlets_removed ch) held_outlets

  -- the wires are fewer by those that are cut,
  pub cut_pairs : pairs s.owners (cut_removed s.links ch) s.counters.portmark + cut_wires s.links ch
      ≡ pairs s.owners s.links s.counters.portmark
  unfolding cut_removed cut_inlets cut_wires
  cut_pairs =
      omega (
        arith,
        cut_run_pairs s.owners s.links (held_in s) P.wiring P.slabs.bare (inlets_from ch) (inlets_removed ch) held_inlets s.counters.portmark
            (unheld s P),
        cut_run_pairs s.owners (cut_run s.links (inlets_from ch) (inlets_removed ch)) (held_in s) first_wiring P.slabs.bare (outlets_from ch)
            (outlets_removed ch) held_outlets s.counters.portmark (unheld s P),
      )

  -- the ports that nobody holds have the words that they had,
  pub cut_still : (p : ℕ) → held_in s p ≡ 0 → get_or (cut_removed s.links ch) p 0 ≡ get_or s.links p 0
  unfolding cut_removed cut_inlets
  cut_still p h =
      cut_run_still s.owners (cut_run s.links (inlets_from ch) (inlets_removed ch)) (held_in s) first_wiring P.slabs.bare (outlets_from ch)
      (outlets_removed ch) held_outlets p h
      ∙ cut_run_still s.owners s.links (held_in s) P.wiring P.slabs.bare (inlets_from ch) (inlets_removed ch) held_inlets p h

-- the table is as long,
pub cut_length : (links : List ℕ) (ch : Change) → length (cut_removed links ch) ≡ length links
unfolding cut_removed cut_inlets
cut_length links ch =
    cut_run-length (cut_run links (inlets_from ch) (inlets_removed ch)) (outlets_from ch) (outlets_removed ch)
    ∙ cut_run-length links (inlets_from ch) (inlets_removed ch)

-- and no removed inlet has a wire.
pub cut_inlet : (links : List ℕ) (ch : Change) (i : ℕ) → i < inlets_removed ch → get_or (cut_removed links ch) (inlets_from ch + i) 0 ≡ 0
unfolding cut_removed cut_inlets
cut_inlet links ch i l = go (cut_run_fewer (cut_run links (inlets_from ch) (inlets_removed ch)) (outlets_from ch) (outlets_removed ch) (inlets_from ch + i))
  where
    go : {v : ℕ} → (v ≡ 0) ⊎ (v ≡ get_or (cut_run links (inlets_from ch) (inlets_removed ch)) (inlets_from ch + i) 0) → v ≡ 0
    go (inl e) = e
    go (inr e) = e ∙ cut_run_in links (inlets_from ch) (inlets_removed ch) i l

-- No removed outlet has one either.
pub cut_outlet : (links : List ℕ) (ch : Change) (i : ℕ) → i < outlets_removed ch → get_or (cut_removed links ch) (outlets_from ch + i) 0 ≡ 0
unfolding cut_removed cut_inlets
cut_outlet links ch i l = cut_run_in (cut_run links (inlets_from ch) (inlets_removed ch)) (outlets_from ch) (outlets_removed ch) i l

-- Whose the removed ports were is nothing to the wires that are left.
pub bared_wired : (owners links : List ℕ) (ch : Change) (p : ℕ) → (get_or (cut_removed links ch) p 0 ≡ 0 → ⊥)
    → get_or (bared owners ch) p 0 ≡ get_or owners p 0
unfolding bared
bared_wired owners links ch p wired =
    filled_wired (filled owners (inlets_from ch) (inlets_removed ch) 0) (cut_removed links ch) (outlets_from ch) (outlets_removed ch) 0 (cut_outlet links ch) p wired
    ∙ filled_wired owners (cut_removed links ch) (inlets_from ch) (inlets_removed ch) 0 (cut_inlet links ch) p wired

-- The table of owners is as long.
pub bared_length : (owners : List ℕ) (ch : Change) → length (bared owners ch) ≡ length owners
unfolding bared
bared_length owners ch =
    filled-length (filled owners (inlets_from ch) (inlets_removed ch) 0) (outlets_from ch) (outlets_removed ch) 0
    ∙ filled-length owners (inlets_from ch) (inlets_removed ch) 0

module _ (owners : List ℕ) (ch : Change) where
  -- A port below the removed ones, between them or above them keeps its owner word,
  bared_apart : (p : ℕ) → ((i : ℕ) → i < inlets_removed ch → p ≡ inlets_from ch + i → ⊥)
      → ((i : ℕ) → i < outlets_removed ch → p ≡ outlets_from ch + i → ⊥)
      → get_or (bared owners ch) p 0 ≡ get_or owners p 0
  unfolding bared
  bared_apart p a b =
      filled_apart (filled owners (inlets_from ch) (inlets_removed ch) 0) (outlets_from ch) (outlets_removed ch) 0 p b
      ∙ filled_apart owners (inlets_from ch) (inlets_removed ch) 0 p a

  -- and so does one outside the slab.
  pub bared_outside : (p : ℕ) → ch.meta.inlets + ch.meta.outlets ≤ ch.meta.capacity
      → in_slab ch.meta.first ch.meta.capacity p ≡ 0 → get_or (bared owners ch) p 0 ≡ get_or owners p 0
  bared_outside p fit out =
      bared_apart p
      (λ i l e. omega (arith, keeps ch, in_slab_yes ch.meta.first ch.meta.capacity p (omega arith) (omega (arith, keeps ch))))
      (λ i l e. omega (arith, keeps ch, in_slab_yes ch.meta.first ch.meta.capacity p (omega arith) (omega (arith, keeps ch))))

  module _ (owned : Owned owners ch.node ch.meta) (fit : ch.meta.inlets + ch.meta.outlets ≤ ch.meta.capacity)
      (inside : ch.meta.first + ch.meta.capacity ≤ length owners) where
    -- Nobody owns a port of the slab that is not kept,
    bared_rest : (i : ℕ) → i < ch.meta.capacity → inlets_kept ch ≤ i → (ch.meta.inlets ≤ i → i < ch.meta.inlets + outlets_kept ch → ⊥)
        → get_or (bared owners ch) (ch.meta.first + i) 0 ≡ 0
    unfolding bared
    bared_rest i l a b = go (dec_lt i ch.meta.inlets) (dec_lt i (ch.meta.inlets + ch.meta.outlets))
      where
        go : Dec (i < ch.meta.inlets) → Dec (i < ch.meta.inlets + ch.meta.outlets) → get_or (bared owners ch) (ch.meta.first + i) 0 ≡ 0
        go (yes x) d =
            let e : ch.meta.first + i ≡ inlets_from ch + (i - inlets_kept ch) = omega arith in
            filled_apart (filled owners (inlets_from ch) (inlets_removed ch) 0) (outlets_from ch) (outlets_removed ch) 0 (ch.meta.first + i) (λ j c f. omega arith)
            ∙ rw e (filled_in owners (inlets_from ch) (inlets_removed ch) 0 (i - inlets_kept ch) (omega (arith, keeps ch)) (omega (arith, keeps ch)))
        go (no x) (yes y) =
            let low : i < ch.meta.inlets + outlets_kept ch → ⊥ = b (omega arith) in
            let e : ch.meta.first + i ≡ outlets_from ch + (i - ch.meta.inlets - outlets_kept ch) = omega arith in
            rw e
            (filled_in (filled owners (inlets_from ch) (inlets_removed ch) 0) (outlets_from ch) (outlets_removed ch) 0 (i - ch.meta.inlets - outlets_kept ch)
            (omega (arith, keeps ch)) (omega (arith, keeps ch, filled-length owners (inlets_from ch) (inlets_removed ch) 0)))
        go (no x) (no y) =
            bared_apart (ch.meta.first + i) (λ j c e. omega (arith, keeps ch)) (λ j c e. omega (arith, keeps ch))
            ∙ owned.spare_unowned i (omega arith) l

    -- and those that are kept are where they were.
    pub bared_kept : KeptIn (bared owners ch) ch ch.meta.first ch.meta.inlets ch.meta.capacity
    bared_kept =
        record {
          inlet = λ i l.
              bared_apart (ch.meta.first + i) (λ j b e. omega arith) (λ j b e. omega (arith, keeps ch))
              ∙ owned.inlets_owned i (omega (arith, keeps ch));
          outlet = λ i l.
              bared_apart (ch.meta.first + ch.meta.inlets + i) (λ j b e. omega (arith, keeps ch)) (λ j b e. omega arith)
              ∙ owned.outlets_owned i (omega (arith, keeps ch));
          rest = bared_rest;
        }

module _ (s : Store) (P : Parts s) (ch : Change) (below : ch.node < s.counters.nodemark)
    (is : node_entry s.slots ch.node ≡ Node ch.meta) where
  -- A port that nobody holds is none of the step's slab.
  pub unheld_outside : (p : ℕ) → held_in s p ≡ 0 → in_slab ch.meta.first ch.meta.capacity p ≡ 0
  unheld_outside p h = omega (arith, slab_held s.slots s.counters.nodemark ch.node ch.meta p below is)

  -- Where the removed ports are cut and nobody's, nobody owns a port that nobody holds,
  pub bared_bare : (p : ℕ) → held_in s p ≡ 0 → get_or (bared s.owners ch) p 0 ≡ 0
  bared_bare p h =
      bared_outside s.owners ch p (rests s P ch.node ch.meta below is).slot.fit (unheld_outside p h) ∙ P.slabs.bare p h

  -- and rule 6 is true of what is held.
  pub bared_wiring : Wiring (bared s.owners ch) (cut_removed s.links ch) (held_in s)
  bared_wiring =
      written_wiring s.owners (bared s.owners ch) (cut_removed s.links ch) (bared_wired s.owners s.links ch)
      (cut_wiring s P ch (rests s P ch.node ch.meta below is))

-- The wires are as many.
pub bared_pairs : (owners links : List ℕ) (ch : Change) (m : ℕ)
    → pairs (bared owners ch) (cut_removed links ch) m ≡ pairs owners (cut_removed links ch) m
bared_pairs owners links ch m = written_pairs owners (bared owners ch) (cut_removed links ch) (bared_wired owners links ch) m

-- Slot k, a step's, says something else of the step: rules 1, 2, 3 and 7, and what it holds; each other step is there still.
pub record Reslotted (slots slots' : List ℕ) (heads mark head nodes k : ℕ) (m m' : NodeMeta) : Type 0 where
  pub table : SlotTable slots' heads mark nodes
  pub chain : SlotChain slots' head mark
  pub here : node_entry slots' k ≡ Node m'
  pub held : (p : ℕ) → held_at slots' mark p + in_slab m.first m.capacity p ≡ held_at slots mark p + in_slab m'.first m'.capacity p
  pub was : (j : ℕ) (n : NodeMeta) → (j ≡ k → ⊥) → node_entry slots' j ≡ Node n → node_entry slots j ≡ Node n

-- A live entry that fits can be written over a live slot.
pub reslot : (s : Store) → Parts s → (k : ℕ) (m m' : NodeMeta) → k < s.counters.nodemark → node_entry s.slots k ≡ Node m
    → LiveSlot (length s.heads) m'
    → Reslotted s.slots (set_entry s.slots k (Node m')) (length s.heads) s.counters.nodemark s.counters.freeslot s.counters.nodes k m m'
reslot s P k m m' l is fits =
    record {
      table =
          table_change (slot_table s P) slots' s.counters.nodes k l others (set_entry-length slots k (Node m'))
          (λ i h. word_above slots k (Node m') i (omega arith)) (rw here fits) (rw (is, here));
      chain =
          slot_chain_kept (chain_of s P) slots' mark (λ j. free j (ℕ_discrete j k))
          (λ j b z. let d : j ≡ k → ⊥ = λ e. live_says slots k m is (rw (← e) z) in
          (entry_word slots k (Node m') j 0 (omega arith) d, entry_word slots k (Node m') j 2 (omega arith) d));
      here = here;
      held = λ p. let change = held_at_change slots slots' k others mark p l in rw (is, here) at change;
      was = λ j n d e. step_node (node_entry slots j) (node_entry slots' j) n (others j d).step e;
    }
  where
    slots : List ℕ
    slots = s.slots

    slots' : List ℕ
    slots' = set_entry s.slots k (Node m')

    mark : ℕ
    mark = s.counters.nodemark

    others : (j : ℕ) → (j ≡ k → ⊥) → Alike slots slots' j
    others = entry_alike slots k (Node m')

    here : node_entry slots' k ≡ Node m'
    here = entry_same slots k (Node m') (omega (arith, P.node_room))

    free : (j : ℕ) → Dec (j ≡ k) → free_one slots' mark j ≡ free_one slots mark j
    free j (yes e) =
        rw e (free_one_live slots' mark k (live_says slots' k m' here) ∙ sym (free_one_live slots mark k (live_says slots k m is)))
    free j (no d) = free_one_alike slots slots' mark j (others j d)

-- the store of a step that has changed
abbrev pub changed_store : Store → ℕ → NodeMeta → List ℕ → List ℕ → List ℕ → ℕ → ℕ → ℕ → Store
changed_store s k m' links' owners' heads' mark' ports' wires' =
    record {
      slots = set_entry s.slots k (Node m');
      links = links';
      owners = owners';
      heads = heads';
      counters =
          record {
            nodemark = s.counters.nodemark;
            portmark = mark';
            freeslot = s.counters.freeslot;
            nodes = s.counters.nodes;
            ports = ports';
            links = wires';
          };
    }

-- A step changes its slab: the store is sound where its new slab has no port of another step, the slab part, rules 5 and 6 are true of
-- the new tables, and the ports and wires are counted.
pub changed_parts : (s : Store) → Parts s → (k : ℕ) (m m' : NodeMeta) → k < s.counters.nodemark → node_entry s.slots k ≡ Node m
    → LiveSlot (length s.heads) m'
    → (links' owners' heads' : List ℕ) (mark' ports' wires' : ℕ) → length heads' ≡ length s.heads
    → ((p : ℕ) → 1 ≤ in_slab m'.first m'.capacity p → in_slab m.first m.capacity p ≡ 0 → held_in s p ≡ 0)
    → ((p : ℕ) → in_slab m.first m.capacity p ≡ 0 → in_slab m'.first m'.capacity p ≡ 0 → get_or owners' p 0 ≡ get_or s.owners p 0)
    → Owned owners' k m'
    → Slabs links' owners' heads' mark' (held_at (set_entry s.slots k (Node m')) s.counters.nodemark)
    → Wiring owners' links' (held_at (set_entry s.slots k (Node m')) s.counters.nodemark)
    → ports' ≡ live_ports owners' mark'
    → wires' ≡ pairs owners' links' mark'
    → Parts (changed_store s k m' links' owners' heads' mark' ports' wires')
changed_parts s P k m m' l is fits links' owners' heads' mark' ports' wires' len fresh same here slabs wiring ports wires =
    parts_by (changed_store s k m' links' owners' heads' mark' ports' wires') (rw len slot.table) slot.chain
    (record { slabs = slabs; wiring = wiring; ports_counted = ports; wires_counted = wires }) (λ j b n e. owned j b n e (ℕ_discrete j k))
  where
    slot : Reslotted s.slots (set_entry s.slots k (Node m')) (length s.heads) s.counters.nodemark s.counters.freeslot s.counters.nodes k m m'
    slot = reslot s P k m m' l is fits

    owned : (j : ℕ) → j < s.counters.nodemark → (n : NodeMeta) → node_entry (set_entry s.slots k (Node m')) j ≡ Node n → Dec (j ≡ k) → Owned owners' j n
    owned j b n e (yes d) = rw (d, ← node_is (sym slot.here ∙ rw d at e)) here
    owned j b n e (no d) =
        let was = slot.was j n d e in
        let rest = rests s P j n b was in
        owned_kept rest.owned owners' rest.slot.fit (λ p h. there p h was)
      where
        there : (p : ℕ) → 1 ≤ in_slab n.first n.capacity p → node_entry s.slots j ≡ Node n → get_or owners' p 0 ≡ get_or s.owners p 0
        there p h was =
            let held : 1 ≤ held_in s p = omega (arith, slab_held s.slots s.counters.nodemark j n p b was) in
            let out : in_slab m.first m.capacity p ≡ 0 = omega (arith, slabs_apart s P k j m n l b (λ f. d (sym f)) is was p) in
            let new : 1 ≤ in_slab m'.first m'.capacity p → ⊥ = λ x. omega (arith, fresh p x out) in
            same p out (omega arith)
