-- The compaction of nodes keeps a store sound: each live slot goes down to the number of live slots below it, with its slab, and the owner
-- words of its ports follow.
use Prim.Native.Nat.{ℕ, suc, zero, ◌+◌, ◌-◌, ◌*◌, ◌≤◌, ◌<◌}
use mathlib.Core.Path.{◌≡◌, refl, sym, ap, ◌∙◌}
use mathlib.Core.List.{List, []}
use native.Mathlib.Omega.{arith}
use native.Mathlib.Decide.{ℕ_discrete, dec_lt}
use lib.ListN.{length, get_or}
use Rattle.slabs.specs.NodeEntry.{width, slot_word, node_entry, set_entry}
use Rattle.slabs.specs.Sums.{sum}
use Rattle.slabs.specs.Slab.{owners_written, filled}
use Rattle.slabs.specs.declared.node_entry.NodeMeta.{NodeMeta}
use Rattle.slabs.specs.declared.node_entry.NodeEntry.{NodeEntry}
use Rattle.slabs.specs.declared.node_entry.NodeEntry.TheVariants.{Free, Node}
use Rattle.slabs.proofs.SumLaws.{sum_ext}
use Rattle.slabs.proofs.FillLaws.{filled_in, filled_below, filled_above}
use Rattle.slabs.proofs.EntryLaws.{word_above, entry_same, entry_ext, entry_other}
use Rattle.edits.specs.Store.{Store, on_node}
use Rattle.edits.specs.Counts.{some, live_slots}
use Rattle.renumber.specs.Compact.{packed_slots, renamed_owners, compacted_slots, nodes_compacted}
use Rattle.calls.specs.Call.{compact_nodes_call}
use Rattle.sound.specs.Sound.{Shaped, Sound, Owned, held_at, held_in}
use Rattle.sound.proofs.Parts.{Parts, parts_of, sound_of, slot_table, port_table, parts_by}
use Rattle.sound.proofs.Fits.{few_nodes, slab_inside, slabs_apart}
use Rattle.sound.proofs.RenameLaws.{Renamed, same_port, same_port_then}
use Rattle.sound.proofs.SlotLaws.{slab_of, free_one, entry_live, live_says, live_slots_raise, held_at_raise, node_is, free_node}
use Rattle.sound.proofs.OwnerLaws.{Rewritten, owned_rewritten}
use Rattle.sound.proofs.CountLaws.{some_le, sum_past, sum_low, sum_onto, sum_ones, some_none, some_one}
use Rattle.sound.proofs.Shapes.{SameShape, packed_length, nodes_shape}
use Rattle.sound.proofs.Kept.{decided_store}
use Rattle.sound.proofs.ChainLaws.{none_on}
use Rattle.sound.proofs.FreeSlotLaws.{free_one_live, free_one_above}
use Rattle.sound.proofs.SlotTable.{live_slot}
use Rattle.sound.proofs.PortTable.{table_held, table_renamed}

-- Slots below the mark that say the same hold the same ports.
pub held_at_ext : (slots slots' : List ℕ) (mark p : ℕ) → ((k : ℕ) → k < mark → node_entry slots' k ≡ node_entry slots k) → held_at slots' mark p ≡ held_at slots mark p
unfolding held_at
held_at_ext slots slots' mark p same = sum_ext _ _ mark (λ k l. ap (λ e. slab_of e p) (same k l))

module _ (slots : List ℕ) where
  -- A live slot's new number is no greater than its old one,
  pub slot_low : (k : ℕ) → live_slots slots k ≤ k
  unfolding live_slots
  slot_low k = sum_low (λ j. some (slot_word slots j 1)) (λ j. some_le (slot_word slots j 1)) k

  -- and less than that of any later slot.
  pub slot_past : (j k : ℕ) (m : NodeMeta) → node_entry slots j ≡ Node m → j < k → live_slots slots j < live_slots slots k
  unfolding live_slots
  slot_past j k m is l = sum_past (λ i. some (slot_word slots i 1)) j k (some_one (slot_word slots j 1) (live_says slots j m is)) l

  -- One step of the packing: a free slot is passed over,
  packed_free : (k previous next : ℕ) → node_entry slots k ≡ Free previous next → packed_slots slots (suc k) ≡ packed_slots slots k
  unfolding packed_slots
  packed_free k previous next is = rw is

  -- and a live one goes down.
  packed_live : (k : ℕ) (m : NodeMeta) → node_entry slots k ≡ Node m
      → packed_slots slots (suc k) ≡ set_entry (packed_slots slots k) (live_slots slots k) (Node m)
  unfolding packed_slots
  packed_live k m is = rw is

  -- What holds of both steps holds of a step.
  packed_cases : (P : List ℕ → ℕ → Type 0) (k : ℕ) → ((previous next : ℕ) → node_entry slots k ≡ Free previous next → P (packed_slots slots k) (live_slots slots k))
      → ((m : NodeMeta) → node_entry slots k ≡ Node m → P (set_entry (packed_slots slots k) (live_slots slots k) (Node m)) (suc (live_slots slots k)))
      → P (packed_slots slots (suc k)) (live_slots slots (suc k))
  packed_cases P k free live = go (node_entry slots k) refl
    where
      go : (e : NodeEntry) → node_entry slots k ≡ e → P (packed_slots slots (suc k)) (live_slots slots (suc k))
      go (Node m) is =
          let e : live_slots slots (suc k) ≡ suc (live_slots slots k) = rw (live_slots_raise slots k, is) (omega arith) in
          rw (e, packed_live k m is) (live m is)
      go (Free previous next) is =
          let e : live_slots slots (suc k) ≡ live_slots slots k = rw (live_slots_raise slots k, is) (omega arith) in
          rw (e, packed_free k previous next is) (free previous next is)

  -- The words of slots that have not gone down are as they were.
  pub packed_above : (k i : ℕ) → width * k ≤ i → get_or (packed_slots slots k) i 0 ≡ get_or slots i 0
  unfolding packed_slots
  packed_above zero i h = refl
  packed_above (suc k) i h =
      let below : get_or (packed_slots slots k) i 0 ≡ get_or slots i 0 = packed_above k i (omega arith) in
      packed_cases (λ t n. get_or t i 0 ≡ get_or slots i 0) k (λ previous next is. below)
      (λ m is. word_above (packed_slots slots k) (live_slots slots k) (Node m) i (omega (arith, slot_low k)) ∙ below)

  -- A live slot that has gone down says at its new number what it said.
  pub packed_entry : (k j : ℕ) (m : NodeMeta) → width * k ≤ length slots → j < k → node_entry slots j ≡ Node m
      → node_entry (packed_slots slots k) (live_slots slots j) ≡ Node m
  packed_entry zero j m room l is = absurd (omega arith)
  packed_entry (suc k) j m room l is = go (ℕ_discrete j k) (λ b. packed_entry k j m (omega arith) b is)
    where
      go : Dec (j ≡ k) → (j < k → node_entry (packed_slots slots k) (live_slots slots j) ≡ Node m)
          → node_entry (packed_slots slots (suc k)) (live_slots slots j) ≡ Node m
      go (yes e) below =
          let here : node_entry slots k ≡ Node m = rw e at is in
          rw (e, packed_live k m here)
          (entry_same (packed_slots slots k) (live_slots slots k) (Node m) (omega (arith, slot_low k, packed_length slots k)))
      go (no d) below =
          packed_cases (λ t n. node_entry t (live_slots slots j) ≡ Node m) k (λ previous next here. below (omega arith))
          (λ n here.
          entry_other (packed_slots slots k) (live_slots slots k) (live_slots slots j) (Node n) (omega (arith, slot_past j k m is (omega arith)))
          ∙ below (omega arith))

  -- So the slots that have gone down hold what they held.
  pub packed_held : (k p : ℕ) → width * k ≤ length slots → held_at (packed_slots slots k) (live_slots slots k) p ≡ held_at slots k p
  unfolding held_at live_slots sum
  packed_held zero p room = refl
  packed_held (suc k) p room =
      let below : held_at (packed_slots slots k) (live_slots slots k) p ≡ held_at slots k p = packed_held k p (omega arith) in
      packed_cases (λ t n. held_at t n p ≡ held_at slots (suc k) p) k
      (λ previous next is. rw (held_at_raise slots k p, is) (omega arith))
      (λ m is.
      let t : List ℕ = set_entry (packed_slots slots k) (live_slots slots k) (Node m) in
      let here : node_entry t (live_slots slots k) ≡ Node m =
      entry_same (packed_slots slots k) (live_slots slots k) (Node m) (omega (arith, slot_low k, packed_length slots k)) in
      let rest : held_at t (live_slots slots k) p ≡ held_at (packed_slots slots k) (live_slots slots k) p =
      held_at_ext (packed_slots slots k) t (live_slots slots k) p (λ j l. entry_other (packed_slots slots k) (live_slots slots k) j (Node m) (omega arith)) in
      rw (held_at_raise t (live_slots slots k) p, held_at_raise slots k p, is, here) (omega arith))

-- a live slot below the mark that gets the number k
pub record CameTo (slots : List ℕ) (mark k : ℕ) : Type 0 where
  pub from : ℕ
  pub meta : NodeMeta
  pub below : from < mark
  pub is : node_entry slots from ≡ Node meta
  pub to : live_slots slots from ≡ k

-- Each number below the count of live slots is one's.
pub slot_onto : (slots : List ℕ) (mark k : ℕ) → k < live_slots slots mark → CameTo slots mark k
unfolding live_slots
slot_onto slots mark k l =
    let (j, b, one, e) = sum_onto (λ i. some (slot_word slots i 1)) (λ i. some_le (slot_word slots i 1)) mark k l in
    record {
      from = j;
      meta = _;
      below = b;
      is = entry_live slots j (λ z. omega (arith, some_none (slot_word slots j 1) z));
      to = e;
    }

module _ (slots : List ℕ) (mark : ℕ) (room : width * mark ≤ length slots) where
  -- Below the new mark the slots that went down stay,
  compacted_below : (k : ℕ) → k < live_slots slots mark → node_entry (compacted_slots slots mark) k ≡ node_entry (packed_slots slots mark) k
  unfolding compacted_slots
  compacted_below k l =
      entry_ext (compacted_slots slots mark) (packed_slots slots mark) k
      (λ j b. filled_below (packed_slots slots mark) (width * live_slots slots mark) (width * (mark - live_slots slots mark)) 0 (width * k + j) (omega arith))

  -- and above it each word is 0.
  pub compacted_blank : ((i : ℕ) → width * mark ≤ i → get_or slots i 0 ≡ 0) → (i : ℕ) → width * live_slots slots mark ≤ i
      → get_or (compacted_slots slots mark) i 0 ≡ 0
  unfolding compacted_slots
  compacted_blank blank i h = go (dec_lt i (width * mark))
    where
      live : ℕ
      live = live_slots slots mark

      go : Dec (i < width * mark) → get_or (filled (packed_slots slots mark) (width * live) (width * (mark - live)) 0) i 0 ≡ 0
      go (yes l) =
          let e : i ≡ width * live + (i - width * live) = omega arith in
          rw e
          (filled_in (packed_slots slots mark) (width * live) (width * (mark - live)) 0 (i - width * live) (omega (arith, slot_low slots mark))
          (omega (arith, slot_low slots mark, packed_length slots mark)))
      go (no l) =
          filled_above (packed_slots slots mark) (width * live) (width * (mark - live)) 0 i (omega (arith, slot_low slots mark))
          ∙ packed_above slots mark i (omega arith)
          ∙ blank i (omega arith)

  -- A live slot is found at its new number,
  pub compacted_entry : (j : ℕ) (m : NodeMeta) → j < mark → node_entry slots j ≡ Node m
      → node_entry (compacted_slots slots mark) (live_slots slots j) ≡ Node m
  compacted_entry j m l is = compacted_below (live_slots slots j) (slot_past slots j mark m is l) ∙ packed_entry slots mark j m room l is

  -- where it is what came,
  pub came_entry : (k : ℕ) (c : CameTo slots mark k) → node_entry (compacted_slots slots mark) k ≡ Node c.meta
  came_entry k c = rw (← c.to) (compacted_entry c.from c.meta c.below c.is)

  -- every slot below the new mark is live,
  pub compacted_live : (k : ℕ) → k < live_slots slots mark → slot_word (compacted_slots slots mark) k 1 ≡ 0 → ⊥
  compacted_live k l =
      let c : CameTo slots mark k = slot_onto slots mark k l in
      live_says (compacted_slots slots mark) k c.meta (came_entry k c)

  -- and the slots hold what they held.
  pub compacted_held : (p : ℕ) → held_at (compacted_slots slots mark) (live_slots slots mark) p ≡ held_at slots mark p
  compacted_held p =
      held_at_ext (packed_slots slots mark) (compacted_slots slots mark) (live_slots slots mark) p compacted_below ∙ packed_held slots mark p room

  -- They are as many.
  pub compacted_count : live_slots (compacted_slots slots mark) (live_slots slots mark) ≡ live_slots slots mark
  unfolding live_slots
  compacted_count =
      sum_ones (λ k. some (slot_word (compacted_slots slots mark) k 1)) (live_slots slots mark) (λ k l. some_one _ (compacted_live k l))

-- What the owner words say once those of the live slots below k are renamed: each port is live as before and faces the same way, and is
-- owned by the new number of its slot below k, and by the old one from k on.
pub record RenamedTo (s : Store) (owners : List ℕ) (k : ℕ) : Type 0 where
  pub same : Renamed s.owners owners
  pub long : length owners ≡ length s.owners
  pub done : (j : ℕ) (m : NodeMeta) → j < k → node_entry s.slots j ≡ Node m → Owned owners (live_slots s.slots j) m
  pub rest : (j : ℕ) (m : NodeMeta) → k ≤ j → j < s.counters.nodemark → node_entry s.slots j ≡ Node m → Owned owners j m

module _ (s : Store) (shaped : Shaped s) (sound : Sound s) where
  -- One step: slot k is live,
  renamed_live : (owners : List ℕ) (k : ℕ) (m : NodeMeta) → k < s.counters.nodemark → node_entry s.slots k ≡ Node m → RenamedTo s owners k
      → RenamedTo s (owners_written owners (live_slots s.slots k) m.first m.inlets m.outlets) (suc k)
  renamed_live owners k m l is so_far =
      record {
        same = λ p. same_port_then (so_far.same p) (rewritten.renamed p);
        long = rewritten.length_kept ∙ so_far.long;
        done = λ j n b is'. done j n b is' (ℕ_discrete j k);
        rest = λ j n b lj is'. kept j j n lj (omega arith) is' (so_far.rest j n (omega arith) lj is');
      }
    where
      P : Parts s
      P = parts_of s shaped sound

      new : ℕ
      new = live_slots s.slots k

      owners' : List ℕ
      owners' = owners_written owners new m.first m.inlets m.outlets

      few : s.counters.nodemark ≤ 65536
      few = few_nodes s shaped sound

      rewritten : Rewritten owners owners' new m
      rewritten =
          owned_rewritten (so_far.rest k m (omega arith) l is) new (omega (arith, few)) (omega (arith, few, slot_low s.slots k))
          (live_slot (slot_table s P) k m l is).fit (omega (arith, so_far.long, slab_inside s P k m l is))

      kept : (j k' : ℕ) (n : NodeMeta) → j < s.counters.nodemark → (j ≡ k → ⊥) → node_entry s.slots j ≡ Node n → Owned owners k' n → Owned owners' k' n
      kept j k' n lj d is' o =
          rewritten.others k' n o (live_slot (slot_table s P) j n lj is').fit (slabs_apart s P k j m n l lj (λ e. d (sym e)) is is')

      done : (j : ℕ) (n : NodeMeta) → j < suc k → node_entry s.slots j ≡ Node n → Dec (j ≡ k) → Owned owners' (live_slots s.slots j) n
      done j n b is' (yes e) =
          rw (e, node_is (sym (rw e at is') ∙ is)) rewritten.owned
      done j n b is' (no d) = kept j (live_slots s.slots j) n (omega arith) d is' (so_far.done j n (omega arith) is')

  -- or free.
  renamed_free : (owners : List ℕ) (k previous next : ℕ) → node_entry s.slots k ≡ Free previous next → RenamedTo s owners k → RenamedTo s owners (suc k)
  renamed_free owners k previous next is so_far =
      record {
        same = so_far.same;
        long = so_far.long;
        done = λ j n b is'. so_far.done j n (omega (arith, live j n is')) is';
        rest = λ j n b. so_far.rest j n (omega arith);
      }
    where
      live : (j : ℕ) (n : NodeMeta) → node_entry s.slots j ≡ Node n → j ≡ k → ⊥
      live j n is' e = free_node (sym is ∙ rw e at is')

  -- So the owner words of all live slots are renamed.
  pub renamed_to : (k : ℕ) → k ≤ s.counters.nodemark → RenamedTo s (renamed_owners s.slots s.owners k) k
  unfolding renamed_owners
  renamed_to zero h =
      record {
        same = λ p. same_port (get_or s.owners p 0);
        long = refl;
        done = λ j n b. absurd (omega arith);
        rest = λ j n b l is. sound.owners.live j l n is;
      }
  renamed_to (suc k) h = go (node_entry s.slots k) refl (renamed_to k (omega arith))
    where
      go : (e : NodeEntry) → node_entry s.slots k ≡ e → RenamedTo s (renamed_owners s.slots s.owners k) k
          → RenamedTo s
          (on_node e (λ m. owners_written (renamed_owners s.slots s.owners k) (live_slots s.slots k) m.first m.inlets m.outlets)
          (renamed_owners s.slots s.owners k)) (suc k)
      go (Node m) is so_far = renamed_live (renamed_owners s.slots s.owners k) k m (omega arith) is so_far
      go (Free previous next) is so_far = renamed_free (renamed_owners s.slots s.owners k) k previous next is so_far

  -- The compaction of nodes leaves a sound store.
  pub nodes_compacted_sound : Sound (nodes_compacted s)
  unfolding nodes_compacted
  nodes_compacted_sound =
      sound_of (nodes_compacted s)
      (parts_by (nodes_compacted s)
      (record {
        room = omega (arith, count, slot_low s.slots mark, shape.slots, P.node_room);
        blank = λ i h. compacted_blank s.slots mark P.node_room P.slots_blank i (rw count at h);
        says = λ k l.
            let c = came k l in
            rw (came_entry s.slots mark P.node_room k c) (live_slot (slot_table s P) c.from c.meta c.below c.is);
        counted = rw count (sym (compacted_count s.slots mark P.node_room));
      })
      (record { chain = []; forward = refl; backward = tt; each_once = λ k. none_on k ∙ sym (none_free k (dec_lt k s.counters.nodes)) })
      (table_held (table_renamed (port_table s P) owners renamed.long renamed.same) (λ p. sym (held p)))
      (λ k l m is.
      let c = came k l in
      let same : c.meta ≡ m = node_is (sym (came_entry s.slots mark P.node_room k c) ∙ is) in
      rw (← c.to, ← same) (renamed.done c.from c.meta c.below c.is)))
    where
      P : Parts s
      P = parts_of s shaped sound

      mark : ℕ
      mark = s.counters.nodemark

      count : s.counters.nodes ≡ live_slots s.slots mark
      count = sound.counted.nodes

      shape : SameShape s (nodes_compacted s)
      shape = nodes_shape s

      owners : List ℕ
      owners = renamed_owners s.slots s.owners mark

      renamed : RenamedTo s owners mark
      renamed = renamed_to mark (omega arith)

      came : (k : ℕ) → k < s.counters.nodes → CameTo s.slots mark k
      came k l = slot_onto s.slots mark k (rw count at l)

      held : (p : ℕ) → held_at (compacted_slots s.slots mark) s.counters.nodes p ≡ held_in s p
      held p = rw count (compacted_held s.slots mark P.node_room p)

      none_free : (k : ℕ) → Dec (k < s.counters.nodes) → free_one (compacted_slots s.slots mark) s.counters.nodes k ≡ 0
      none_free k (yes l) =
          free_one_live (compacted_slots s.slots mark) s.counters.nodes k (compacted_live s.slots mark P.node_room k (rw count at l))
      none_free k (no l) = free_one_above (compacted_slots s.slots mark) s.counters.nodes k (omega arith)

  -- So call 7 keeps a store sound.
  pub compact_nodes_sound : (left : ℕ) → Sound (compact_nodes_call s left).store
  unfolding compact_nodes_call
  compact_nodes_sound left = decided_store _ s (nodes_compacted s) _ Sound sound (λ e. nodes_compacted_sound)
