-- The compaction of ports keeps a store sound: each live port goes down to the number of live ports below it, and the slabs of the steps,
-- without spare ports, tile what is below the new mark.
use Prim.Native.Nat.{ℕ, ◌+◌, ◌-◌, ◌*◌, ◌≤◌, ◌<◌}
use mathlib.Core.Path.{◌≡◌, refl, sym, ◌∙◌}
use mathlib.Core.List.{List, []}
use native.Mathlib.Nat.{add_assoc}
use native.Mathlib.Omega.{arith}
use native.Mathlib.Decide.{dec_lt, dec_le}
use lib.ListN.{length, get_or}
use borrow.Author.Tests.{eq-eqb, ne_eqb}
use Rattle.slabs.specs.Sums.{sum_of}
use Rattle.slabs.specs.NodeEntry.{width, slot_word, node_entry}
use Rattle.slabs.specs.PortEntry.{Live}
use Rattle.slabs.specs.Slabs.{in_slab, free_at}
use Rattle.slabs.specs.declared.node_entry.NodeMeta.{NodeMeta}
use Rattle.slabs.specs.declared.node_entry.NodeEntry.{NodeEntry}
use Rattle.slabs.specs.declared.node_entry.NodeEntry.TheVariants.{Free, Node}
use Rattle.slabs.proofs.SumLaws.{sum_ext, sum_zero}
use Rattle.slabs.proofs.SlabLaws.{in_slab_yes, in_slab_le, in_slab_lies, held_le}
use Rattle.slabs.proofs.EntryLaws.{owner_live, entry_ext}
use Rattle.edits.specs.Store.{Store, on_node}
use Rattle.edits.specs.Counts.{some, live_slots, live_ports}
use Rattle.renumber.specs.Compact.{ports_compacted}
use Rattle.calls.specs.Call.{compact_ports_call}
use Rattle.sound.specs.Sound.{Shaped, Sound, SlotSays, Owned, held_at, held_in}
use Rattle.sound.proofs.Parts.{Parts, parts_of, sound_of, slot_table}
use Rattle.sound.proofs.Fits.{live_held, slab_ends}
use Rattle.sound.proofs.SlotLaws.{slab_of, free_one, free_says, some_live, node_is, free_node}
use Rattle.sound.proofs.OwnerLaws.{owned_port, owned_few}
use Rattle.sound.proofs.Kept.{zeros, decided_store}
use Rattle.sound.proofs.Shapes.{SameShape, ports_shape}
use Rattle.sound.proofs.MoveLaws.{LiveWiring, rekeyed_wiring, live_wiring}
use Rattle.sound.proofs.PortPacking.{port_low, port_rises, port_apart, port_onto, port_run, PortsDown, ports_down, down_live, down_ports}
use Rattle.sound.proofs.SlabPacking.{tight, tight_entry, free_aside, SlabsDown, slabs_down}
use Rattle.sound.proofs.FreeSlotLaws.{slot_chain, free_chain, free_one_above, slot_chain_kept}
use Rattle.sound.proofs.SlotTable.{live_slot}

-- Two numbers that are 0 or 1, each 1 where the other is, are equal.
one_where_one : (a b : ℕ) → a ≤ 1 → b ≤ 1 → (1 ≤ a → 1 ≤ b) → (1 ≤ b → 1 ≤ a) → a ≡ b
one_where_one a b ha hb there back = go (dec_le 1 a) (dec_le 1 b)
  where
    go : Dec (1 ≤ a) → Dec (1 ≤ b) → a ≡ b
    go (yes x) d = omega (arith, there x)
    go (no x) (yes y) = absurd (omega (arith, back y))
    go (no x) (no y) = omega arith

-- A step stays a step when its slab goes down.
tight_same : (owners : List ℕ) (e : NodeEntry) (live other : ℕ) → on_node (tight_entry owners e) (λ m. live) other ≡ on_node e (λ m. live) other
tight_same owners (Node m) live other = refl
tight_same owners (Free previous next) live other = refl

-- The ports of step k:
module _ (s : Store) (shaped : Shaped s) (sound : Sound s) (k : ℕ) (m : NodeMeta) (l : k < s.counters.nodemark)
    (is : node_entry s.slots k ≡ Node m) where
  -- they are live,
  step_live : (i : ℕ) → i < m.inlets + m.outlets → Live s.owners (m.first + i)
  step_live i b = let (d, c, word) = owned_port (sound.owners.live k l m is) i b in rw word (owner_live k d)

  -- so they have consecutive numbers from the new first port on,
  step_first : (i : ℕ) → i < m.inlets + m.outlets → (tight s.owners m).first + i ≡ live_ports s.owners (m.first + i)
  step_first i b =
      rw (ne_eqb (m.inlets + m.outlets) 0 (omega arith)) (sym (port_run s.owners m.first i (λ j c. step_live j (omega arith))))

  -- all below the new mark.
  step_ends : 1 ≤ m.inlets + m.outlets
      → (tight s.owners m).first + (m.inlets + m.outlets) ≤ live_ports s.owners s.counters.portmark
  step_ends some =
      rw (ne_eqb (m.inlets + m.outlets) 0 (omega arith), ← port_run s.owners m.first (m.inlets + m.outlets) step_live)
      (port_rises s.owners (m.first + (m.inlets + m.outlets)) s.counters.portmark
      (omega (arith, slab_ends s (parts_of s shaped sound) k m l is, live_slot (slot_table s (parts_of s shaped sound)) k m l is)))

  -- A live port lies in the slab of the step as before,
  step_holds : (q : ℕ) → Live s.owners q
      → in_slab (tight s.owners m).first (m.inlets + m.outlets) (live_ports s.owners q) ≡ in_slab m.first m.capacity q
  step_holds q live =
      one_where_one _ _ (in_slab_le _ _ _) (in_slab_le _ _ _)
      (λ h. there (in_slab_lies _ _ _ h))
      (λ h. back (in_slab_lies _ _ _ h))
    where
      first : ℕ
      first = (tight s.owners m).first

      new : ℕ
      new = live_ports s.owners q

      there : (first ≤ new) × (new < first + (m.inlets + m.outlets)) → 1 ≤ in_slab m.first m.capacity q
      there (low, high) =
          let i : ℕ = new - first in
          let same : q ≡ m.first + i =
          port_apart s.owners q (m.first + i) live (step_live i (omega arith)) (omega (arith, step_first i (omega arith))) in
          omega (arith, in_slab_yes m.first m.capacity q (omega arith) (omega (arith, live_slot (slot_table s (parts_of s shaped sound)) k m l is)))

      back : (m.first ≤ q) × (q < m.first + m.capacity) → 1 ≤ in_slab first (m.inlets + m.outlets) new
      back (low, high) =
          let i : ℕ = q - m.first in
          let few : i < m.inlets + m.outlets = omega (arith, owned_few (sound.owners.live k l m is) q live low high) in
          let e : m.first + i ≡ q = omega arith in
          let at : first + i ≡ new = rw e at (step_first i few) in
          omega (arith, in_slab_yes first (m.inlets + m.outlets) new (omega arith) (omega arith))

  -- and no port from the new mark on does.
  step_past : (p : ℕ) → live_ports s.owners s.counters.portmark ≤ p → in_slab (tight s.owners m).first (m.inlets + m.outlets) p ≡ 0
  step_past p h =
      let out : 1 ≤ in_slab (tight s.owners m).first (m.inlets + m.outlets) p → ⊥ =
      λ b. let lies = in_slab_lies (tight s.owners m).first (m.inlets + m.outlets) p b in omega (arith, step_ends (omega arith)) in
      omega arith

-- The table of slots once the slabs have gone down:
module _ (s : Store) (shaped : Shaped s) (sound : Sound s) (table : List ℕ) (down : SlabsDown s table) where
  -- a slot that is no step has its words,
  down_words : (k j : ℕ) → slot_word s.slots k 1 ≡ 0 → j < width → slot_word table k j ≡ slot_word s.slots k j
  down_words k j e b = down.others (width * k + j) (free_aside s.slots s.counters.nodemark k e j b)

  -- a step is the tight one,
  down_entry : (k : ℕ) → k < s.counters.nodemark → node_entry table k ≡ tight_entry s.owners (node_entry s.slots k)
  down_entry k l = go (node_entry s.slots k) refl
    where
      go : (e : NodeEntry) → node_entry s.slots k ≡ e → node_entry table k ≡ tight_entry s.owners e
      go (Node m) is = down.live k m l is
      go (Free previous next) is =
          entry_ext table s.slots k (λ j b. down_words k j (free_says s.slots k previous next is).0 b) ∙ is

  -- rule 2 is true of each slot,
  down_says : (k : ℕ) → k < s.counters.nodemark → SlotSays (length s.heads) (slot_word table k 3) (node_entry table k)
  down_says k l = rw (down_entry k l) (go (node_entry s.slots k) refl (sound.slots k l))
    where
      go : (e : NodeEntry) → node_entry s.slots k ≡ e → SlotSays (length s.heads) (slot_word s.slots k 3) e
          → SlotSays (length s.heads) (slot_word table k 3) (tight_entry s.owners e)
      go (Node m) is says =
          record {
            few_inlets = says.few_inlets;
            few_outlets = says.few_outlets;
            fit = omega arith;
            sized = omega (arith, says.fit, says.sized);
            unplaced = λ e. rw (eq-eqb (m.inlets + m.outlets) 0 e);
          }
      go (Free previous next) is says = down_words k 3 (free_says s.slots k previous next is).0 (omega arith) ∙ says

  -- the same slots are free,
  down_free : (k : ℕ) → free_one table s.counters.nodemark k ≡ free_one s.slots s.counters.nodemark k
  unfolding free_one
  down_free k = go (dec_lt k s.counters.nodemark)
    where
      go : Dec (k < s.counters.nodemark) → free_one table s.counters.nodemark k ≡ free_one s.slots s.counters.nodemark k
      go (yes l) = rw (down_entry k l, tight_same s.owners (node_entry s.slots k) 0 1)
      go (no l) = free_one_above table s.counters.nodemark k (omega arith) ∙ sym (free_one_above s.slots s.counters.nodemark k (omega arith))

  -- as many are live,
  down_count : live_slots table s.counters.nodemark ≡ live_slots s.slots s.counters.nodemark
  unfolding live_slots
  down_count =
      sum_ext _ _ s.counters.nodemark
      (λ k l. some_live table k ∙ rw (down_entry k l) (tight_same s.owners (node_entry s.slots k) 1 0) ∙ sym (some_live s.slots k))

  -- a live port is held as before,
  down_held : (q : ℕ) → Live s.owners q → held_at table s.counters.nodemark (live_ports s.owners q) ≡ held_in s q
  unfolding held_at
  down_held q live = sum_ext _ _ s.counters.nodemark (λ k l. rw (down_entry k l) (go k l (node_entry s.slots k) refl))
    where
      go : (k : ℕ) → k < s.counters.nodemark → (e : NodeEntry) → node_entry s.slots k ≡ e
          → slab_of (tight_entry s.owners e) (live_ports s.owners q) ≡ slab_of e q
      go k l (Node m) is = step_holds s shaped sound k m l is q live
      go k l (Free previous next) is = refl

  -- and no port from the new mark on is held.
  down_unheld : (p : ℕ) → live_ports s.owners s.counters.portmark ≤ p → held_at table s.counters.nodemark p ≡ 0
  unfolding held_at
  down_unheld p h = sum_zero _ s.counters.nodemark (λ k l. rw (down_entry k l) (go k l (node_entry s.slots k) refl))
    where
      go : (k : ℕ) → k < s.counters.nodemark → (e : NodeEntry) → node_entry s.slots k ≡ e → slab_of (tight_entry s.owners e) p ≡ 0
      go k l (Node m) is = step_past s shaped sound k m l is p h
      go k l (Free previous next) is = refl

  -- A port below the new mark is held once.
  down_once : (p : ℕ) → p < live_ports s.owners s.counters.portmark → held_at table s.counters.nodemark p ≡ 1
  down_once p l =
      let (q, b, live, e) = port_onto s.owners s.counters.portmark p l in
      rw (← e)
      (omega (arith, down_held q live, live_held s sound q live, held_le (parts_of s shaped sound).slabs q))

  -- The owner words of a step's ports are those of rule 5 where they have gone down.
  down_owned : (owners links : List ℕ) → PortsDown s.owners s.links owners links s.counters.portmark
      → (k : ℕ) (m : NodeMeta) → k < s.counters.nodemark → node_entry table k ≡ Node m → Owned owners k m
  down_owned owners links ports k m l is = go (node_entry s.slots k) refl (sym (down_entry k l) ∙ is)
    where
      at : (n : NodeMeta) → node_entry s.slots k ≡ Node n → (i : ℕ) → i < n.inlets + n.outlets
          → get_or owners ((tight s.owners n).first + i) 0 ≡ get_or s.owners (n.first + i) 0
      at n is' i b =
          rw (step_first s shaped sound k n l is' i b) (ports.rekeyed.owner (n.first + i) (step_live s shaped sound k n l is' i b))

      go : (e : NodeEntry) → node_entry s.slots k ≡ e → tight_entry s.owners e ≡ Node m → Owned owners k m
      go (Node n) is' e =
          let o : Owned s.owners k n = sound.owners.live k l n is' in
          rw (← node_is e)
          (record {
            inlets_owned = λ i b. at n is' i (omega arith) ∙ o.inlets_owned i b;
            outlets_owned = λ i b. rw add_assoc (at n is' (n.inlets + i) (omega arith)) ∙ rw (add_assoc n.first n.inlets i) at (o.outlets_owned i b);
            spare_unowned = λ i h b. absurd (omega arith);
          })
      go (Free previous next) is' e = absurd (free_node e)

-- Where all chains are empty no port is in a free slab.
free_none : (sizes p : ℕ) → free_at (λ i. []) sizes p ≡ 0
unfolding free_at sum_of
free_none sizes p = sum_zero (λ i. 0) sizes (λ i l. refl)

-- The compaction of ports leaves a sound store.
pub ports_compacted_sound : (s : Store) → Shaped s → Sound s → Sound (ports_compacted s)
unfolding ports_compacted
ports_compacted_sound s shaped sound =
    sound_of (ports_compacted s)
    (record {
      node_room = omega (arith, down.long, P.node_room);
      slots_blank = λ i h. down.others i (λ k m l is j b e. omega arith) ∙ P.slots_blank i h;
      slots = λ k l. rw shape.heads (down_says s shaped sound table down k l);
      free_chain =
          free_chain (ports_compacted s)
          (slot_chain_kept (slot_chain s P.free_chain) table s.counters.nodemark (down_free s shaped sound table down)
          (λ k l e. (down_words s shaped sound table down k 0 e (omega arith), down_words s shaped sound table down k 2 e (omega arith))));
      slabs =
          record {
            room = omega (arith, count, port_low s.owners s.counters.portmark, shape.links, sound.marks.ports_inside);
            equal = shape.owners ∙ shaped.equal ∙ sym shape.links;
            chains = λ i. [];
            chained = λ i l. zeros s.heads i;
            once = λ p l. omega (arith, once p l, free_none (length (ports_compacted s).heads) p);
            within = λ p h. omega (arith, unheld p h, free_none (length (ports_compacted s).heads) p);
            bare = λ p h. ports.owners_above p (rw count at (past p h (dec_lt p s.counters.ports)));
            loose = λ p h e. ports.links_above p (rw count at (past p h (dec_lt p s.counters.ports)));
          };
      owned = λ k l m is. down_owned s shaped sound table down owners links ports k m l is;
      wiring = λ p q h e.
          rekeyed_wiring ports.rekeyed wired p q
          (down_live s.owners s.links owners links s.counters.portmark ports p (rw count at (below p h (dec_lt p s.counters.ports)))) e;
      counted =
          record {
            nodes = P.counted.nodes ∙ sym (down_count s shaped sound table down);
            ports = rw count (sym (down_ports s.owners s.links owners links s.counters.portmark ports));
            links = P.counted.links ∙ rw count (sym ports.wires);
          };
    })
  where
    P : Parts s
    P = parts_of s shaped sound

    live : ℕ
    live = live_ports s.owners s.counters.portmark

    count : s.counters.ports ≡ live
    count = sound.counted.ports

    shape : SameShape s (ports_compacted s)
    shape = ports_shape s

    table : List ℕ
    table = (ports_compacted s).slots

    down : SlabsDown s table
    down = slabs_down s shaped sound

    owners : List ℕ
    owners = (ports_compacted s).owners

    links : List ℕ
    links = (ports_compacted s).links

    wired : LiveWiring s.owners s.links
    wired = live_wiring P.wiring P.slabs.bare

    ports : PortsDown s.owners s.links owners links s.counters.portmark
    ports =
        ports_down s.owners s.links s.counters.portmark wired shaped.equal sound.marks.ports_inside sound.marks.owners_blank
        sound.marks.links_blank

    once : (p : ℕ) → p < s.counters.ports → held_at table s.counters.nodemark p ≡ 1
    once p l = down_once s shaped sound table down p (rw count at l)

    unheld : (p : ℕ) → s.counters.ports ≤ p → held_at table s.counters.nodemark p ≡ 0
    unheld p h = down_unheld s shaped sound table down p (rw count at h)

    past : (p : ℕ) → held_at table s.counters.nodemark p ≡ 0 → Dec (p < s.counters.ports) → s.counters.ports ≤ p
    past p h (yes l) = absurd (omega (arith, once p l))
    past p h (no l) = omega arith

    below : (p : ℕ) → 1 ≤ held_at table s.counters.nodemark p → Dec (p < s.counters.ports) → p < s.counters.ports
    below p h (yes l) = l
    below p h (no l) = absurd (omega (arith, unheld p (omega arith)))

-- So call 8 keeps a store sound.
pub compact_ports_sound : (s : Store) → Shaped s → Sound s → (left : ℕ) → Sound (compact_ports_call s left).store
unfolding compact_ports_call
compact_ports_sound s shaped sound left = decided_store _ s (ports_compacted s) _ Sound sound (λ e. ports_compacted_sound s shaped sound)
