-- The table of slots when the live ports go down: a step's first port goes with its slab, which keeps what it needs, and a step without
-- ports has none.
use Prim.Native.Nat.{ℕ, suc, zero, ◌+◌, ◌*◌, ◌≤◌, ◌<◌}
use mathlib.Core.Path.{◌≡◌, refl, sym, ap, ◌∙◌}
use mathlib.Core.List.{List}
use native.Mathlib.Omega.{arith}
use native.Mathlib.Decide.{ℕ_discrete}
use native.Mathlib.Nat.{add-zero}
use lib.ListN.{length, get_or}
use lib.Dec.{eqb}
use borrow.Author.Tests.{eq-eqb, ne_eqb}
use Rattle.slabs.specs.Choice.{pick}
use Rattle.slabs.specs.NodeEntry.{width, slot_word, node_entry, set_entry}
use Rattle.slabs.specs.PortEntry.{Live, node_of}
use Rattle.slabs.specs.declared.node_entry.NodeMeta.{NodeMeta}
use Rattle.slabs.specs.declared.node_entry.NodeEntry.{NodeEntry}
use Rattle.slabs.specs.declared.node_entry.NodeEntry.TheVariants.{Free, Node}
use Rattle.slabs.proofs.EntryLaws.{owner_live, owner_node, set_entry-length, word_apart, entry_same, entry_other}
use Rattle.edits.specs.Store.{Store, on_node}
use Rattle.edits.specs.Counts.{live_ports}
use Rattle.renumber.specs.Compact.{followed, followed_slots, slab_dropped, slabs_dropped}
use Rattle.sound.specs.Sound.{Shaped, Sound}
use Rattle.sound.proofs.Parts.{parts_of, slot_table, Parts}
use Rattle.sound.proofs.Fits.{few_nodes, slab_ends, OwnerOf, live_owner, owner_names}
use Rattle.sound.proofs.Kept.{pick_both}
use Rattle.sound.proofs.SlotLaws.{entry_live, live_says, node_is}
use Rattle.sound.proofs.OwnerLaws.{owned_port, owned_few}
use Rattle.sound.proofs.Shapes.{dropped_length}
use Rattle.sound.proofs.PortPacking.{port_low}
use Rattle.sound.proofs.SlotTable.{live_slot}

-- a step whose slab has gone down
abbrev pub gone : List ℕ → NodeMeta → NodeMeta
gone owners m = record { first = live_ports owners m.first; inlets = m.inlets; outlets = m.outlets; capacity = m.inlets + m.outlets }

-- word i is of no live slot below the mark
abbrev pub Aside : List ℕ → ℕ → ℕ → Type 0
Aside slots mark i = (k : ℕ) (m : NodeMeta) → k < mark → node_entry slots k ≡ Node m → (j : ℕ) → j < width → i ≡ width * k + j → ⊥

-- What the slots say once the ports below p have gone down.
pub record Followed (s : Store) (table : List ℕ) (p : ℕ) : Type 0 where
  pub long : length table ≡ length s.slots
  pub down : (k : ℕ) (m : NodeMeta) → k < s.counters.nodemark → node_entry s.slots k ≡ Node m → 1 ≤ m.inlets + m.outlets → m.first < p
      → node_entry table k ≡ Node (gone s.owners m)
  pub still : (k : ℕ) (m : NodeMeta) → k < s.counters.nodemark → node_entry s.slots k ≡ Node m → (1 ≤ m.inlets + m.outlets → p ≤ m.first)
      → node_entry table k ≡ Node m
  pub others : (i : ℕ) → Aside s.slots s.counters.nodemark i → get_or table i 0 ≡ get_or s.slots i 0

module _ (s : Store) (shaped : Shaped s) (sound : Sound s) where
  -- The first port of a step that has ports is live, and its owner word names the step.
  first_live : (k : ℕ) (m : NodeMeta) → k < s.counters.nodemark → node_entry s.slots k ≡ Node m → 1 ≤ m.inlets + m.outlets
      → Live s.owners m.first × (node_of (get_or s.owners m.first 0) ≡ k)
  first_live k m l is some =
      let (d, b, word) = owned_port (sound.owners.live k l m is) 0 (omega arith) in
      let e : get_or s.owners m.first 0 ≡ _ = rw add-zero at word in
      (rw e (owner_live k d), rw e (owner_node k d (omega (arith, few_nodes s shaped sound)) b))

  -- A step whose first port's turn has not come is as it was.
  followed_same : (table : List ℕ) (p : ℕ) → ((k : ℕ) (m : NodeMeta) → k < s.counters.nodemark → node_entry s.slots k ≡ Node m
      → 1 ≤ m.inlets + m.outlets → m.first ≡ p → node_entry table k ≡ Node (gone s.owners m)) → Followed s table p → Followed s table (suc p)
  followed_same table p here so_far =
      record {
        long = so_far.long;
        down = λ k m l is some b. go k m l is some b (ℕ_discrete m.first p);
        still = λ k m l is later. so_far.still k m l is (λ some. omega (arith, later some));
        others = so_far.others;
      }
    where
      go : (k : ℕ) (m : NodeMeta) → k < s.counters.nodemark → node_entry s.slots k ≡ Node m → 1 ≤ m.inlets + m.outlets → m.first < suc p
          → Dec (m.first ≡ p) → node_entry table k ≡ Node (gone s.owners m)
      go k m l is some b (yes e) = here k m l is some e
      go k m l is some b (no d) = so_far.down k m l is some (omega arith)

  -- The turn of a live port p comes, of step k:
  module _ (table : List ℕ) (p k : ℕ) (m : NodeMeta) (l : k < s.counters.nodemark) (is : node_entry s.slots k ≡ Node m)
      (some : 1 ≤ m.inlets + m.outlets) (low : m.first ≤ p) (names : node_of (get_or s.owners p 0) ≡ k) (so_far : Followed s table p) where
    -- another step's first port is another one;
    turn_own : (j : ℕ) (n : NodeMeta) → j < s.counters.nodemark → node_entry s.slots j ≡ Node n → 1 ≤ n.inlets + n.outlets → n.first ≡ p → j ≡ k
    turn_own j n lj is' some' e = sym (rw e at (first_live j n lj is' some').1) ∙ names

    -- the slot of step k is written,
    turn_written : m.first ≡ p → Followed s (set_entry table k (Node (gone s.owners m))) (suc p)
    turn_written e =
        record {
          long = set_entry-length table k (Node (gone s.owners m)) ∙ so_far.long;
          down = λ j n lj is' some' b. down j n lj is' some' b (ℕ_discrete j k);
          still = λ j n lj is' later. still j n lj is' later (ℕ_discrete j k);
          others = λ i aside. word_apart table k (Node (gone s.owners m)) i (aside k m l is) ∙ so_far.others i aside;
        }
      where
        down : (j : ℕ) (n : NodeMeta) → j < s.counters.nodemark → node_entry s.slots j ≡ Node n → 1 ≤ n.inlets + n.outlets → n.first < suc p
            → Dec (j ≡ k) → node_entry (set_entry table k (Node (gone s.owners m))) j ≡ Node (gone s.owners n)
        down j n lj is' some' b (yes same) =
            rw (same, node_is (sym (rw same at is') ∙ is)) (entry_same table k (Node (gone s.owners m)) (omega (arith, so_far.long, sound.marks.nodes_inside)))
        down j n lj is' some' b (no d) =
            let apart : n.first ≡ p → ⊥ = λ z. d (turn_own j n lj is' some' z) in
            entry_other table k j (Node (gone s.owners m)) d ∙ so_far.down j n lj is' some' (omega arith)

        still : (j : ℕ) (n : NodeMeta) → j < s.counters.nodemark → node_entry s.slots j ≡ Node n → (1 ≤ n.inlets + n.outlets → suc p ≤ n.first)
            → Dec (j ≡ k) → node_entry (set_entry table k (Node (gone s.owners m))) j ≡ Node n
        still j n lj is' later (yes same) =
            absurd (omega (arith, rw (node_is (sym (rw same at is') ∙ is)) at later some))
        still j n lj is' later (no d) =
            entry_other table k j (Node (gone s.owners m)) d ∙ so_far.still j n lj is' (λ some'. omega (arith, later some'))

    -- if p is its first port,
    turn_first : m.first ≡ p → Followed s (followed table k p (live_ports s.owners p)) (suc p)
    unfolding followed
    turn_first e = rw (so_far.still k m l is (λ some'. omega arith), eq-eqb m.first p e) (rw e at (turn_written e))

    -- and no slot otherwise.
    turn_later : (m.first ≡ p → ⊥) → Followed s (followed table k p (live_ports s.owners p)) (suc p)
    unfolding followed
    turn_later d =
        rw
        (so_far.down k m l is some (omega arith), ne_eqb (live_ports s.owners m.first) p (omega (arith, port_low s.owners m.first)))
        (followed_same table p (λ j n lj is' some' e. absurd (other j n lj is' some' e)) so_far)
      where
        other : (j : ℕ) (n : NodeMeta) → j < s.counters.nodemark → node_entry s.slots j ≡ Node n → 1 ≤ n.inlets + n.outlets → n.first ≡ p → ⊥
        other j n lj is' some' e =
            let same : j ≡ k = turn_own j n lj is' some' e in
            d (rw (node_is (sym (rw same at is') ∙ is)) at e)

  -- So the slots follow the ports.
  pub followed_to : (p : ℕ) → Followed s (followed_slots s.slots s.owners p) p
  unfolding followed_slots
  followed_to zero =
      record { long = refl; down = λ k m l is some b. absurd (omega arith); still = λ k m l is later. is; others = λ i aside. refl }
  followed_to (suc p) = go (ℕ_discrete (get_or s.owners p 0) 0) (followed_to p)
    where
      table : List ℕ
      table = followed_slots s.slots s.owners p

      turn : (o : OwnerOf s p) → Live s.owners p → Dec (o.meta.first ≡ p) → Followed s table p
          → Followed s (followed table o.node p (live_ports s.owners p)) (suc p)
      turn o live d so_far = by d
        where
          some : 1 ≤ o.meta.inlets + o.meta.outlets
          some = omega (arith, o.lies, owned_few (sound.owners.live o.node o.below o.meta o.is) p live o.lies o.ends)

          by : Dec (o.meta.first ≡ p) → Followed s (followed table o.node p (live_ports s.owners p)) (suc p)
          by (yes e) = turn_first table p o.node o.meta o.below o.is some o.lies (owner_names s shaped sound p o) so_far e
          by (no n) = turn_later table p o.node o.meta o.below o.is some o.lies (owner_names s shaped sound p o) so_far n

      go : Dec (get_or s.owners p 0 ≡ 0) → Followed s table p → Followed s (followed_slots s.slots s.owners (suc p)) (suc p)
      go (yes e) so_far =
          rw (eq-eqb (get_or s.owners p 0) 0 e)
          (followed_same table p (λ k m l is some here. absurd ((first_live k m l is some).0 (rw here e))) so_far)
      go (no live) so_far =
          let o : OwnerOf s p = live_owner s sound p live in
          rw (ne_eqb (get_or s.owners p 0) 0 live, owner_names s shaped sound p o) (turn o live (ℕ_discrete o.meta.first p) so_far)

-- a step without ports and without a slab
abbrev pub portless : NodeMeta
portless = record { first = 0; inlets = 0; outlets = 0; capacity = 0 }

-- Dropping the slab of a step that has no ports writes its slot,
drop_none : (table : List ℕ) (k : ℕ) (m : NodeMeta) → node_entry table k ≡ Node m → m.inlets + m.outlets ≡ 0
    → slab_dropped table k ≡ set_entry table k (Node portless)
unfolding slab_dropped
drop_none table k m is e = rw (is, e)

-- a step that has ports keeps it,
drop_some : (table : List ℕ) (k : ℕ) (m : NodeMeta) → node_entry table k ≡ Node m → (m.inlets + m.outlets ≡ 0 → ⊥) → slab_dropped table k ≡ table
unfolding slab_dropped
drop_some table k m is n = rw (is, ne_eqb (m.inlets + m.outlets) 0 n)

-- and there is no other case but a free slot.
drop_cases : (P : List ℕ → Type 0) (table : List ℕ) (k : ℕ) → P table
    → ((m : NodeMeta) → node_entry table k ≡ Node m → P (set_entry table k (Node portless))) → P (slab_dropped table k)
unfolding slab_dropped
drop_cases P table k same written = go (node_entry table k) refl
  where
    go : (e : NodeEntry) → node_entry table k ≡ e
        → P (on_node e (λ m. pick (eqb (m.inlets + m.outlets) 0) (set_entry table k (Node portless)) table) table)
    go (Node m) is = pick_both P (eqb (m.inlets + m.outlets) 0) (set_entry table k (Node portless)) table (written m is) same
    go (Free previous next) is = same

module _ (table : List ℕ) where
  -- A slot whose turn has not come is as it was,
  dropped_ahead : (k j : ℕ) → k ≤ j → node_entry (slabs_dropped table k) j ≡ node_entry table j
  unfolding slabs_dropped
  dropped_ahead zero j h = refl
  dropped_ahead (suc k) j h =
      let below : node_entry (slabs_dropped table k) j ≡ node_entry table j = dropped_ahead k j (omega arith) in
      drop_cases (λ t. node_entry t j ≡ node_entry table j) (slabs_dropped table k) k below
      (λ m is. entry_other (slabs_dropped table k) k j (Node portless) (omega arith) ∙ below)

  -- and one whose turn has come stays.
  dropped_behind : (k j : ℕ) → j < k → node_entry (slabs_dropped table k) j ≡ node_entry (slabs_dropped table (suc j)) j
  unfolding slabs_dropped
  dropped_behind zero j l = absurd (omega arith)
  dropped_behind (suc k) j l = go (ℕ_discrete j k) (dropped_behind k j)
    where
      go : Dec (j ≡ k) → (j < k → node_entry (slabs_dropped table k) j ≡ node_entry (slabs_dropped table (suc j)) j)
          → node_entry (slabs_dropped table (suc k)) j ≡ node_entry (slabs_dropped table (suc j)) j
      go (yes e) below = rw e
      go (no d) below =
          drop_cases (λ t. node_entry t j ≡ node_entry (slabs_dropped table (suc j)) j) (slabs_dropped table k) k (below (omega arith))
          (λ m is. entry_other (slabs_dropped table k) k j (Node portless) d ∙ below (omega arith))

  -- So a step without ports has no slab,
  pub dropped_none : (k j : ℕ) (m : NodeMeta) → j < k → width * k ≤ length table → node_entry table j ≡ Node m → m.inlets + m.outlets ≡ 0
      → node_entry (slabs_dropped table k) j ≡ Node portless
  unfolding slabs_dropped
  dropped_none k j m l room is e =
      dropped_behind k j l
      ∙ rw (drop_none (slabs_dropped table j) j m (dropped_ahead j j (omega arith) ∙ is) e)
      (entry_same (slabs_dropped table j) j (Node portless) (omega (arith, dropped_length table j)))

  -- another step is as it was,
  pub dropped_some : (k j : ℕ) (m : NodeMeta) → j < k → node_entry table j ≡ Node m → (m.inlets + m.outlets ≡ 0 → ⊥)
      → node_entry (slabs_dropped table k) j ≡ Node m
  unfolding slabs_dropped
  dropped_some k j m l is n =
      let here : node_entry (slabs_dropped table j) j ≡ Node m = dropped_ahead j j (omega arith) ∙ is in
      dropped_behind k j l ∙ rw (drop_some (slabs_dropped table j) j m here n) here

  -- and so is every word of no step.
  pub dropped_others : (k i : ℕ) → Aside table k i → get_or (slabs_dropped table k) i 0 ≡ get_or table i 0
  unfolding slabs_dropped
  dropped_others zero i aside = refl
  dropped_others (suc k) i aside =
      let below : get_or (slabs_dropped table k) i 0 ≡ get_or table i 0 = dropped_others k i (λ j m l. aside j m (omega arith)) in
      drop_cases (λ t. get_or t i 0 ≡ get_or table i 0) (slabs_dropped table k) k below
      (λ m is.
      word_apart (slabs_dropped table k) k (Node portless) i (aside k m (omega arith) (sym (dropped_ahead k k (omega arith)) ∙ is)) ∙ below)

-- a step once its ports have gone down: its slab has no spare port, and none at all where it has no ports
abbrev pub tight : List ℕ → NodeMeta → NodeMeta
tight owners m =
    record {
      first = pick (eqb (m.inlets + m.outlets) 0) 0 (live_ports owners m.first);
      inlets = m.inlets;
      outlets = m.outlets;
      capacity = m.inlets + m.outlets;
    }

-- what a slot says then
abbrev pub tight_entry : List ℕ → NodeEntry → NodeEntry
tight_entry owners (Node m) = Node (tight owners m)
tight_entry owners (Free previous next) = Free previous next

-- Without ports it is a step without a slab,
tight_none : (owners : List ℕ) (m : NodeMeta) → m.inlets + m.outlets ≡ 0 → tight owners m ≡ portless
tight_none owners m e =
    let i : m.inlets ≡ 0 = omega arith in
    let o : m.outlets ≡ 0 = omega arith in
    rw (i, o)

-- and with ports one whose slab has gone down.
tight_some : (owners : List ℕ) (m : NodeMeta) → (m.inlets + m.outlets ≡ 0 → ⊥) → tight owners m ≡ gone owners m
tight_some owners m n = rw (ne_eqb (m.inlets + m.outlets) 0 n)

-- A slot that is no step has no word of a step.
pub free_aside : (slots : List ℕ) (mark k : ℕ) → slot_word slots k 1 ≡ 0 → (j : ℕ) → j < width → Aside slots mark (width * k + j)
free_aside slots mark k e j b k' m l is j' b' z =
    let same : k' ≡ k = omega arith in
    live_says slots k' m is (rw same e)

-- The slots when the live ports have gone down: a step's slab is tight, and no other word changes.
pub record SlabsDown (s : Store) (table : List ℕ) : Type 0 where
  pub long : length table ≡ length s.slots
  pub live : (k : ℕ) (m : NodeMeta) → k < s.counters.nodemark → node_entry s.slots k ≡ Node m → node_entry table k ≡ Node (tight s.owners m)
  pub others : (i : ℕ) → Aside s.slots s.counters.nodemark i → get_or table i 0 ≡ get_or s.slots i 0

-- So it is when the slots have followed and the slabs of steps without ports are dropped.
pub slabs_down : (s : Store) → Shaped s → Sound s
    → SlabsDown s (slabs_dropped (followed_slots s.slots s.owners s.counters.portmark) s.counters.nodemark)
slabs_down s shaped sound =
    record {
      long = dropped_length table mark ∙ so_far.long;
      live = λ k m l is. live k m l is (ℕ_discrete (m.inlets + m.outlets) 0);
      others = λ i aside. dropped_others table mark i (λ k m l is. there k m l is i aside (ℕ_discrete (slot_word s.slots k 1) 0)) ∙ so_far.others i aside;
    }
  where
    P : Parts s
    P = parts_of s shaped sound

    mark : ℕ
    mark = s.counters.nodemark

    table : List ℕ
    table = followed_slots s.slots s.owners s.counters.portmark

    so_far : Followed s table s.counters.portmark
    so_far = followed_to s shaped sound s.counters.portmark

    live : (k : ℕ) (m : NodeMeta) → k < mark → node_entry s.slots k ≡ Node m → Dec (m.inlets + m.outlets ≡ 0)
        → node_entry (slabs_dropped table mark) k ≡ Node (tight s.owners m)
    live k m l is (yes e) =
        dropped_none table mark k m l (omega (arith, so_far.long, sound.marks.nodes_inside)) (so_far.still k m l is (λ some. absurd (omega arith))) e
        ∙ ap Node (sym (tight_none s.owners m e))
    live k m l is (no n) =
        dropped_some table mark k (gone s.owners m) l
        (so_far.down k m l is (omega arith) (omega (arith, slab_ends s P k m l is, live_slot (slot_table s P) k m l is))) n
        ∙ ap Node (sym (tight_some s.owners m n))

    there : (k : ℕ) (m : NodeMeta) → k < mark → node_entry table k ≡ Node m → (i : ℕ) → Aside s.slots mark i
        → Dec (slot_word s.slots k 1 ≡ 0) → (j : ℕ) → j < width → i ≡ width * k + j → ⊥
    there k m l is i aside (yes e) =
        absurd (live_says table k m is (so_far.others (width * k + 1) (free_aside s.slots mark k e 1 (omega arith)) ∙ e))
    there k m l is i aside (no n) = aside k _ l (entry_live s.slots k n)
