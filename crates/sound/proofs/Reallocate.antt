-- A resize into a new slab keeps a sound store: the slab is taken, the kept ports move into it, and the old one, without a wire, is freed.
use Prim.Native.Nat.{ℕ, suc, zero, ◌+◌, ◌-◌, ◌*◌, ◌≤◌, ◌<◌}
use mathlib.Core.List.{List}
use mathlib.Core.Logic.{◌⊎◌, inl, inr}
use mathlib.Core.Path.{◌≡◌, refl, sym, ◌∙◌}
use mathlib.Core.Bool.{Bool, true, false}
use native.Mathlib.Omega.{arith}
use native.Mathlib.Decide.{ℕ_discrete, dec_lt, dec_le}
use lib.ListN.{length, get_or, set}
use lib.Seq.{get_or-set_other}
use lib.Dec.{ltb}
use borrow.Author.Tests.{ne_eqb, lt-ltb, le-ltb}
use Rattle.slabs.specs.Choice.{pick}
use Rattle.slabs.specs.PortEntry.{Live, owner_word}
use Rattle.slabs.specs.NodeEntry.{set_entry}
use Rattle.slabs.specs.Links.{Wiring, pairs, wired_at, cut_run, wires_in}
use Rattle.slabs.specs.Slab.{head_of, at_hand, taken_first, taken_links, taken_heads, taken_mark, filled, freed_links, freed_owners, freed_heads}
use Rattle.slabs.specs.Slabs.{in_slab, Slabs, with}
use Rattle.slabs.specs.declared.node_entry.NodeMeta.{NodeMeta}
use Rattle.slabs.specs.declared.node_entry.NodeEntry.TheVariants.{Node}
use Rattle.slabs.proofs.Shapes.{filled-length}
use Rattle.slabs.proofs.EntryLaws.{owner_live}
use Rattle.slabs.proofs.FillLaws.{filled_in, written_length}
use Rattle.slabs.proofs.WireLaws.{cut_at_loose}
use Rattle.slabs.proofs.SlabLaws.{in_slab_yes, in_slab_at, in_slab_each, end_of_slab, slabs_kept, slabs_held, held_le, Fresh, take_gives, take_fresh, free_returns_core}
use Rattle.slabs.proofs.HeldLaws.{written_wiring, written_pairs, relinked_wiring, relinked_pairs, take_wiring, take_pairs}
use Rattle.edits.specs.Store.{Store}
use Rattle.edits.specs.Steps.{removed_links, removed_owners, removed_heads}
use Rattle.edits.specs.Counts.{live_ports}
use Rattle.renumber.specs.Moves.{moved_run}
use Rattle.renumber.specs.Resize.{is_in_place, new_size, grown_once, grown, inlets_kept, outlets_kept, cut_removed, cut_wires, inlets_into, outlets_into, moved_into, changed_slots, changed_owners, recounted, reallocated_links, resized_into}
use Rattle.renumber.specs.declared.resize.Change.{Change}
use Rattle.sound.specs.Sound.{Owned, LiveSlot, held_at, held_in}
use Rattle.sound.proofs.Parts.{Parts, port_table}
use Rattle.sound.proofs.MoveLaws.{LiveWiring, Carried, Quiet, Runs, rekeyed_wiring, carried_then, quiet_then, owners_run, placed_run, run_carried, run_quiet, owners_run_other, owners_run_new, owners_run_old, quiet_wiring, live_wiring, dead_loose}
use Rattle.sound.proofs.Changes.{Granted, keeps, Rests, rests, bared, bared_length, bared_outside, bared_bare, bared_wiring, bared_pairs, cut_length, cut_pairs, cut_still, unheld_outside, reslot, changed_parts, KeptIn, kept_agree, bared_kept}
use Rattle.sound.proofs.OwnerLaws.{owned_kept, owned_written, written_outside, ports_some, ports_change, ports_none, ports_more, pairs_more, owned_ports}
use Rattle.sound.proofs.PortTable.{taken_mark_lem, in_slab_none, bare_above, freed_outside}
use Rattle.sound.proofs.Shapes.{taken_heads_length, removed_heads_length}
use Rattle.sound.proofs.Fits.{slab_inside}

-- 2 to the k
abbrev twice : ℕ → ℕ
twice zero = 1
twice (suc k) = twice k * 2

-- Doubled so often, a size is enough or has been doubled each time.
grown_cases : (n k : ℕ) → (n ≤ grown n k) ⊎ (grown n k ≡ twice k)
unfolding grown grown_once
grown_cases n zero = inr refl
grown_cases n (suc k) = go (grown_cases n k) (dec_lt (grown n k) n)
  where
    go : (n ≤ grown n k) ⊎ (grown n k ≡ twice k) → Dec (grown n k < n)
        → (n ≤ pick (ltb (grown n k) n) (grown n k * 2) (grown n k)) ⊎ (pick (ltb (grown n k) n) (grown n k * 2) (grown n k) ≡ twice k * 2)
    go (inl l) d = inl (rw (le-ltb (grown n k) n l) l)
    go (inr e) (yes l) = inr (rw (lt-ltb (grown n k) n l, e))
    go (inr e) (no l) = let h : n ≤ grown n k = omega arith in inl (rw (le-ltb (grown n k) n h) h)

-- A slab's size is enough for its ports,
pub size_covers : (n : ℕ) → n ≤ 32768 → n ≤ grown n 15
size_covers n h = go (grown_cases n 15)
  where
    go : (n ≤ grown n 15) ⊎ (grown n 15 ≡ twice 15) → n ≤ grown n 15
    go (inl l) = l
    go (inr e) = omega arith

-- and 1 at least.
pub size_some : (n k : ℕ) → 1 ≤ grown n k
unfolding grown grown_once
size_some n zero = omega arith
size_some n (suc k) = go (ltb (grown n k) n) (size_some n k)
  where
    go : (t : Bool) → 1 ≤ grown n k → 1 ≤ pick t (grown n k * 2) (grown n k)
    go true h = omega arith
    go false h = h

-- Ports without wires: there is nothing to cut,
pub cut_none : (links : List ℕ) (first n : ℕ) → ((i : ℕ) → i < n → get_or links (first + i) 0 ≡ 0) → cut_run links first n ≡ links
unfolding cut_run
cut_none links first zero loose = refl
cut_none links first (suc n) loose =
    let e : cut_run links first n ≡ links = cut_none links first n (λ i l. loose i (omega arith)) in
    rw e (cut_at_loose links (first + n) (loose n (omega arith)))

-- and freeing their slab cuts no wire.
pub free_cuts_none : (links : List ℕ) (first n : ℕ) → ((i : ℕ) → i < n → get_or links (first + i) 0 ≡ 0) → wires_in links first n ≡ 0
unfolding wires_in wired_at
free_cuts_none links first zero loose = refl
free_cuts_none links first (suc n) loose =
    rw
    (cut_none links first n (λ i l. loose i (omega arith)), loose n (omega arith))
    (omega (arith, free_cuts_none links first n (λ i l. loose i (omega arith))))

-- A slab without wires, where there is one, is freed: the slab part is as without it, and no word outside it changes.
pub record Freed (links owners heads : List ℕ) (mark : ℕ) (held : ℕ → ℕ) (m : NodeMeta) : Type 0 where
  pub slabs : Slabs (removed_links links heads m) (removed_owners owners m) (removed_heads heads m) mark held
  pub links_same : (p : ℕ) → in_slab m.first m.capacity p ≡ 0 → get_or (removed_links links heads m) p 0 ≡ get_or links p 0
  pub owners_same : (p : ℕ) → in_slab m.first m.capacity p ≡ 0 → get_or (removed_owners owners m) p 0 ≡ get_or owners p 0
  pub owners_gone : (i : ℕ) → i < m.capacity → get_or (removed_owners owners m) (m.first + i) 0 ≡ 0

-- A held slab whose ports have no wire can be freed so.
pub slab_freed_lem : (links owners heads : List ℕ) (mark : ℕ) (held : ℕ → ℕ) (m : NodeMeta) → m.capacity ≤ length heads
    → ((i : ℕ) → i < m.capacity → get_or links (m.first + i) 0 ≡ 0) → Slabs links owners heads mark (with held m.first m.capacity)
    → Freed links owners heads mark held m
unfolding removed_links removed_owners removed_heads freed_links freed_owners freed_heads
slab_freed_lem links owners heads mark held m sized loose slabs = go (ℕ_discrete m.capacity 0)
  where
    go : Dec (m.capacity ≡ 0) → Freed links owners heads mark held m
    go (yes e) =
        record {
          slabs = rw e (slabs_held slabs (λ p. omega (arith, in_slab_none m.first m.capacity p e)));
          links_same = λ p out. rw e;
          owners_same = λ p out. rw e;
          owners_gone = λ i l. absurd (omega arith);
        }
    go (no n) =
        let some : 1 ≤ m.capacity = omega arith in
        let ends = end_of_slab held m.first m.capacity slabs some in
        let bare : (i : ℕ) → i < m.capacity → get_or (filled owners m.first m.capacity 0) (m.first + i) 0 ≡ 0 =
        λ i l. filled_in owners m.first m.capacity 0 i l (omega (arith, ends, slabs.room, slabs.equal))
        in
        record {
          slabs =
              rw (links_is, owners_is, heads_is)
              (free_returns_core held m.first m.capacity slabs some sized links (filled owners m.first m.capacity 0) refl
              (filled-length owners m.first m.capacity 0) loose (λ p h. refl) bare (freed_outside owners m.first m.capacity));
          links_same = λ p out.
              rw links_is
              (get_or-set_other links m.first p (head_of heads m.capacity) 0
              (λ e. omega (arith, in_slab_yes m.first m.capacity p (omega arith) (omega arith))));
          owners_same = λ p out. rw owners_is (freed_outside owners m.first m.capacity p out);
          owners_gone = λ i l. rw owners_is (bare i l);
        }
      where
        links_is : removed_links links heads m ≡ set links m.first (head_of heads m.capacity)
        links_is = rw (ne_eqb m.capacity 0 n, cut_none links m.first m.capacity loose)

        owners_is : removed_owners owners m ≡ filled owners m.first m.capacity 0
        owners_is = rw (ne_eqb m.capacity 0 n)

        heads_is : removed_heads heads m ≡ set heads (m.capacity - 1) (m.first + 1)
        heads_is = rw (ne_eqb m.capacity 0 n)

-- What moving the kept ports of a step into the slab of this size from first on may count on: the step's old slab is apart from it, and has
-- the kept ports and no other; the new one is nobody's and has no wire; both are held and end at the mark or below it.
pub record Into (owners links : List ℕ) (ch : Change) (first size mark : ℕ) (held : ℕ → ℕ) : Type 0 where
  pub fit : ch.meta.inlets + ch.meta.outlets ≤ ch.meta.capacity
  pub covers : ch.inlets + ch.outlets ≤ size
  pub apart : (ch.meta.first + ch.meta.capacity ≤ first) ⊎ (first + size ≤ ch.meta.first)
  pub kept : KeptIn owners ch ch.meta.first ch.meta.inlets ch.meta.capacity
  pub fresh_dead : (i : ℕ) → i < size → get_or owners (first + i) 0 ≡ 0
  pub fresh_loose : (i : ℕ) → i < size → get_or links (first + i) 0 ≡ 0
  pub old_held : (i : ℕ) → i < ch.meta.capacity → 1 ≤ held (ch.meta.first + i)
  pub new_held_lem : (i : ℕ) → i < size → 1 ≤ held (first + i)
  pub old_ends : ch.meta.first + ch.meta.capacity ≤ mark
  pub new_ends : first + size ≤ mark
  pub wiring : Wiring owners links held
  pub bare : (p : ℕ) → held p ≡ 0 → get_or owners p 0 ≡ 0
  pub equal : length owners ≡ length links
  pub room : mark ≤ length links

-- the link words once the inlets have moved
abbrev inlets_moved : List ℕ → Change → ℕ → List ℕ
inlets_moved links ch first = moved_run links (inlets_into ch first) (inlets_kept ch)

-- the owner words as they go with the inlets
abbrev inlets_ghost : List ℕ → Change → ℕ → List ℕ
inlets_ghost owners ch first = owners_run owners (inlets_into ch first) (inlets_kept ch)

-- and then with the outlets
abbrev pub into_ghost : List ℕ → Change → ℕ → List ℕ
into_ghost owners ch first = owners_run (inlets_ghost owners ch first) (outlets_into ch first) (outlets_kept ch)

module _ {owners links : List ℕ} {ch : Change} {first size mark : ℕ} {held : ℕ → ℕ} (into : Into owners links ch first size mark held) where
  -- No port of one slab is one of the other.
  ports_apart : (x y : ℕ) → x < ch.meta.capacity → y < size → ch.meta.first + x ≡ first + y → ⊥
  ports_apart x y l k e = go into.apart
    where
      go : (ch.meta.first + ch.meta.capacity ≤ first) ⊎ (first + size ≤ ch.meta.first) → ⊥
      go (inl a) = omega arith
      go (inr a) = omega arith

  live_before : LiveWiring owners links
  live_before = live_wiring into.wiring into.bare

  inlets_run : Runs owners (inlets_into ch first) mark
  inlets_run =
      record {
        live = λ i l. rw (into.kept.inlet i l) (owner_live ch.node 0);
        target = λ i l. inl (into.fresh_dead i (omega (arith, keeps ch, into.covers)));
        down = λ e. go into.apart;
        up = λ e. let z : ◌≡◌ {A = ℕ} 0 1 = cc in absurd (omega arith);
        from_below = omega (arith, keeps ch, into.fit, into.old_ends);
        to_below = omega (arith, keeps ch, into.covers, into.new_ends);
      }
    where
      go : (ch.meta.first + ch.meta.capacity ≤ first) ⊎ (first + size ≤ ch.meta.first)
          → (first ≤ ch.meta.first) ⊎ (ch.meta.first + inlets_kept ch ≤ first)
      go (inl a) = inr (omega (arith, keeps ch, into.fit))
      go (inr a) = inl (omega arith)

  inlets_carried : Carried owners links (inlets_ghost owners ch first) (inlets_moved links ch first) (placed_run (inlets_into ch first) (inlets_kept ch)) mark
  inlets_carried = run_carried owners links (inlets_into ch first) mark inlets_run live_before into.equal into.room (inlets_kept ch) (omega arith)

  inlets_quiet : Quiet owners links (inlets_ghost owners ch first) (inlets_moved links ch first)
  inlets_quiet =
      run_quiet owners links (inlets_into ch first) mark inlets_run live_before into.equal into.room
      (λ i l dead. into.fresh_loose i (omega (arith, keeps ch, into.covers))) (inlets_kept ch) (omega arith)

  -- the inlets have gone: a port of the old slab that is no kept inlet is as it was,
  first_old : (x : ℕ) → x < ch.meta.capacity → inlets_kept ch ≤ x
      → get_or (inlets_ghost owners ch first) (ch.meta.first + x) 0 ≡ get_or owners (ch.meta.first + x) 0
  first_old x l k =
      owners_run_other owners (inlets_into ch first) (ch.meta.first + x) (λ i b e. omega arith)
      (λ i b e. ports_apart x i l (omega (arith, keeps ch, into.covers)) e)

  -- and so is one of the new slab that is no place of theirs.
  first_new : (x : ℕ) → x < size → inlets_kept ch ≤ x → get_or (inlets_ghost owners ch first) (first + x) 0 ≡ get_or owners (first + x) 0
  first_new x l k =
      owners_run_other owners (inlets_into ch first) (first + x)
      (λ i b e. ports_apart i x (omega (arith, keeps ch, into.fit)) l (sym e)) (λ i b e. omega arith)

  first_outlet : (i : ℕ) → i < outlets_kept ch → get_or (inlets_ghost owners ch first) (ch.meta.first + ch.meta.inlets + i) 0 ≡ owner_word ch.node 1
  first_outlet i l =
      let e : ch.meta.first + ch.meta.inlets + i ≡ ch.meta.first + (ch.meta.inlets + i) = omega arith in
      rw e (first_old (ch.meta.inlets + i) (omega (arith, keeps ch, into.fit)) (omega (arith, keeps ch))) ∙ into.kept.outlet i l

  first_dead : (i : ℕ) → i < outlets_kept ch → get_or (inlets_ghost owners ch first) (first + ch.inlets + i) 0 ≡ 0
  first_dead i l =
      let e : first + ch.inlets + i ≡ first + (ch.inlets + i) = omega arith in
      rw e
      (first_new (ch.inlets + i) (omega (arith, keeps ch, into.covers)) (omega (arith, keeps ch))
      ∙ into.fresh_dead (ch.inlets + i) (omega (arith, keeps ch, into.covers)))

  outlets_run : Runs (inlets_ghost owners ch first) (outlets_into ch first) mark
  outlets_run =
      record {
        live = λ i l. rw (first_outlet i l) (owner_live ch.node 1);
        target = λ i l. inl (first_dead i l);
        down = λ e. go into.apart;
        up = λ e. let z : ◌≡◌ {A = ℕ} 0 1 = cc in absurd (omega arith);
        from_below = omega (arith, keeps ch, into.fit, into.old_ends);
        to_below = omega (arith, keeps ch, into.covers, into.new_ends);
      }
    where
      go : (ch.meta.first + ch.meta.capacity ≤ first) ⊎ (first + size ≤ ch.meta.first)
          → (first + ch.inlets ≤ ch.meta.first + ch.meta.inlets) ⊎ (ch.meta.first + ch.meta.inlets + outlets_kept ch ≤ first + ch.inlets)
      go (inl a) = inr (omega (arith, keeps ch, into.fit))
      go (inr a) = inl (omega (arith, into.covers))

  between : LiveWiring (inlets_ghost owners ch first) (inlets_moved links ch first)
  between = rekeyed_wiring inlets_carried.rekeyed live_before

  equal_between : length (inlets_ghost owners ch first) ≡ length (inlets_moved links ch first)
  equal_between = inlets_carried.owners_length ∙ into.equal ∙ sym inlets_carried.links_length

  room_between : mark ≤ length (inlets_moved links ch first)
  room_between = omega (arith, inlets_carried.links_length, into.room)

  -- The kept ports move: the live ports are rekeyed, and the ports and the wires are as many;
  pub into_carried : Carried owners links (into_ghost owners ch first) (moved_into links ch first)
      (λ p. placed_run (outlets_into ch first) (outlets_kept ch) (placed_run (inlets_into ch first) (inlets_kept ch) p)) mark
  unfolding moved_into
  into_carried =
      carried_then inlets_carried
      (run_carried (inlets_ghost owners ch first) (inlets_moved links ch first) (outlets_into ch first) mark outlets_run between equal_between room_between
      (outlets_kept ch) (omega arith))

  -- the other ports are quiet,
  pub into_quiet : Quiet owners links (into_ghost owners ch first) (moved_into links ch first)
  unfolding moved_into
  into_quiet =
      quiet_then inlets_quiet
      (run_quiet (inlets_ghost owners ch first) (inlets_moved links ch first) (outlets_into ch first) mark outlets_run between equal_between room_between
      (λ i l dead.
      let e : first + ch.inlets + i ≡ first + (ch.inlets + i) = omega arith in
      let b : ch.inlets + i < size = omega (arith, keeps ch, into.covers) in
      inlets_quiet.still (first + ch.inlets + i) (rw e (into.fresh_dead (ch.inlets + i) b)) dead ∙ rw e (into.fresh_loose (ch.inlets + i) b))
      (outlets_kept ch) (omega arith))

  -- and rule 6 is true of what is held.
  pub into_wiring : Wiring (into_ghost owners ch first) (moved_into links ch first) held
  into_wiring = quiet_wiring into_carried.rekeyed into_quiet live_before into.wiring

  -- Nobody owns a port of the old slab,
  pub into_old : (x : ℕ) → x < ch.meta.capacity → get_or (into_ghost owners ch first) (ch.meta.first + x) 0 ≡ 0
  into_old x l = go (dec_lt x (inlets_kept ch)) (dec_le ch.meta.inlets x) (dec_lt x (ch.meta.inlets + outlets_kept ch))
    where
      other : (ch.meta.inlets ≤ x → x < ch.meta.inlets + outlets_kept ch → ⊥)
          → get_or (into_ghost owners ch first) (ch.meta.first + x) 0 ≡ get_or (inlets_ghost owners ch first) (ch.meta.first + x) 0
      other out =
          owners_run_other (inlets_ghost owners ch first) (outlets_into ch first) (ch.meta.first + x) (λ i b e. out (omega arith) (omega arith))
          (λ i b e. ports_apart x (ch.inlets + i) l (omega (arith, keeps ch, into.covers)) (omega arith))

      go : Dec (x < inlets_kept ch) → Dec (ch.meta.inlets ≤ x) → Dec (x < ch.meta.inlets + outlets_kept ch)
          → get_or (into_ghost owners ch first) (ch.meta.first + x) 0 ≡ 0
      go (yes a) b c =
          other (λ u v. omega (arith, keeps ch))
          ∙ owners_run_old owners links (inlets_into ch first) mark inlets_run live_before into.equal into.room x a
          (λ j k e. ports_apart x j l (omega (arith, keeps ch, into.covers)) e)
      go (no a) (yes b) (yes c) =
          let e : ch.meta.first + x ≡ ch.meta.first + ch.meta.inlets + (x - ch.meta.inlets) = omega arith in
          rw e
          (owners_run_old (inlets_ghost owners ch first) (inlets_moved links ch first) (outlets_into ch first) mark outlets_run between equal_between room_between
          (x - ch.meta.inlets) (omega arith)
          (λ j k f. ports_apart x (ch.inlets + j) l (omega (arith, keeps ch, into.covers)) (omega arith)))
      go (no a) (yes b) (no c) = other (λ u v. c v) ∙ first_old x l (omega arith) ∙ into.kept.rest x l (omega arith) (λ u v. c v)
      go (no a) (no b) c = other (λ u v. b u) ∙ first_old x l (omega arith) ∙ into.kept.rest x l (omega arith) (λ u v. b u)

  -- the kept ports, and no other, are live in the new one,
  pub into_kept : KeptIn (into_ghost owners ch first) ch first ch.inlets size
  into_kept =
      record {
        inlet = λ i l.
            owners_run_other (inlets_ghost owners ch first) (outlets_into ch first) (first + i)
            (λ j b e. ports_apart (ch.meta.inlets + j) i (omega (arith, keeps ch, into.fit)) (omega (arith, keeps ch, into.covers)) (omega arith))
            (λ j b e. omega (arith, keeps ch))
            ∙ owners_run_new owners links (inlets_into ch first) mark inlets_run live_before into.equal into.room i l
            ∙ into.kept.inlet i l;
        outlet = λ i l.
            owners_run_new (inlets_ghost owners ch first) (inlets_moved links ch first) (outlets_into ch first) mark outlets_run between
            equal_between room_between i l
            ∙ first_outlet i l;
        rest = λ i l a b.
            owners_run_other (inlets_ghost owners ch first) (outlets_into ch first) (first + i)
            (λ j c e. ports_apart (ch.meta.inlets + j) i (omega (arith, keeps ch, into.fit)) l (omega arith))
            (λ j c e. b (omega arith) (omega arith))
            ∙ first_new i l a
            ∙ into.fresh_dead i l;
      }

  -- and each port outside both slabs has the owner that it had.
  pub into_outside : (p : ℕ) → in_slab ch.meta.first ch.meta.capacity p ≡ 0 → in_slab first size p ≡ 0
      → get_or (into_ghost owners ch first) p 0 ≡ get_or owners p 0
  into_outside p a b =
      owners_run_other (inlets_ghost owners ch first) (outlets_into ch first) p
      (λ i l e. omega (arith, in_slab_yes ch.meta.first ch.meta.capacity p (omega arith) (omega (arith, keeps ch, into.fit))))
      (λ i l e. omega (arith, in_slab_yes first size p (omega arith) (omega (arith, keeps ch, into.covers))))
      ∙ owners_run_other owners (inlets_into ch first) p
      (λ i l e. omega (arith, in_slab_yes ch.meta.first ch.meta.capacity p (omega arith) (omega (arith, keeps ch, into.fit))))
      (λ i l e. omega (arith, in_slab_yes first size p (omega arith) (omega (arith, keeps ch, into.covers))))

-- where the new slab starts, the tables once it is taken, and who holds what then
abbrev new_place : Store → Change → ℕ
new_place s ch = taken_first s.heads s.counters.portmark (new_size ch)

abbrev took_links : Store → Change → List ℕ
took_links s ch = taken_links (cut_removed s.links ch) s.heads (new_size ch)

abbrev took_heads : Store → Change → List ℕ
took_heads s ch = taken_heads (cut_removed s.links ch) s.heads (new_size ch)

abbrev took_mark : Store → Change → ℕ
took_mark s ch = taken_mark s.heads s.counters.portmark (new_size ch)

abbrev took_held : Store → Change → ℕ → ℕ
took_held s ch = with (held_in s) (new_place s ch) (new_size ch)

-- the step as it shall be, in its new slab
abbrev pub new_meta : Store → Change → NodeMeta
new_meta s ch = record { first = new_place s ch; inlets = ch.inlets; outlets = ch.outlets; capacity = new_size ch }

-- who holds what once its slot says so
abbrev new_held : Store → Change → ℕ → ℕ
new_held s ch = held_at (set_entry s.slots ch.node (Node (new_meta s ch))) s.counters.nodemark

-- the tables after the moves, before the old slab is freed
abbrev settled_links : Store → Change → List ℕ
settled_links s ch = moved_into (took_links s ch) ch (new_place s ch)

abbrev settled_owners : Store → Change → List ℕ
settled_owners s ch = changed_owners s.owners ch (new_place s ch)

abbrev settled_ghost : Store → Change → List ℕ
settled_ghost s ch = into_ghost (bared s.owners ch) ch (new_place s ch)

module _ (s : Store) (P : Parts s) (ch : Change) (can : Granted s ch) (away : is_in_place ch ≡ false) where
  at_rest : Rests s ch.node ch.meta
  at_rest = rests s P ch.node ch.meta can.below can.is

  some : 1 ≤ new_size ch
  some = size_some (ch.inlets + ch.outlets) 15

  covers : ch.inlets + ch.outlets ≤ new_size ch
  covers = size_covers (ch.inlets + ch.outlets) (omega (arith, can.few_inlets, can.few_outlets))

  had : at_hand s.heads s.counters.portmark (length (cut_removed s.links ch)) (new_size ch) ≡ true
  had = rw (cut_length s.links ch) (can.slab away)

  cut_slabs : Slabs (cut_removed s.links ch) (bared s.owners ch) s.heads s.counters.portmark (held_in s)
  cut_slabs =
      slabs_kept P.slabs (cut_removed s.links ch) (bared s.owners ch) (cut_length s.links ch) (bared_length s.owners ch) (cut_still s P ch at_rest)
      (λ p h. bared_bare s P ch can.below can.is p h ∙ sym (P.slabs.bare p h))

  took : Slabs (took_links s ch) (bared s.owners ch) (took_heads s ch) (took_mark s ch) (took_held s ch)
  took = take_gives cut_slabs (new_size ch) some (can.sized away) had

  fresh : Fresh (cut_removed s.links ch) (bared s.owners ch) (took_links s ch) (took_mark s ch) (held_in s) (new_place s ch) (new_size ch)
  fresh = take_fresh cut_slabs (new_size ch) some (can.sized away) had

  -- The two slabs have no port in common, so one ends before the other starts.
  apart : (ch.meta.first + ch.meta.capacity ≤ new_place s ch) ⊎ (new_place s ch + new_size ch ≤ ch.meta.first)
  apart =
      go (dec_le ch.meta.first (new_place s ch)) (dec_le (ch.meta.first + ch.meta.capacity) (new_place s ch))
      (dec_le (new_place s ch + new_size ch) ch.meta.first)
    where
      go : Dec (ch.meta.first ≤ new_place s ch) → Dec (ch.meta.first + ch.meta.capacity ≤ new_place s ch)
          → Dec (new_place s ch + new_size ch ≤ ch.meta.first)
          → (ch.meta.first + ch.meta.capacity ≤ new_place s ch) ⊎ (new_place s ch + new_size ch ≤ ch.meta.first)
      go a (yes b) c = inl b
      go a (no b) (yes c) = inr c
      go (yes a) (no b) (no c) =
          let x : ℕ = new_place s ch - ch.meta.first in
          let e : ch.meta.first + x ≡ new_place s ch + 0 = omega arith in
          absurd (omega (arith, rw e at (at_rest.held x (omega arith)), fresh.unheld 0 (omega (arith, some))))
      go (no a) (no b) (no c) =
          let x : ℕ = ch.meta.first - new_place s ch in
          let e : new_place s ch + x ≡ ch.meta.first + 0 = omega arith in
          absurd (omega (arith, rw e at (fresh.unheld x (omega arith)), at_rest.held 0 (placed (ℕ_discrete ch.meta.capacity 0))))
        where
          placed : Dec (ch.meta.capacity ≡ 0) → 0 < ch.meta.capacity
          placed (yes z) = absurd (omega (arith, at_rest.slot.unplaced z))
          placed (no z) = omega arith

  into : Into (bared s.owners ch) (took_links s ch) ch (new_place s ch) (new_size ch) (took_mark s ch) (took_held s ch)
  into =
      record {
        fit = at_rest.slot.fit;
        covers = covers;
        apart = apart;
        kept = bared_kept s.owners ch at_rest.owned at_rest.slot.fit (slab_inside s P ch.node ch.meta can.below can.is);
        fresh_dead = fresh.unowned;
        fresh_loose = fresh.unlinked;
        old_held = λ i l. omega (arith, at_rest.held i l);
        new_held_lem = λ i l. omega (arith, in_slab_at (new_place s ch) (new_size ch) i l);
        old_ends = omega (arith, at_rest.ends, taken_mark_lem s.heads s.counters.portmark (new_size ch));
        new_ends = fresh.ends;
        wiring = take_wiring cut_slabs (new_size ch) some (can.sized away) had (bared_wiring s P ch can.below can.is);
        bare = λ p h. bared_bare s P ch can.below can.is p (omega arith);
        equal = took.equal;
        room = took.room;
      }

  -- The step's slot fits.
  fits : LiveSlot (length s.heads) (new_meta s ch)
  fits =
      record {
        few_inlets = can.few_inlets;
        few_outlets = can.few_outlets;
        fit = covers;
        sized = can.sized away;
        unplaced = λ e. absurd (omega (arith, some));
      }

  -- Each port is held once the old slab is freed as once the new one is taken, but for the old one.
  held_less : (p : ℕ) → took_held s ch p ≡ with (new_held s ch) ch.meta.first ch.meta.capacity p
  held_less p = sym ((reslot s P ch.node ch.meta (new_meta s ch) can.below can.is fits).held p)

  -- The owner words of the new slab are written, and no other.
  outside_same : (p : ℕ) → in_slab (new_place s ch) (new_size ch) p ≡ 0 → get_or (settled_owners s ch) p 0 ≡ get_or s.owners p 0
  outside_same p = written_outside s.owners ch.node (new_place s ch) ch.inlets ch.outlets (new_size ch) p covers

  -- Nobody owned a port of the new slab.
  fresh_owner : (i : ℕ) → i < new_size ch → get_or s.owners (new_place s ch + i) 0 ≡ 0
  fresh_owner i l = P.slabs.bare (new_place s ch + i) (fresh.unheld i l)

  inside : new_place s ch + new_size ch ≤ length s.owners
  inside = omega (arith, fresh.ends, fresh.inside, cut_length s.links ch, P.slabs.equal)

  written_owned : Owned (settled_owners s ch) ch.node (new_meta s ch)
  written_owned = owned_written s.owners ch.node (new_meta s ch) (omega (arith, inside, covers)) (λ i a b. fresh_owner i b)

  -- After the moves the slab part is true,
  settled : Slabs (settled_links s ch) (settled_owners s ch) (took_heads s ch) (took_mark s ch) (with (new_held s ch) ch.meta.first ch.meta.capacity)
  settled =
      slabs_held
      (slabs_kept took (settled_links s ch) (settled_owners s ch)
      (into_carried into).links_length
      (written_length s.owners ch.node (new_place s ch) ch.inlets ch.outlets ∙ sym (bared_length s.owners ch))
      (λ p h. (into_quiet into).still p (bare p h) (gone p h))
      (λ p h. outside_same p (omega arith) ∙ P.slabs.bare p (omega arith) ∙ sym (bare p h)))
      held_less
    where
      bare : (p : ℕ) → took_held s ch p ≡ 0 → get_or (bared s.owners ch) p 0 ≡ 0
      bare p h = bared_bare s P ch can.below can.is p (omega arith)

      gone : (p : ℕ) → took_held s ch p ≡ 0 → get_or (settled_ghost s ch) p 0 ≡ 0
      gone p h =
          into_outside into p
          (unheld_outside s P ch can.below can.is p (omega arith)) (omega arith)
          ∙ bare p h

  settled_wiring : Wiring (settled_ghost s ch) (settled_links s ch) (took_held s ch)
  settled_wiring = into_wiring into

  -- and the old slab has no wire left.
  old_loose : (i : ℕ) → i < ch.meta.capacity → get_or (settled_links s ch) (ch.meta.first + i) 0 ≡ 0
  old_loose i l =
      dead_loose settled_wiring (ch.meta.first + i) (into.old_held i l)
      (into_old into i l)

  freed : Freed (settled_links s ch) (settled_owners s ch) (took_heads s ch) (took_mark s ch) (new_held s ch) ch.meta
  freed =
      slab_freed_lem (settled_links s ch) (settled_owners s ch) (took_heads s ch) (took_mark s ch) (new_held s ch) ch.meta
      (omega (arith, taken_heads_length (cut_removed s.links ch) s.heads (new_size ch), at_rest.slot.sized)) old_loose settled

  -- The step's owner words are those of each port with a wire.
  agrees : (p : ℕ) → (get_or (settled_links s ch) p 0 ≡ 0 → ⊥) → get_or (removed_owners (settled_owners s ch) ch.meta) p 0 ≡ get_or (settled_ghost s ch) p 0
  agrees p wired = by_old (dec_le 1 (in_slab ch.meta.first ch.meta.capacity p))
    where
      by_new : in_slab ch.meta.first ch.meta.capacity p ≡ 0 → Dec (1 ≤ in_slab (new_place s ch) (new_size ch) p)
          → get_or (settled_owners s ch) p 0 ≡ get_or (settled_ghost s ch) p 0
      by_new out (yes h) = kept_agree (into_kept into) written_owned settled_wiring into.new_held_lem p h wired
      by_new out (no h) =
          outside_same p (omega arith)
          ∙ sym (bared_outside s.owners ch p at_rest.slot.fit out)
          ∙ sym (into_outside into p out (omega arith))

      by_old : Dec (1 ≤ in_slab ch.meta.first ch.meta.capacity p) → get_or (removed_owners (settled_owners s ch) ch.meta) p 0 ≡ get_or (settled_ghost s ch) p 0
      by_old (yes h) = absurd (wired (in_slab_each (λ q. get_or (settled_links s ch) q 0 ≡ 0) ch.meta.first ch.meta.capacity old_loose p h))
      by_old (no h) =
          let out : in_slab ch.meta.first ch.meta.capacity p ≡ 0 = omega arith in
          freed.owners_same p out ∙ by_new out (dec_le 1 (in_slab (new_place s ch) (new_size ch) p))

  -- No live port is left in the old slab,
  old_gone : (p : ℕ) → Live (removed_owners (settled_owners s ch) ch.meta) p → in_slab ch.meta.first ch.meta.capacity p ≡ 0
  old_gone p live =
      let owners' : List ℕ = removed_owners (settled_owners s ch) ch.meta in
      let out : 1 ≤ in_slab ch.meta.first ch.meta.capacity p → ⊥ =
      λ h. live (in_slab_each (λ q. get_or owners' q 0 ≡ 0) ch.meta.first ch.meta.capacity freed.owners_gone p h) in
      omega arith

  -- so freeing it leaves the link words of live ports.
  live_same : (p : ℕ) → Live (removed_owners (settled_owners s ch) ch.meta) p
      → get_or (removed_links (settled_links s ch) (took_heads s ch) ch.meta) p 0 ≡ get_or (settled_links s ch) p 0
  live_same p live = freed.links_same p (old_gone p live)

  -- A resize into a new slab keeps the parts of a sound store.
  pub into_parts : Parts (resized_into s ch)
  unfolding resized_into changed_slots recounted reallocated_links
  into_parts =
      changed_parts s P ch.node ch.meta (new_meta s ch) can.below can.is fits (removed_links (settled_links s ch) (took_heads s ch) ch.meta)
      (removed_owners (settled_owners s ch) ch.meta) (removed_heads (took_heads s ch) ch.meta) (took_mark s ch)
      (s.counters.ports - (ch.meta.inlets + ch.meta.outlets) + (ch.inlets + ch.outlets)) (s.counters.links - cut_wires s.links ch)
      (removed_heads_length (took_heads s ch) ch.meta ∙ taken_heads_length (cut_removed s.links ch) s.heads (new_size ch))
      (λ p h out. new_unheld p h)
      (λ p out out'. freed.owners_same p out ∙ outside_same p out') owned freed.slabs wiring ports wires
    where
      owners' : List ℕ
      owners' = removed_owners (settled_owners s ch) ch.meta

      links' : List ℕ
      links' = removed_links (settled_links s ch) (took_heads s ch) ch.meta

      new_unheld : (p : ℕ) → 1 ≤ in_slab (new_place s ch) (new_size ch) p → held_in s p ≡ 0
      new_unheld = in_slab_each (λ q. held_in s q ≡ 0) (new_place s ch) (new_size ch) fresh.unheld

      owned : Owned owners' ch.node (new_meta s ch)
      owned = owned_kept written_owned owners' covers (λ p h. freed.owners_same p (unheld_outside s P ch can.below can.is p (new_unheld p h)))

      was : (p q : ℕ) → 1 ≤ new_held s ch p → get_or links' p 0 ≡ suc q → (1 ≤ took_held s ch p) × (get_or (settled_links s ch) p 0 ≡ suc q)
      was p q h e = (omega (arith, held_less p), sym (freed.links_same p (omega (arith, held_less p, held_le took p))) ∙ e)

      wiring : Wiring owners' links' (new_held s ch)
      wiring =
          relinked_wiring owners' (settled_links s ch) links' live_same (took_held s ch) (new_held s ch) was
          (written_wiring (settled_ghost s ch) owners' (settled_links s ch) agrees settled_wiring)

      raised : s.counters.portmark ≤ took_mark s ch
      raised = taken_mark_lem s.heads s.counters.portmark (new_size ch)

      ports : s.counters.ports - (ch.meta.inlets + ch.meta.outlets) + (ch.inlets + ch.outlets) ≡ live_ports owners' (took_mark s ch)
      ports =
          omega (
            arith,
            P.counted.ports,
            ports_more s.owners s.counters.portmark (took_mark s ch) raised (bare_above (port_table s P)),
            ports_some s.owners ch.meta.first ch.meta.capacity s.counters.portmark at_rest.ends,
            ports_change s.owners (settled_owners s ch) (new_place s ch) (new_size ch) (took_mark s ch) fresh.ends outside_same,
            ports_change (settled_owners s ch) owners' ch.meta.first ch.meta.capacity (took_mark s ch) into.old_ends freed.owners_same,
            ports_none s.owners (new_place s ch) (new_size ch) fresh_owner,
            ports_none owners' ch.meta.first ch.meta.capacity freed.owners_gone,
            owned_ports at_rest.owned at_rest.slot.fit,
            owned_ports written_owned covers,
            owned_ports still at_rest.slot.fit,
          )
        where
          old_outside : (p : ℕ) → 1 ≤ in_slab ch.meta.first ch.meta.capacity p → in_slab (new_place s ch) (new_size ch) p ≡ 0
          old_outside p h =
              let new : 1 ≤ in_slab (new_place s ch) (new_size ch) p → ⊥ =
              λ h'. omega (arith, new_unheld p h', unheld_outside s P ch can.below can.is p (new_unheld p h')) in
              omega arith

          still : Owned (settled_owners s ch) ch.node ch.meta
          still = owned_kept at_rest.owned (settled_owners s ch) at_rest.slot.fit (λ p h. outside_same p (old_outside p h))

      wires : s.counters.links - cut_wires s.links ch ≡ pairs owners' links' (took_mark s ch)
      wires =
          omega (
            arith,
            P.counted.links,
            cut_pairs s P ch at_rest,
            pairs_more s.owners (cut_removed s.links ch) s.counters.portmark (took_mark s ch) raised (bare_above (port_table s P)),
            bared_pairs s.owners s.links ch (took_mark s ch),
            take_pairs cut_slabs (new_size ch) some (can.sized away) had (took_mark s ch),
            (into_carried into).wires,
            written_pairs (settled_ghost s ch) owners' (settled_links s ch) agrees (took_mark s ch),
            relinked_pairs owners' (settled_links s ch) links' live_same (took_mark s ch),
          )
