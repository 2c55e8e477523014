-- A resize in place keeps a sound store: the kept outlets move within the slab, and the step's owner words are written anew.
use Prim.Native.Nat.{ℕ, ◌+◌, ◌-◌, ◌≤◌, ◌<◌}
use mathlib.Core.List.{List}
use mathlib.Core.Logic.{◌⊎◌, inl, inr}
use mathlib.Core.Path.{◌≡◌, refl, sym, ◌∙◌}
use mathlib.Core.Bool.{Bool, true, false}
use native.Mathlib.Omega.{arith}
use native.Mathlib.Decide.{dec_lt, dec_le}
use lib.ListN.{length, get_or}
use lib.Dec.{eqb, ltb}
use borrow.Author.Tests.{eqb-false, ltb-true, ltb-false}
use Rattle.slabs.specs.Choice.{pick}
use Rattle.slabs.specs.NodeEntry.{set_entry}
use Rattle.slabs.specs.Links.{Wiring, pairs}
use Rattle.slabs.specs.Slab.{filled, owners_written}
use Rattle.slabs.specs.Slabs.{in_slab, Slabs}
use Rattle.slabs.specs.declared.node_entry.NodeMeta.{NodeMeta}
use Rattle.slabs.specs.declared.node_entry.NodeEntry.TheVariants.{Node}
use Rattle.slabs.proofs.Shapes.{filled-length}
use Rattle.slabs.proofs.EntryLaws.{owner_live}
use Rattle.slabs.proofs.FillLaws.{filled_in, filled_apart, written_length, written_inlet, written_outlet, written_above}
use Rattle.slabs.proofs.SlabLaws.{in_slab_yes, slabs_kept, slabs_held}
use Rattle.slabs.proofs.HeldLaws.{written_wiring, written_pairs}
use Rattle.edits.specs.Store.{Store}
use Rattle.edits.specs.Counts.{live_ports}
use Rattle.renumber.specs.Moves.{moved_run}
use Rattle.renumber.specs.Resize.{is_in_place, inlets_kept, outlets_kept, cut_removed, cut_wires, outlet_run, in_place_owners, resized_in_place, changed_slots, recounted}
use Rattle.renumber.specs.declared.resize.Change.{Change}
use Rattle.sound.specs.Sound.{Owned, LiveSlot, held_at, held_in}
use Rattle.sound.proofs.Parts.{Parts}
use Rattle.sound.proofs.MoveLaws.{LiveWiring, Carried, Quiet, Runs, owners_run, placed_run, run_carried, run_quiet, owners_run_other, owners_run_new, owners_run_old, quiet_wiring, live_wiring, dead_loose, held_wiring}
use Rattle.sound.proofs.Changes.{Granted, keeps, Rests, rests, bared, bared_length, bared_outside, bared_bare, bared_wiring, bared_pairs, cut_length, cut_pairs, cut_still, unheld_outside, reslot, changed_parts, KeptIn, kept_agree, bared_kept}
use Rattle.sound.proofs.OwnerLaws.{ports_some, ports_change, owned_ports, written_outside}
use Rattle.sound.proofs.Fits.{slab_inside}
use Rattle.sound.proofs.Kept.{false_true}

-- the step as it shall be, in its own slab
abbrev pub in_place_meta : Change → NodeMeta
in_place_meta ch = record { first = ch.meta.first; inlets = ch.inlets; outlets = ch.outlets; capacity = ch.meta.capacity }

-- In place there is a port, and room for all.
pub in_place_fits : (ch : Change) → is_in_place ch ≡ true → (1 ≤ ch.inlets + ch.outlets) × (ch.inlets + ch.outlets < ch.meta.capacity)
unfolding is_in_place
in_place_fits ch e = go (eqb (ch.inlets + ch.outlets) 0) refl e
  where
    go : (t : Bool) → eqb (ch.inlets + ch.outlets) 0 ≡ t → pick t false (ltb (ch.inlets + ch.outlets) ch.meta.capacity) ≡ true
        → (1 ≤ ch.inlets + ch.outlets) × (ch.inlets + ch.outlets < ch.meta.capacity)
    go true f g = absurd (false_true g)
    go false f g = let n = eqb-false (ch.inlets + ch.outlets) 0 f in (omega arith, ltb-true (ch.inlets + ch.outlets) ch.meta.capacity g)

-- the owner words with the new ports' written, where the rest of the old ports' begin, and how many those are
abbrev new_written : List ℕ → Change → List ℕ
new_written owners ch = owners_written owners ch.node ch.meta.first ch.inlets ch.outlets

abbrev rest_from : Change → ℕ
rest_from ch = ch.meta.first + (ch.inlets + ch.outlets)

abbrev rest_count : Change → ℕ
rest_count ch = ch.meta.inlets + ch.meta.outlets - (ch.inlets + ch.outlets)

module _ (owners : List ℕ) (ch : Change) (total : ch.inlets + ch.outlets < ch.meta.capacity)
    (fit : ch.meta.inlets + ch.meta.outlets ≤ ch.meta.capacity) where
  -- The owner words are as many,
  pub in_place_length : length (in_place_owners owners ch) ≡ length owners
  unfolding in_place_owners
  in_place_length =
      filled-length (new_written owners ch) (rest_from ch) (rest_count ch) 0
      ∙ written_length owners ch.node ch.meta.first ch.inlets ch.outlets

  -- those outside the slab stay,
  pub in_place_outside : (p : ℕ) → in_slab ch.meta.first ch.meta.capacity p ≡ 0 → get_or (in_place_owners owners ch) p 0 ≡ get_or owners p 0
  unfolding in_place_owners
  in_place_outside p out =
      filled_apart (new_written owners ch) (rest_from ch) (rest_count ch) 0 p
      (λ i l e. omega (arith, in_slab_yes ch.meta.first ch.meta.capacity p (omega arith) (omega arith)))
      ∙ written_outside owners ch.node ch.meta.first ch.inlets ch.outlets ch.meta.capacity p (omega arith) out

  -- and rule 5 is true of the step.
  pub in_place_owned : Owned owners ch.node ch.meta → ch.meta.first + ch.meta.capacity ≤ length owners
      → Owned (in_place_owners owners ch) ch.node (in_place_meta ch)
  unfolding in_place_owners
  in_place_owned owned inside =
      record {
        inlets_owned = λ i l.
            below (ch.meta.first + i) (omega arith) ∙ written_inlet owners ch.node ch.meta.first ch.inlets ch.outlets i l (omega arith);
        outlets_owned = λ i l.
            below (ch.meta.first + ch.inlets + i) (omega arith) ∙ written_outlet owners ch.node ch.meta.first ch.inlets ch.outlets i l (omega arith);
        spare_unowned = λ i a b. spare i a b (dec_lt i (ch.meta.inlets + ch.meta.outlets));
      }
    where
      below : (p : ℕ) → p < rest_from ch → get_or (filled (new_written owners ch) (rest_from ch) (rest_count ch) 0) p 0 ≡ get_or (new_written owners ch) p 0
      below p l = filled_apart (new_written owners ch) (rest_from ch) (rest_count ch) 0 p (λ i b e. omega arith)

      spare : (i : ℕ) → ch.inlets + ch.outlets ≤ i → i < ch.meta.capacity → Dec (i < ch.meta.inlets + ch.meta.outlets)
          → get_or (filled (new_written owners ch) (rest_from ch) (rest_count ch) 0) (ch.meta.first + i) 0 ≡ 0
      spare i a b (yes l) =
          let e : ch.meta.first + i ≡ rest_from ch + (i - (ch.inlets + ch.outlets)) = omega arith in
          rw e
          (filled_in (new_written owners ch) (rest_from ch) (rest_count ch) 0 (i - (ch.inlets + ch.outlets)) (omega arith)
          (omega (arith, written_length owners ch.node ch.meta.first ch.inlets ch.outlets)))
      spare i a b (no l) =
          filled_apart (new_written owners ch) (rest_from ch) (rest_count ch) 0 (ch.meta.first + i) (λ j c e. omega arith)
          ∙ written_above owners ch.node ch.meta.first ch.inlets ch.outlets (ch.meta.first + i) (omega arith)
          ∙ owned.spare_unowned i (omega arith) b

-- the owner words as they go with the ports, and the link words
abbrev in_place_ghost : List ℕ → Change → List ℕ
in_place_ghost owners ch = owners_run (bared owners ch) (outlet_run ch) (outlets_kept ch)

abbrev in_place_links : List ℕ → Change → List ℕ
in_place_links links ch = moved_run (cut_removed links ch) (outlet_run ch) (outlets_kept ch)

module _ (s : Store) (P : Parts s) (ch : Change) (can : Granted s ch) (room : ch.inlets + ch.outlets < ch.meta.capacity) where
  at_rest : Rests s ch.node ch.meta
  at_rest = rests s P ch.node ch.meta can.below can.is

  inside : ch.meta.first + ch.meta.capacity ≤ length s.owners
  inside = slab_inside s P ch.node ch.meta can.below can.is

  -- Once the removed ports are nobody's, the slab keeps the others alone,
  kept : KeptIn (bared s.owners ch) ch ch.meta.first ch.meta.inlets ch.meta.capacity
  kept = bared_kept s.owners ch at_rest.owned at_rest.slot.fit inside

  -- and the kept outlets are a run that goes in turn.
  runs : Runs (bared s.owners ch) (outlet_run ch) s.counters.portmark
  runs =
      record {
        live = λ i l. rw (kept.outlet i l) (owner_live ch.node 1);
        target = λ i l. target i l (dec_le ch.meta.inlets (ch.inlets + i)) (dec_lt (ch.inlets + i) (ch.meta.inlets + outlets_kept ch));
        down = λ e. inl (omega (arith, ltb-true ch.inlets ch.meta.inlets e));
        up = λ e. omega (arith, ltb-false ch.inlets ch.meta.inlets e);
        from_below = omega (arith, keeps ch, at_rest.slot.fit, at_rest.ends);
        to_below = omega (arith, keeps ch, at_rest.ends);
      }
    where
      target : (i : ℕ) → i < outlets_kept ch → Dec (ch.meta.inlets ≤ ch.inlets + i) → Dec (ch.inlets + i < ch.meta.inlets + outlets_kept ch)
          → (get_or (bared s.owners ch) (ch.meta.first + ch.inlets + i) 0 ≡ 0)
          ⊎ ((ch.meta.first + ch.meta.inlets ≤ ch.meta.first + ch.inlets + i) × (ch.meta.first + ch.inlets + i < ch.meta.first + ch.meta.inlets + outlets_kept ch))
      target i l (yes a) (yes b) = inr (omega arith, omega arith)
      target i l (yes a) (no b) =
          let e : ch.meta.first + ch.inlets + i ≡ ch.meta.first + (ch.inlets + i) = omega arith in
          inl (rw e (kept.rest (ch.inlets + i) (omega (arith, keeps ch)) (omega (arith, keeps ch)) (λ x y. b y)))
      target i l (no a) d =
          let e : ch.meta.first + ch.inlets + i ≡ ch.meta.first + (ch.inlets + i) = omega arith in
          inl (rw e (kept.rest (ch.inlets + i) (omega (arith, keeps ch)) (omega (arith, keeps ch)) (λ x y. a x)))

  live_before : LiveWiring (bared s.owners ch) (cut_removed s.links ch)
  live_before = live_wiring (bared_wiring s P ch can.below can.is) (bared_bare s P ch can.below can.is)

  equal : length (bared s.owners ch) ≡ length (cut_removed s.links ch)
  equal = bared_length s.owners ch ∙ P.slabs.equal ∙ sym (cut_length s.links ch)

  short : s.counters.portmark ≤ length (cut_removed s.links ch)
  short = omega (arith, cut_length s.links ch, P.slabs.room)

  carried : Carried (bared s.owners ch) (cut_removed s.links ch) (in_place_ghost s.owners ch) (in_place_links s.links ch)
      (placed_run (outlet_run ch) (outlets_kept ch)) s.counters.portmark
  carried = run_carried (bared s.owners ch) (cut_removed s.links ch) (outlet_run ch) s.counters.portmark runs live_before equal short (outlets_kept ch) (omega arith)

  quiet : Quiet (bared s.owners ch) (cut_removed s.links ch) (in_place_ghost s.owners ch) (in_place_links s.links ch)
  quiet =
      run_quiet (bared s.owners ch) (cut_removed s.links ch) (outlet_run ch) s.counters.portmark runs live_before equal short
      (λ i l dead.
      let e : ch.meta.first + ch.inlets + i ≡ ch.meta.first + (ch.inlets + i) = omega arith in
      dead_loose (bared_wiring s P ch can.below can.is) (ch.meta.first + ch.inlets + i) (rw e (at_rest.held (ch.inlets + i) (omega (arith, keeps ch)))) dead)
      (outlets_kept ch) (omega arith)

  wiring : Wiring (in_place_ghost s.owners ch) (in_place_links s.links ch) (held_in s)
  wiring = quiet_wiring carried.rekeyed quiet live_before (bared_wiring s P ch can.below can.is)

  -- What goes with the ports: outside the slab nothing changes,
  ghost_outside : (p : ℕ) → in_slab ch.meta.first ch.meta.capacity p ≡ 0 → get_or (in_place_ghost s.owners ch) p 0 ≡ get_or s.owners p 0
  ghost_outside p out =
      owners_run_other (bared s.owners ch) (outlet_run ch) p
      (λ i l e. omega (arith, in_slab_yes ch.meta.first ch.meta.capacity p (omega arith) (omega (arith, keeps ch, at_rest.slot.fit))))
      (λ i l e. omega (arith, in_slab_yes ch.meta.first ch.meta.capacity p (omega arith) (omega (arith, keeps ch))))
      ∙ bared_outside s.owners ch p at_rest.slot.fit out

  -- nobody owns another port of it than the kept ones,
  ghost_dead : (x : ℕ) → x < ch.meta.capacity → inlets_kept ch ≤ x → (ch.inlets ≤ x → x < ch.inlets + outlets_kept ch → ⊥)
      → get_or (in_place_ghost s.owners ch) (ch.meta.first + x) 0 ≡ 0
  ghost_dead x l a b = go (dec_le ch.meta.inlets x) (dec_lt x (ch.meta.inlets + outlets_kept ch))
    where
      other : (ch.meta.inlets ≤ x → x < ch.meta.inlets + outlets_kept ch → ⊥) → get_or (in_place_ghost s.owners ch) (ch.meta.first + x) 0 ≡ 0
      other c =
          owners_run_other (bared s.owners ch) (outlet_run ch) (ch.meta.first + x) (λ i k e. c (omega arith) (omega arith)) (λ i k e. b (omega arith) (omega arith))
          ∙ kept.rest x l a c

      go : Dec (ch.meta.inlets ≤ x) → Dec (x < ch.meta.inlets + outlets_kept ch) → get_or (in_place_ghost s.owners ch) (ch.meta.first + x) 0 ≡ 0
      go (yes c) (yes d) =
          let e : ch.meta.first + x ≡ ch.meta.first + ch.meta.inlets + (x - ch.meta.inlets) = omega arith in
          rw e
          (owners_run_old (bared s.owners ch) (cut_removed s.links ch) (outlet_run ch) s.counters.portmark runs live_before equal short
          (x - ch.meta.inlets) (omega arith)
          (λ j k f. b (omega arith) (omega arith)))
      go (yes c) (no d) = other (λ u v. d v)
      go (no c) d = other (λ u v. c u)

  -- the kept inlets are where they were, and the kept outlets after the new inlets.
  ghost_kept : KeptIn (in_place_ghost s.owners ch) ch ch.meta.first ch.inlets ch.meta.capacity
  ghost_kept =
      record {
        inlet = λ x l.
            owners_run_other (bared s.owners ch) (outlet_run ch) (ch.meta.first + x) (λ i k e. omega (arith, keeps ch)) (λ i k e. omega (arith, keeps ch))
            ∙ kept.inlet x l;
        outlet = λ i l.
            owners_run_new (bared s.owners ch) (cut_removed s.links ch) (outlet_run ch) s.counters.portmark runs live_before equal short i l
            ∙ kept.outlet i l;
        rest = ghost_dead;
      }

  -- The step's owner words are as rule 5 says,
  owned : Owned (in_place_owners s.owners ch) ch.node (in_place_meta ch)
  owned = in_place_owned s.owners ch room at_rest.slot.fit at_rest.owned inside

  -- and those of each port with a wire.
  agrees : (p : ℕ) → (get_or (in_place_links s.links ch) p 0 ≡ 0 → ⊥) → get_or (in_place_owners s.owners ch) p 0 ≡ get_or (in_place_ghost s.owners ch) p 0
  agrees p wired = go (dec_le 1 (in_slab ch.meta.first ch.meta.capacity p))
    where
      go : Dec (1 ≤ in_slab ch.meta.first ch.meta.capacity p) → get_or (in_place_owners s.owners ch) p 0 ≡ get_or (in_place_ghost s.owners ch) p 0
      go (yes h) = kept_agree ghost_kept owned wiring at_rest.held p h wired
      go (no h) = in_place_outside s.owners ch room at_rest.slot.fit p (omega arith) ∙ sym (ghost_outside p (omega arith))

  -- The step's slot fits.
  fits : LiveSlot (length s.heads) (in_place_meta ch)
  fits =
      record {
        few_inlets = can.few_inlets;
        few_outlets = can.few_outlets;
        fit = omega arith;
        sized = at_rest.slot.sized;
        unplaced = at_rest.slot.unplaced;
      }

  -- Each port is held as before.
  held_same : (p : ℕ) → held_in s p ≡ held_at (set_entry s.slots ch.node (Node (in_place_meta ch))) s.counters.nodemark p
  held_same p = omega (arith, (reslot s P ch.node ch.meta (in_place_meta ch) can.below can.is fits).held p)

  -- A resize in place keeps the parts of a sound store.
  pub in_place_parts : Parts (resized_in_place s ch)
  unfolding resized_in_place changed_slots recounted
  in_place_parts =
      changed_parts s P ch.node ch.meta (in_place_meta ch) can.below can.is fits (in_place_links s.links ch) (in_place_owners s.owners ch)
      s.heads s.counters.portmark
      (s.counters.ports - (ch.meta.inlets + ch.meta.outlets) + (ch.inlets + ch.outlets)) (s.counters.links - cut_wires s.links ch) refl
      (λ p h out. absurd (omega arith)) (λ p out out'. outside p out) owned (slabs_held slabs held_same)
      (held_wiring (written_wiring (in_place_ghost s.owners ch) (in_place_owners s.owners ch) (in_place_links s.links ch) agrees wiring) held_same)
      ports wires
    where
      outside : (p : ℕ) → in_slab ch.meta.first ch.meta.capacity p ≡ 0 → get_or (in_place_owners s.owners ch) p 0 ≡ get_or s.owners p 0
      outside = in_place_outside s.owners ch room at_rest.slot.fit

      slabs : Slabs (in_place_links s.links ch) (in_place_owners s.owners ch) s.heads s.counters.portmark (held_in s)
      slabs =
          slabs_kept P.slabs (in_place_links s.links ch) (in_place_owners s.owners ch) (carried.links_length ∙ cut_length s.links ch)
          (in_place_length s.owners ch room at_rest.slot.fit)
          (λ p h.
          quiet.still p (bared_bare s P ch can.below can.is p h) (ghost_outside p (unheld_outside s P ch can.below can.is p h) ∙ P.slabs.bare p h)
          ∙ cut_still s P ch at_rest p h)
          (λ p h. outside p (unheld_outside s P ch can.below can.is p h))

      ports : s.counters.ports - (ch.meta.inlets + ch.meta.outlets) + (ch.inlets + ch.outlets) ≡ live_ports (in_place_owners s.owners ch) s.counters.portmark
      ports =
          omega (
            arith,
            P.counted.ports,
            ports_some s.owners ch.meta.first ch.meta.capacity s.counters.portmark at_rest.ends,
            ports_change s.owners (in_place_owners s.owners ch) ch.meta.first ch.meta.capacity s.counters.portmark at_rest.ends outside,
            owned_ports at_rest.owned at_rest.slot.fit,
            owned_ports owned (omega arith),
          )

      wires : s.counters.links - cut_wires s.links ch ≡ pairs (in_place_owners s.owners ch) (in_place_links s.links ch) s.counters.portmark
      wires =
          omega (
            arith,
            P.counted.links,
            cut_pairs s P ch at_rest,
            bared_pairs s.owners s.links ch s.counters.portmark,
            carried.wires,
            written_pairs (in_place_ghost s.owners ch) (in_place_owners s.owners ch) (in_place_links s.links ch) agrees s.counters.portmark,
          )
