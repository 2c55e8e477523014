-- The tables of ports by themselves: what the slab part promises, rules 6 and 7, and that a step's ports that come, go or get another
-- owner's number keep them.
use Prim.Native.Nat.{ℕ, ◌+◌, ◌-◌, ◌≤◌}
use mathlib.Core.Path.{◌≡◌, refl, sym, ◌∙◌}
use mathlib.Core.List.{List}
use mathlib.Core.Bool.{true}
use native.Mathlib.Omega.{arith}
use native.Mathlib.Nat.{add-zero}
use native.Mathlib.Decide.{ℕ_discrete, dec_le}
use lib.ListN.{length, get_or}
use borrow.Author.Tests.{eq-eqb, ne_eqb}
use Rattle.slabs.specs.Links.{Wiring, pairs, wires_in}
use Rattle.slabs.specs.Slab.{at_hand, taken_first, taken_links, taken_heads, taken_mark, owners_written, filled, freed_links, freed_owners, freed_heads}
use Rattle.slabs.specs.Slabs.{in_slab, Slabs, with}
use Rattle.slabs.specs.declared.node_entry.NodeMeta.{NodeMeta}
use Rattle.slabs.proofs.FillLaws.{filled_in, filled_apart, written_length}
use Rattle.slabs.proofs.SlabLaws.{in_slab_above, in_slab_below, in_slab_yes, in_slab_each, slabs_kept, slabs_held, end_of_slab, take_cases, Fresh, take_gives, take_fresh, free_returns}
use Rattle.slabs.proofs.HeldLaws.{written_wiring, written_pairs, owners_wired, take_wiring, take_pairs, free_wiring, free_pairs}
use Rattle.edits.specs.Steps.{new_slab_at_hand, new_first, new_links, new_heads, new_mark}
use Rattle.edits.specs.Counts.{live_ports}
use Rattle.sound.specs.Sound.{Owned}
use Rattle.sound.proofs.RenameLaws.{Renamed, renamed_wiring, renamed_pairs, renamed_ports}
use Rattle.sound.proofs.OwnerLaws.{ports_change, ports_none, ports_more, pairs_more, owned_ports, owned_written, written_outside}
use Rattle.sound.proofs.MoveLaws.{held_wiring}

-- what the slab part promises, and rules 6 and 7
pub record PortTable (links owners heads : List ℕ) (mark : ℕ) (held : ℕ → ℕ) (ports wires : ℕ) : Type 0 where
  pub slabs : Slabs links owners heads mark held
  pub wiring : Wiring owners links held
  pub ports_counted : ports ≡ live_ports owners mark
  pub wires_counted : wires ≡ pairs owners links mark

-- An empty slab has no ports.
pub in_slab_none : (first size p : ℕ) → size ≡ 0 → in_slab first size p ≡ 0
in_slab_none first size p e = go (dec_le first p)
  where
    go : Dec (first ≤ p) → in_slab first size p ≡ 0
    go (yes h) = in_slab_above first size p (omega arith)
    go (no h) = in_slab_below first size p (omega arith)

module _ {links owners heads : List ℕ} {mark : ℕ} {held : ℕ → ℕ} {ports wires : ℕ} (t : PortTable links owners heads mark held ports wires) where
  -- The tables speak of who holds only by the count at each port.
  pub table_held : {held' : ℕ → ℕ} → ((p : ℕ) → held p ≡ held' p) → PortTable links owners heads mark held' ports wires
  table_held same =
      record {
        slabs = slabs_held t.slabs same;
        wiring = held_wiring t.wiring same;
        ports_counted = t.ports_counted;
        wires_counted = t.wires_counted;
      }

  -- No port from the mark on is owned.
  pub bare_above : (p : ℕ) → mark ≤ p → get_or owners p 0 ≡ 0
  bare_above p h = t.slabs.bare p (omega (arith, t.slabs.within p h))

  -- Owner words that name other nodes keep them.
  pub table_renamed : (owners' : List ℕ) → length owners' ≡ length owners → Renamed owners owners' → PortTable links owners' heads mark held ports wires
  table_renamed owners' len same =
      record {
        slabs = slabs_kept t.slabs links owners' refl len (λ p h. refl) (λ p h. (same p).dead (t.slabs.bare p h) ∙ sym (t.slabs.bare p h));
        wiring = renamed_wiring owners owners' same links held t.wiring;
        ports_counted = t.ports_counted ∙ sym (renamed_ports owners owners' same mark);
        wires_counted = t.wires_counted ∙ sym (renamed_pairs owners owners' same links mark);
      }

-- How the ports of a new step are had: none where it has none, else a slab. What holds in both cases holds.
pub new_cases : (P : List ℕ → List ℕ → ℕ → ℕ → Type 0) (links heads : List ℕ) (mark total : ℕ)
    → (total ≡ 0 → P links heads mark 0)
    → (1 ≤ total → P (taken_links links heads total) (taken_heads links heads total) (taken_mark heads mark total) (taken_first heads mark total))
    → P (new_links links heads total) (new_heads links heads total) (new_mark heads mark total) (new_first heads mark total)
unfolding new_links new_heads new_mark new_first
new_cases P links heads mark total none some = go (ℕ_discrete total 0)
  where
    go : Dec (total ≡ 0)
        → P (new_links links heads total) (new_heads links heads total) (new_mark heads mark total) (new_first heads mark total)
    go (yes e) = rw (eq-eqb total 0 e) (none e)
    go (no n) = rw (ne_eqb total 0 n) (some (omega arith))

-- A new step with ports has a slab at hand.
pub new_had : (heads : List ℕ) (mark room total : ℕ) → 1 ≤ total → new_slab_at_hand heads mark room total ≡ true → at_hand heads mark room total ≡ true
unfolding new_slab_at_hand
new_had heads mark room total some had = rw (ne_eqb total 0 (omega arith)) at had

-- The mark does not fall when a slab is taken.
pub taken_mark_lem : (heads : List ℕ) (mark size : ℕ) → mark ≤ taken_mark heads mark size
taken_mark_lem heads mark size = take_cases (λ l h m f. mark ≤ m) heads heads mark size (λ e. omega arith) (λ first e. omega arith)

-- Nothing is written for no ports.
pub written_none : (owners : List ℕ) (k first inlets outlets : ℕ) → inlets + outlets ≡ 0 → owners_written owners k first inlets outlets ≡ owners
unfolding owners_written filled
written_none owners k first inlets outlets e =
    let i : inlets ≡ 0 = omega arith in
    let o : outlets ≡ 0 = omega arith in
    rw (i, o)

-- What the tables are once a new step has its ports: its slab is held, its owner words are written, and no owner word of a held port changed.
pub record PortsEntered (owners links' owners' heads' : List ℕ) (mark' : ℕ) (held : ℕ → ℕ) (ports' wires : ℕ) (k : ℕ) (m : NodeMeta) : Type 0 where
  pub table : PortTable links' owners' heads' mark' (with held m.first m.capacity) ports' wires
  pub owned : Owned owners' k m
  pub kept : (p : ℕ) → 1 ≤ held p → get_or owners' p 0 ≡ get_or owners p 0

-- a new step of these counts, with its slab from first on
abbrev pub step_from : ℕ → ℕ → ℕ → NodeMeta
step_from inlets outlets first = record { first = first; inlets = inlets; outlets = outlets; capacity = inlets + outlets }

-- A new step gets its ports.
pub ports_enter : {links owners heads : List ℕ} {mark : ℕ} {held : ℕ → ℕ} {ports wires : ℕ} → PortTable links owners heads mark held ports wires
    → (k inlets outlets : ℕ) → inlets + outlets ≤ length heads → new_slab_at_hand heads mark (length links) (inlets + outlets) ≡ true
    → PortsEntered owners (new_links links heads (inlets + outlets)) (owners_written owners k (new_first heads mark (inlets + outlets)) inlets outlets)
    (new_heads links heads (inlets + outlets)) (new_mark heads mark (inlets + outlets)) held (ports + (inlets + outlets)) wires k
    (step_from inlets outlets (new_first heads mark (inlets + outlets)))
ports_enter {links} {owners} {heads} {mark} {held} {ports} {wires} t k inlets outlets sized had =
    new_cases
    (λ l h m f. PortsEntered owners l (owners_written owners k f inlets outlets) h m held (ports + (inlets + outlets)) wires k (step_from inlets outlets f))
    links heads mark (inlets + outlets) without with_slab
  where
    without : inlets + outlets ≡ 0
        → PortsEntered owners links (owners_written owners k 0 inlets outlets) heads mark held (ports + (inlets + outlets)) wires k (step_from inlets outlets 0)
    without e =
        rw (written_none owners k 0 inlets outlets e)
        (record {
          table =
              rw (e, add-zero) (table_held t (λ p. omega (arith, in_slab_none 0 0 p refl)));
          owned = record { inlets_owned = λ i l. absurd (omega arith); outlets_owned = λ i l. absurd (omega arith); spare_unowned = λ i h l. absurd (omega arith) };
          kept = λ p h. refl;
        })

    with_slab : 1 ≤ inlets + outlets
        → PortsEntered owners (taken_links links heads (inlets + outlets)) (owners_written owners k (taken_first heads mark (inlets + outlets)) inlets outlets)
        (taken_heads links heads (inlets + outlets)) (taken_mark heads mark (inlets + outlets)) held (ports + (inlets + outlets)) wires k
        (step_from inlets outlets (taken_first heads mark (inlets + outlets)))
    with_slab some =
        record {
          table =
              record {
                slabs =
                    slabs_kept (take_gives s total some sized hand) links' owners' refl (written_length owners k first inlets outlets) (λ p h. refl)
                    (λ p h. written_outside owners k first inlets outlets total p (omega arith) (omega arith));
                wiring = written_wiring owners owners' links' same (take_wiring s total some sized hand t.wiring);
                ports_counted =
                    omega (
                      arith,
                      t.ports_counted,
                      ports_more owners mark mark' (taken_mark_lem heads mark total) (bare_above t),
                      ports_change owners owners' first total mark' fresh.ends (λ p. written_outside owners k first inlets outlets total p (omega arith)),
                      ports_none owners first total fresh.unowned,
                      owned_ports owned (omega arith),
                    );
                wires_counted =
                    t.wires_counted ∙
                    sym
                    (written_pairs owners owners' links' same mark' ∙ take_pairs s total some sized hand mark' ∙
                    pairs_more owners links mark mark' (taken_mark_lem heads mark total) (bare_above t));
              };
          owned = owned;
          kept = λ p h. written_outside owners k first inlets outlets total p (omega arith) (apart p h);
        }
      where
        total : ℕ
        total = inlets + outlets

        first : ℕ
        first = taken_first heads mark total

        mark' : ℕ
        mark' = taken_mark heads mark total

        links' : List ℕ
        links' = taken_links links heads total

        owners' : List ℕ
        owners' = owners_written owners k first inlets outlets

        s : Slabs links owners heads mark held
        s = t.slabs

        hand : at_hand heads mark (length links) total ≡ true
        hand = new_had heads mark (length links) total some had

        fresh : Fresh links owners links' mark' held first total
        fresh = take_fresh s total some sized hand

        same : (p : ℕ) → (get_or links' p 0 ≡ 0 → ⊥) → get_or owners' p 0 ≡ get_or owners p 0
        same = owners_wired owners links' k first inlets outlets fresh.unlinked

        owned : Owned owners' k (step_from inlets outlets first)
        owned =
            owned_written owners k (step_from inlets outlets first) (omega (arith, fresh.ends, fresh.inside, s.equal)) (λ i h l. absurd (omega arith))

        apart : (p : ℕ) → 1 ≤ held p → in_slab first total p ≡ 0
        apart p h =
            let out : 1 ≤ in_slab first total p → ⊥ = λ l. omega (arith, in_slab_each (λ q. held q ≡ 0) first total fresh.unheld p l) in omega arith

-- Freeing a slab clears no owner word outside it.
pub freed_outside : (owners : List ℕ) (first size p : ℕ) → in_slab first size p ≡ 0 → get_or (freed_owners owners first size) p 0 ≡ get_or owners p 0
unfolding freed_owners
freed_outside owners first size p out =
    filled_apart owners first size 0 p (λ i l e. omega (arith, in_slab_yes first size p (omega arith) (omega arith)))

-- The ports of a step that goes, where it has a slab, are freed.
pub ports_go : {links owners heads : List ℕ} {mark ports wires : ℕ} (held : ℕ → ℕ) (k : ℕ) (m : NodeMeta)
    → PortTable links owners heads mark (with held m.first m.capacity) ports wires
    → Owned owners k m → 1 ≤ m.capacity → m.inlets + m.outlets ≤ m.capacity → m.capacity ≤ length heads
    → PortTable (freed_links links heads m.first m.capacity) (freed_owners owners m.first m.capacity) (freed_heads heads m.first m.capacity) mark held
    (ports - (m.inlets + m.outlets)) (wires - wires_in links m.first m.capacity)
unfolding freed_owners
ports_go {links} {owners} {heads} {mark} {ports} {wires} held k m t o some fit sized =
    record {
      slabs = free_returns held first size s some sized t.wiring;
      wiring = free_wiring held first size s some t.wiring;
      ports_counted =
          omega (
            arith,
            t.ports_counted,
            ports_change owners (freed_owners owners first size) first size mark ends (freed_outside owners first size),
            ports_none (freed_owners owners first size) first size (λ i l. filled_in owners first size 0 i l (omega (arith, ends, s.room, s.equal))),
            owned_ports o fit,
          );
      wires_counted =
          omega (arith, t.wires_counted, free_pairs held first size s some t.wiring mark (λ p h. omega (arith, s.within p h)));
    }
  where
    first : ℕ
    first = m.first

    size : ℕ
    size = m.capacity

    s : Slabs links owners heads mark (with held first size)
    s = t.slabs

    ends : first + size ≤ mark
    ends = end_of_slab held first size s some
