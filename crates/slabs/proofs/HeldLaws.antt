-- Rules 6 and 7 across taking and freeing a slab: who owns a port without a wire, and what the link word of a port without an owner is,
-- is nothing to them. So taking a slab and writing its owner words keep the wires, and freeing one cuts its own and no other.
use Prim.Native.Nat.{ℕ, suc, ◌+◌, ◌≤◌, ◌<◌}
use mathlib.Core.List.{List}
use mathlib.Core.Path.{◌≡◌, sym, ◌∙◌}
use mathlib.Core.Bool.{true}
use native.Mathlib.Nat.{add-zero, add_assoc}
use native.Mathlib.Omega.{arith}
use native.Mathlib.Decide.{ℕ_discrete, dec_le}
use lib.ListN.{length, get_or, set}
use lib.Seq.{get_or-set_other}
use Rattle.slabs.specs.PortEntry.{Live, owner_word}
use Rattle.slabs.specs.Links.{Wiring, wired_outlet, pairs, cut_run, wires_in}
use Rattle.slabs.specs.Slab.{head_of, at_hand, taken_first, taken_links, filled, owners_written, freed_links, freed_owners}
use Rattle.slabs.specs.Slabs.{in_slab, Slabs, with}
use Rattle.slabs.proofs.SumLaws.{sum_ext}
use Rattle.slabs.proofs.FillLaws.{filled_in, filled_apart}
use Rattle.slabs.proofs.WireLaws.{wired_loose, cut_run_in, cut_run_wiring, cut_run_pairs}
use Rattle.slabs.proofs.SlabLaws.{in_slab_yes, in_slab_at, in_slab_each, held_le, end_of_slab, Fresh, take_fresh}

-- Owner words change, but not those of ports with a wire:
module _ (owners owners' links : List ℕ) (same : (p : ℕ) → (get_or links p 0 ≡ 0 → ⊥) → get_or owners' p 0 ≡ get_or owners p 0) where
  -- rule 6 stays true,
  pub written_wiring : {held : ℕ → ℕ} → Wiring owners links held → Wiring owners' links held
  written_wiring wiring p q h e =
      let mate = wiring p q h e in
      let here : get_or owners' p 0 ≡ get_or owners p 0 = same p (omega arith) in
      let there : get_or owners' q 0 ≡ get_or owners q 0 = same q (omega (arith, mate.back)) in
      record { here = rw here mate.here; there = rw there mate.there; across = rw (here, there) mate.across; back = mate.back }

  -- and the wires are as many.
  pub written_pairs : (m : ℕ) → pairs owners' links m ≡ pairs owners links m
  unfolding pairs
  written_pairs m = sum_ext _ _ m (λ p l. go p (ℕ_discrete (get_or links p 0) 0))
    where
      go : (p : ℕ) → Dec (get_or links p 0 ≡ 0) → wired_outlet (get_or owners' p 0) (get_or links p 0) ≡ wired_outlet (get_or owners p 0) (get_or links p 0)
      go p (yes e) = rw e (wired_loose (get_or owners' p 0) ∙ sym (wired_loose (get_or owners p 0)))
      go p (no n) = rw (same p n)

-- Link words change, but not those of live ports:
module _ (owners links links' : List ℕ) (same : (p : ℕ) → Live owners p → get_or links' p 0 ≡ get_or links p 0) where
  -- rule 6 stays true if each wire at a port that is held now was at a held port before,
  pub relinked_wiring : (held held' : ℕ → ℕ)
      → ((p q : ℕ) → 1 ≤ held' p → get_or links' p 0 ≡ suc q → (1 ≤ held p) × (get_or links p 0 ≡ suc q))
      → Wiring owners links held → Wiring owners links' held'
  relinked_wiring held held' was wiring p q h e =
      let mate = wiring p q (was p q h e).0 (was p q h e).1 in
      record { here = mate.here; there = mate.there; across = mate.across; back = same q mate.there ∙ mate.back }

  -- and the wires are as many.
  pub relinked_pairs : (m : ℕ) → pairs owners links' m ≡ pairs owners links m
  unfolding pairs wired_outlet
  relinked_pairs m = sum_ext _ _ m (λ p l. go p (ℕ_discrete (get_or owners p 0) 0))
    where
      go : (p : ℕ) → Dec (get_or owners p 0 ≡ 0) → wired_outlet (get_or owners p 0) (get_or links' p 0) ≡ wired_outlet (get_or owners p 0) (get_or links p 0)
      go p (yes e) = rw e
      go p (no n) = rw (same p n)

-- One word over a run of ports without wires leaves the ports that have one,
pub filled_wired : (owners links : List ℕ) (first n w : ℕ) → ((i : ℕ) → i < n → get_or links (first + i) 0 ≡ 0)
    → (p : ℕ) → (get_or links p 0 ≡ 0 → ⊥) → get_or (filled owners first n w) p 0 ≡ get_or owners p 0
filled_wired owners links first n w loose p wired = filled_apart owners first n w p (λ i l e. wired (rw e (loose i l)))

-- and so do the owner words of a step's inlets and outlets.
pub owners_wired : (owners links : List ℕ) (node first inlets outlets : ℕ) → ((i : ℕ) → i < inlets + outlets → get_or links (first + i) 0 ≡ 0)
    → (p : ℕ) → (get_or links p 0 ≡ 0 → ⊥) → get_or (owners_written owners node first inlets outlets) p 0 ≡ get_or owners p 0
unfolding owners_written
owners_wired owners links node first inlets outlets loose p wired =
    filled_wired (filled owners first inlets (owner_word node 0)) links (first + inlets) outlets (owner_word node 1)
    (λ i l. rw add_assoc (loose (inlets + i) (omega arith))) p wired
    ∙ filled_wired owners links first inlets (owner_word node 0) (λ i l. loose i (omega arith)) p wired

-- A fresh slab, which nobody owns and which has no wires:
module _ {links owners links' : List ℕ} {mark' : ℕ} {held : ℕ → ℕ} {first size : ℕ} (fresh : Fresh links owners links' mark' held first size) where
  -- the link words of live ports stay,
  fresh_live : (p : ℕ) → Live owners p → get_or links' p 0 ≡ get_or links p 0
  fresh_live p live = go (dec_le 1 (in_slab first size p))
    where
      go : Dec (1 ≤ in_slab first size p) → get_or links' p 0 ≡ get_or links p 0
      go (yes k) = absurd (live (in_slab_each (λ q. get_or owners q 0 ≡ 0) first size fresh.unowned p k))
      go (no k) = fresh.others p (omega arith)

  -- and each wire is one of a port that was held before.
  fresh_was : (p q : ℕ) → 1 ≤ with held first size p → get_or links' p 0 ≡ suc q → (1 ≤ held p) × (get_or links p 0 ≡ suc q)
  fresh_was p q h e = go (dec_le 1 (in_slab first size p))
    where
      go : Dec (1 ≤ in_slab first size p) → (1 ≤ held p) × (get_or links p 0 ≡ suc q)
      go (yes k) = absurd (omega (arith, in_slab_each (λ r. get_or links' r 0 ≡ 0) first size fresh.unlinked p k))
      go (no k) = (omega arith, sym (fresh.others p (omega arith)) ∙ e)

module _ {links owners heads : List ℕ} {mark : ℕ} {held : ℕ → ℕ} (s : Slabs links owners heads mark held) (size : ℕ)
    (some : 1 ≤ size) (sized : size ≤ length heads) (had : at_hand heads mark (length links) size ≡ true) where
  -- Taking a slab keeps rule 6 true, the slab among what is held,
  pub take_wiring : Wiring owners links held → Wiring owners (taken_links links heads size) (with held (taken_first heads mark size) size)
  take_wiring =
      let fresh = take_fresh s size some sized had in
      relinked_wiring owners links (taken_links links heads size) (fresh_live fresh) held (with held (taken_first heads mark size) size)
      (fresh_was fresh)

  -- and the wires are as many.
  pub take_pairs : (m : ℕ) → pairs owners (taken_links links heads size) m ≡ pairs owners links m
  take_pairs = relinked_pairs owners links (taken_links links heads size) (fresh_live (take_fresh s size some sized had))

module _ {links owners heads : List ℕ} {mark : ℕ} (held : ℕ → ℕ) (first size : ℕ)
    (s : Slabs links owners heads mark (with held first size)) (some : 1 ≤ size) (wiring : Wiring owners links (with held first size)) where
  -- Each port of the slab is held.
  hold : (i : ℕ) → i < size → 1 ≤ with held first size (first + i)
  hold i l = omega (arith, in_slab_at first size i l)

  -- The ports of a slab have no wires when their owner words are cleared,
  bared : (p : ℕ) → (get_or (cut_run links first size) p 0 ≡ 0 → ⊥) → get_or (filled owners first size 0) p 0 ≡ get_or owners p 0
  bared = filled_wired owners (cut_run links first size) first size 0 (cut_run_in links first size)

  -- and its first port has no owner when its chain word is written,
  chained : (p : ℕ) → Live (filled owners first size 0) p → get_or (set (cut_run links first size) first (head_of heads size)) p 0 ≡ get_or (cut_run links first size) p 0
  chained p live = get_or-set_other (cut_run links first size) first p (head_of heads size) 0 (λ e. live (rw e first_bare))
    where
      first_bare : get_or (filled owners first size 0) first 0 ≡ 0
      first_bare = rw add-zero at (filled_in owners first size 0 0 (omega arith) (omega (arith, end_of_slab held first size s some, s.room, s.equal)))

  -- so rule 6 stays true of what is held still when a slab is freed,
  pub free_wiring : Wiring (freed_owners owners first size) (freed_links links heads first size) held
  unfolding freed_owners freed_links
  free_wiring =
      relinked_wiring (filled owners first size 0) (cut_run links first size) (set (cut_run links first size) first (head_of heads size)) chained
      (with held first size) held was
      (written_wiring owners (filled owners first size 0) (cut_run links first size) bared
      (cut_run_wiring owners links (with held first size) wiring s.bare first size hold))
    where
      was : (p q : ℕ) → 1 ≤ held p → get_or (set (cut_run links first size) first (head_of heads size)) p 0 ≡ suc q
          → (1 ≤ with held first size p) × (get_or (cut_run links first size) p 0 ≡ suc q)
      was p q h e =
          let apart : p ≡ first → ⊥ = λ k. omega (arith, held_le s p, in_slab_yes first size p (omega arith) (omega arith)) in
          (omega arith, sym (get_or-set_other (cut_run links first size) first p (head_of heads size) 0 apart) ∙ e)

  -- and the wires are fewer by those in it, where no port from m on was held.
  pub free_pairs : (m : ℕ) → ((p : ℕ) → m ≤ p → with held first size p ≡ 0)
      → pairs (freed_owners owners first size) (freed_links links heads first size) m + wires_in links first size ≡ pairs owners links m
  unfolding freed_owners freed_links
  free_pairs m top =
      rw
      (relinked_pairs (filled owners first size 0) (cut_run links first size) (set (cut_run links first size) first (head_of heads size)) chained m, written_pairs owners (filled owners first size 0) (cut_run links first size) bared m)
      (cut_run_pairs owners links (with held first size) wiring s.bare first size hold m top)
