-- Owner words of a step's slab (rule 5): how many ports they make live, which edits keep them, and what writing them does.
use Prim.Native.Nat.{ℕ, ◌+◌, ◌-◌, ◌≤◌, ◌<◌}
use mathlib.Core.Path.{◌≡◌, sym, ap, ◌∙◌}
use mathlib.Core.List.{List}
use native.Mathlib.Omega.{arith}
use native.Mathlib.Nat.{add_assoc}
use native.Mathlib.Decide.{dec_lt, dec_le}
use lib.ListN.{length, get_or}
use borrow.Author.Tests.{eq-eqb}
use Rattle.slabs.specs.Sums.{sum}
use Rattle.slabs.specs.PortEntry.{owner_word, Live}
use Rattle.slabs.specs.Links.{wired_outlet, pairs}
use Rattle.slabs.specs.Slab.{owners_written}
use Rattle.slabs.specs.Slabs.{in_slab}
use Rattle.slabs.specs.declared.node_entry.NodeMeta.{NodeMeta}
use Rattle.slabs.proofs.SumLaws.{sum_zero, sum_more}
use Rattle.slabs.proofs.EntryLaws.{owner_live, owner_direction}
use Rattle.slabs.proofs.FillLaws.{written_length, written_inlet, written_outlet, written_below, written_above}
use Rattle.slabs.proofs.SlabLaws.{in_slab_yes, in_slab_at, in_slab_each}
use Rattle.edits.specs.Counts.{some, live_ports}
use Rattle.sound.specs.Sound.{Owned}
use Rattle.sound.proofs.RenameLaws.{SamePort, same_port, Renamed}
use Rattle.sound.proofs.CountLaws.{sum_split, sum_ones, sum_run, some_none, some_one, sum_rises}

-- the live ports of a slab
abbrev pub ports_in : List ℕ → ℕ → ℕ → ℕ
ports_in owners first size = sum (λ i. some (get_or owners (first + i) 0)) size

-- Where only words of a slab change, the live ports change by those of the slab.
pub ports_change : (owners owners' : List ℕ) (first size mark : ℕ) → first + size ≤ mark
    → ((p : ℕ) → in_slab first size p ≡ 0 → get_or owners' p 0 ≡ get_or owners p 0)
    → live_ports owners' mark + ports_in owners first size ≡ live_ports owners mark + ports_in owners' first size
unfolding live_ports
ports_change owners owners' first size mark fits same =
    sum_run (λ p. some (get_or owners' p 0)) (λ p. some (get_or owners p 0)) first size mark fits (λ p h. ap some (same p h))

-- A slab without owners has no live ports.
pub ports_none : (owners : List ℕ) (first size : ℕ) → ((i : ℕ) → i < size → get_or owners (first + i) 0 ≡ 0) → ports_in owners first size ≡ 0
ports_none owners first size bare = sum_zero _ size (λ i l. some_none _ (bare i l))

-- The live ports of a slab below the mark are among all.
pub ports_some : (owners : List ℕ) (first size mark : ℕ) → first + size ≤ mark → ports_in owners first size ≤ live_ports owners mark
unfolding live_ports
ports_some owners first size mark fits =
    let f : ℕ → ℕ = λ p. some (get_or owners p 0) in
    omega (arith, sum_split f first size, sum_rises f (first + size) mark fits)

-- Where no port from the mark on is owned, a higher mark counts the same live ports,
pub ports_more : (owners : List ℕ) (mark mark' : ℕ) → mark ≤ mark' → ((p : ℕ) → mark ≤ p → get_or owners p 0 ≡ 0) → live_ports owners mark' ≡ live_ports owners mark
unfolding live_ports
ports_more owners mark mark' l bare =
    let e : mark' ≡ mark + (mark' - mark) = omega arith in
    rw e (sum_more (λ p. some (get_or owners p 0)) mark (mark' - mark) (λ p h. some_none _ (bare p h)))

-- and the same wires.
pub pairs_more : (owners links : List ℕ) (mark mark' : ℕ) → mark ≤ mark' → ((p : ℕ) → mark ≤ p → get_or owners p 0 ≡ 0)
    → pairs owners links mark' ≡ pairs owners links mark
unfolding pairs wired_outlet
pairs_more owners links mark mark' l bare =
    let e : mark' ≡ mark + (mark' - mark) = omega arith in
    rw e (sum_more (λ p. wired_outlet (get_or owners p 0) (get_or links p 0)) mark (mark' - mark) (λ p h. rw (eq-eqb (get_or owners p 0) 0 (bare p h))))

-- The owner word of each port of a step, inlet or outlet, has its direction.
pub owned_port : {owners : List ℕ} {k : ℕ} {m : NodeMeta} → Owned owners k m → (i : ℕ) → i < m.inlets + m.outlets
    → (d : ℕ) × (d ≤ 1) × (get_or owners (m.first + i) 0 ≡ owner_word k d)
owned_port {owners} {k} {m} o i l = go (dec_lt i m.inlets)
  where
    go : Dec (i < m.inlets) → (d : ℕ) × (d ≤ 1) × (get_or owners (m.first + i) 0 ≡ owner_word k d)
    go (yes h) = (0, omega arith, o.inlets_owned i h)
    go (no h) =
        let e : m.first + i ≡ m.first + m.inlets + (i - m.inlets) = omega arith in
        (1, omega arith, rw e (o.outlets_owned (i - m.inlets) (omega arith)))

-- A live port of its slab is one of them.
pub owned_few : {owners : List ℕ} {k : ℕ} {m : NodeMeta} → Owned owners k m → (p : ℕ) → Live owners p → m.first ≤ p → p < m.first + m.capacity
    → p < m.first + (m.inlets + m.outlets)
owned_few {owners} {k} {m} o p live low high =
    let e : m.first + (p - m.first) ≡ p = omega arith in
    let out : m.first + (m.inlets + m.outlets) ≤ p → ⊥ = λ h. live (rw e at (o.spare_unowned (p - m.first) (omega arith) (omega arith))) in
    omega arith

-- A step's slab has as many live ports as it has inlets and outlets.
pub owned_ports : {owners : List ℕ} {k : ℕ} {m : NodeMeta} → Owned owners k m → m.inlets + m.outlets ≤ m.capacity
    → ports_in owners m.first m.capacity ≡ m.inlets + m.outlets
owned_ports {owners} {k} {m} o fit =
    let total : ℕ = m.inlets + m.outlets in
    let f : ℕ → ℕ = λ i. some (get_or owners (m.first + i) 0) in
    let e : m.capacity ≡ total + (m.capacity - total) = omega arith in
    let split : sum f (total + (m.capacity - total)) ≡ sum f total + sum (λ i. f (total + i)) (m.capacity - total) = sum_split f total (m.capacity - total) in
    ap (sum f) e ∙ omega (
      arith,
      split,
      sum_ones f total (λ i l. let (d, b, is) = owned_port o i l in some_one _ (rw is (owner_live k d))),
      sum_zero (λ i. f (total + i)) (m.capacity - total) (λ i l. some_none _ (o.spare_unowned (total + i) (omega arith) (omega arith))),
    )

-- An edit outside a step's slab keeps its owner words.
pub owned_kept : {owners : List ℕ} {k : ℕ} {m : NodeMeta} → Owned owners k m → (owners' : List ℕ) → m.inlets + m.outlets ≤ m.capacity
    → ((p : ℕ) → 1 ≤ in_slab m.first m.capacity p → get_or owners' p 0 ≡ get_or owners p 0)
    → Owned owners' k m
owned_kept {owners} {k} {m} o owners' fit same =
    record {
      inlets_owned = λ i l. at i (omega arith) ∙ o.inlets_owned i l;
      outlets_owned = λ i l. rw add_assoc (at (m.inlets + i) (omega arith)) ∙ o.outlets_owned i l;
      spare_unowned = λ i h l. at i l ∙ o.spare_unowned i h l;
    }
  where
    at : (i : ℕ) → i < m.capacity → get_or owners' (m.first + i) 0 ≡ get_or owners (m.first + i) 0
    at i l = same (m.first + i) (omega (arith, in_slab_at m.first m.capacity i l))

-- Writing a step's owner words makes them those of its number, where its spare ports have none,
pub owned_written : (owners : List ℕ) (k : ℕ) (m : NodeMeta) → m.first + m.inlets + m.outlets ≤ length owners
    → ((i : ℕ) → m.inlets + m.outlets ≤ i → i < m.capacity → get_or owners (m.first + i) 0 ≡ 0)
    → Owned (owners_written owners k m.first m.inlets m.outlets) k m
owned_written owners k m fits spare =
    record {
      inlets_owned = λ i l. written_inlet owners k m.first m.inlets m.outlets i l fits;
      outlets_owned = λ i l. written_outlet owners k m.first m.inlets m.outlets i l fits;
      spare_unowned = λ i h l. written_above owners k m.first m.inlets m.outlets (m.first + i) (omega arith) ∙ spare i h l;
    }

-- and no other port's: none outside a slab that has room for them,
pub written_outside : (owners : List ℕ) (k first inlets outlets size p : ℕ) → inlets + outlets ≤ size → in_slab first size p ≡ 0
    → get_or (owners_written owners k first inlets outlets) p 0 ≡ get_or owners p 0
written_outside owners k first inlets outlets size p fit out = go (dec_lt p first) (dec_le (first + size) p)
  where
    go : Dec (p < first) → Dec (first + size ≤ p) → get_or (owners_written owners k first inlets outlets) p 0 ≡ get_or owners p 0
    go (yes l) d = written_below owners k first inlets outlets p l
    go (no l) (yes h) = written_above owners k first inlets outlets p (omega arith)
    go (no l) (no h) = absurd (omega (arith, in_slab_yes first size p (omega arith) (omega arith)))

-- and where they were those of another number, each port is live as before and faces the same way.
pub owned_renamed : {owners : List ℕ} {k : ℕ} {m : NodeMeta} → Owned owners k m → (k' : ℕ) → k < 65536 → k' < 65536
    → m.first + m.inlets + m.outlets ≤ length owners
    → Renamed owners (owners_written owners k' m.first m.inlets m.outlets)
owned_renamed {owners} {k} {m} o k' few few' fits p = go (dec_le 1 (in_slab m.first (m.inlets + m.outlets) p))
  where
    owners' : List ℕ
    owners' = owners_written owners k' m.first m.inlets m.outlets

    word : (d : ℕ) → d ≤ 1 → SamePort (owner_word k d) (owner_word k' d)
    word d b =
        record {
          dead = λ e. absurd (owner_live k d e);
          live = λ n. owner_live k' d;
          faces = owner_direction k' d few' b ∙ sym (owner_direction k d few b);
        }

    at : (i : ℕ) → Dec (i < m.inlets) → i < m.inlets + m.outlets → SamePort (get_or owners (m.first + i) 0) (get_or owners' (m.first + i) 0)
    at i (yes h) l =
        rw (o.inlets_owned i h, written_inlet owners k' m.first m.inlets m.outlets i h fits) (word 0 (omega arith))
    at i (no h) l =
        let e : m.first + i ≡ m.first + m.inlets + (i - m.inlets) = omega arith in
        let b : i - m.inlets < m.outlets = omega arith in
        rw (e, o.outlets_owned (i - m.inlets) b, written_outlet owners k' m.first m.inlets m.outlets (i - m.inlets) b fits) (word 1 (omega arith))

    go : Dec (1 ≤ in_slab m.first (m.inlets + m.outlets) p) → SamePort (get_or owners p 0) (get_or owners' p 0)
    go (yes h) =
        in_slab_each (λ q. SamePort (get_or owners q 0) (get_or owners' q 0)) m.first (m.inlets + m.outlets) (λ i. at i (dec_lt i m.inlets)) p h
    go (no n) = rw (written_outside owners k' m.first m.inlets m.outlets (m.inlets + m.outlets) p (omega arith) (omega arith)) (same_port (get_or owners p 0))

-- The owner words of step m name number k now: they are those of rule 5, other steps keep theirs, and each port is live as before and faces
-- the same way.
pub record Rewritten (owners owners' : List ℕ) (k : ℕ) (m : NodeMeta) : Type 0 where
  pub owned : Owned owners' k m
  pub others : (j : ℕ) (n : NodeMeta) → Owned owners j n → n.inlets + n.outlets ≤ n.capacity
      → ((p : ℕ) → in_slab m.first m.capacity p + in_slab n.first n.capacity p ≤ 1)
      → Owned owners' j n
  pub renamed : Renamed owners owners'
  pub length_kept : length owners' ≡ length owners

-- So it is when a step gets another number.
pub owned_rewritten : {owners : List ℕ} {k : ℕ} {m : NodeMeta} → Owned owners k m → (k' : ℕ) → k < 65536 → k' < 65536
    → m.inlets + m.outlets ≤ m.capacity → m.first + m.capacity ≤ length owners
    → Rewritten owners (owners_written owners k' m.first m.inlets m.outlets) k' m
owned_rewritten {owners} {k} {m} o k' few few' fit ends =
    record {
      owned = owned_written owners k' m (omega arith) o.spare_unowned;
      others =
          λ j n there fits apart.
          owned_kept there (owners_written owners k' m.first m.inlets m.outlets) fits
          (λ p h. written_outside owners k' m.first m.inlets m.outlets m.capacity p fit (omega (arith, apart p)));
      renamed = owned_renamed o k' few few' (omega arith);
      length_kept = written_length owners k' m.first m.inlets m.outlets;
    }
