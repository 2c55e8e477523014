-- What a sound store of well-shaped tables gives to the code of the calls: it fits (`sound_fit`). Before it: whose slab a held port lies
-- in, what its owner word says, and where slabs end.
use Prim.Native.Nat.{ℕ, suc, ◌+◌, ◌-◌, ◌≤◌, ◌<◌}
use mathlib.Core.Path.{◌≡◌, refl, ap}
use mathlib.Core.List.{List}
use mathlib.Core.Bool.{Bool, true, false}
use native.Mathlib.Omega.{arith}
use native.Mathlib.Decide.{dec_le}
use lib.ListN.{length, get_or}
use lib.Dec.{eqb}
use Rattle.slabs.specs.Choice.{pick}
use Rattle.slabs.specs.Sums.{sum_of}
use Rattle.slabs.specs.PortEntry.{Live, owner_word, node_of, direction_of}
use Rattle.slabs.specs.NodeEntry.{node_entry}
use Rattle.slabs.specs.Links.{wired_outlet, pairs}
use Rattle.slabs.specs.Slab.{head_of}
use Rattle.slabs.specs.Slabs.{in_slab, free_at}
use Rattle.slabs.specs.declared.node_entry.NodeMeta.{NodeMeta}
use Rattle.slabs.specs.declared.node_entry.NodeEntry.{NodeEntry}
use Rattle.slabs.specs.declared.node_entry.NodeEntry.TheVariants.{Free, Node}
use Rattle.slabs.proofs.SumLaws.{sum_term, sum_some}
use Rattle.slabs.proofs.SlabLaws.{in_slab_lies, in_slab_at, held_below, free_below, links_inside, held_le}
use Rattle.slabs.proofs.EntryLaws.{owner_node, direction_le}
use Rattle.edits.specs.Store.{Store, on_node}
use Rattle.edits.specs.Fit.{Fit}
use Rattle.sound.specs.Sound.{Shaped, Sound, held_at, held_in}
use Rattle.sound.proofs.Parts.{Parts, parts_of, slot_table, chain_of}
use Rattle.sound.proofs.ChainLaws.{chain_first}
use Rattle.sound.proofs.CountLaws.{sum_low}
use Rattle.sound.proofs.SlotTable.{live_slot}
use Rattle.sound.proofs.SlotLaws.{slab_held, slabs_two, free_says}
use Rattle.sound.proofs.FreeSlotLaws.{SlotChain, head_free, head_below, next_below, previous_below}
use Rattle.sound.proofs.OwnerLaws.{owned_few, owned_port}

-- the live slot whose slab port p lies in
abbrev pub Holder : Store → ℕ → Type 0
Holder s p =
    (k : ℕ) × (m : NodeMeta) × (k < s.counters.nodemark) × (node_entry s.slots k ≡ Node m) × (m.first ≤ p) × (p < m.first + m.capacity)

-- A held port lies in the slab of a live slot.
pub held_owner : (s : Store) (p : ℕ) → 1 ≤ held_in s p → Holder s p
unfolding held_at
held_owner s p h =
    let (k, l, one) = sum_some (λ k. on_node (node_entry s.slots k) (λ m. in_slab m.first m.capacity p) 0) s.counters.nodemark h in
    go k l (node_entry s.slots k) refl one
  where
    go : (k : ℕ) → k < s.counters.nodemark → (e : NodeEntry) → node_entry s.slots k ≡ e
        → 1 ≤ on_node e (λ m. in_slab m.first m.capacity p) 0 → Holder s p
    go k l (Node m) is one = let (low, high) = in_slab_lies m.first m.capacity p one in (k, m, l, is, low, high)
    go k l (Free previous next) is one = absurd (omega arith)

-- A live port is held.
pub live_held : (s : Store) → Sound s → (p : ℕ) → Live s.owners p → 1 ≤ held_in s p
live_held s sound p live = let out : held_in s p ≡ 0 → ⊥ = λ h. live (sound.owners.free p h) in omega arith

-- A slot below the mark has an owner word.
pub few_nodes : (s : Store) → Shaped s → Sound s → s.counters.nodemark ≤ 65536
few_nodes s shaped sound = omega (arith, sound.marks.nodes_inside)

-- the port's step, which way it faces, and its owner word
pub record OwnerOf (s : Store) (p : ℕ) : Type 0 where
  pub node : ℕ
  pub meta : NodeMeta
  pub direction : ℕ
  pub below : node < s.counters.nodemark
  pub is : node_entry s.slots node ≡ Node meta
  pub lies : meta.first ≤ p
  pub ends : p < meta.first + meta.capacity
  pub faces : direction ≤ 1
  pub word : get_or s.owners p 0 ≡ owner_word node direction

-- A live port is an inlet or an outlet of a live slot.
pub live_owner : (s : Store) → Sound s → (p : ℕ) → Live s.owners p → OwnerOf s p
live_owner s sound p live =
    let (k, m, l, is, low, high) = held_owner s p (live_held s sound p live) in
    let owned = sound.owners.live k l m is in
    let few = owned_few owned p live low high in
    let (d, b, word) = owned_port owned (p - m.first) (omega arith) in
    let at : m.first + (p - m.first) ≡ p = omega arith in
    record { node = k; meta = m; direction = d; below = l; is = is; lies = low; ends = high; faces = b; word = rw at at word }

-- The owner word of a live port names its live slot.
pub owner_names : (s : Store) → Shaped s → Sound s → (p : ℕ) (o : OwnerOf s p) → node_of (get_or s.owners p 0) ≡ o.node
owner_names s shaped sound p o =
    rw o.word (owner_node o.node o.direction (omega (arith, few_nodes s shaped sound)) o.faces)

-- The slab of a live slot ends at the mark or below it.
pub slab_ends : (s : Store) → Parts s → (k : ℕ) (m : NodeMeta) → k < s.counters.nodemark → node_entry s.slots k ≡ Node m
    → m.first + m.capacity ≤ s.counters.portmark
slab_ends s P k m l is = go (dec_le 1 m.capacity)
  where
    go : Dec (1 ≤ m.capacity) → m.first + m.capacity ≤ s.counters.portmark
    go (yes some) =
        let last : ℕ = m.first + (m.capacity - 1) in
        let here : in_slab m.first m.capacity last ≡ 1 = in_slab_at m.first m.capacity (m.capacity - 1) (omega arith) in
        omega (arith, held_below P.slabs last (omega (arith, slab_held s.slots s.counters.nodemark k m last l is)))
    go (no none) = omega (arith, (live_slot (slot_table s P) k m l is).unplaced (omega arith))

-- So it lies in the tables of ports.
pub slab_inside : (s : Store) → Parts s → (k : ℕ) (m : NodeMeta) → k < s.counters.nodemark → node_entry s.slots k ≡ Node m
    → m.first + m.capacity ≤ length s.owners
slab_inside s P k m l is = omega (arith, slab_ends s P k m l is, P.slabs.room, P.slabs.equal)

-- No port lies in the slabs of two live slots.
pub slabs_apart : (s : Store) → Parts s → (k j : ℕ) (m n : NodeMeta) → k < s.counters.nodemark → j < s.counters.nodemark → (k ≡ j → ⊥)
    → node_entry s.slots k ≡ Node m → node_entry s.slots j ≡ Node n
    → (p : ℕ) → in_slab m.first m.capacity p + in_slab n.first n.capacity p ≤ 1
slabs_apart s P k j m n lk lj d is is' p =
    omega (arith, held_le P.slabs p, slabs_two s.slots s.counters.nodemark k j m n p lk lj d is is')

-- A port counts as one wire at most,
wired_le : (owner link : ℕ) → wired_outlet owner link ≤ 1
unfolding wired_outlet
wired_le owner link = go (eqb owner 0) (eqb link 0)
  where
    go : (a b : Bool) → pick a 0 (pick b 0 (direction_of owner)) ≤ 1
    go true b = omega arith
    go false true = omega arith
    go false false = direction_le owner

-- so there are no more wires below a port than ports.
pub pairs_le : (owners links : List ℕ) (n : ℕ) → pairs owners links n ≤ n
unfolding pairs
pairs_le owners links = sum_low _ (λ p. wired_le (get_or owners p 0) (get_or links p 0))

-- The first slab of a chain ends at the mark or below it.
pub head_ends : (s : Store) → Parts s → (size first : ℕ) → 1 ≤ size → size ≤ length s.heads → head_of s.heads size ≡ suc first
    → first + size ≤ s.counters.portmark
unfolding free_at sum_of
head_ends s P size first some sized e =
    let i : ℕ = size - 1 in
    let (rest, is, c) = chain_first _ first (P.slabs.chains i) (rw e at (P.slabs.chained i (omega arith))) in
    let at : ℕ → ℕ = λ j. sum_of (λ f. in_slab f (suc j) (first + i)) (P.slabs.chains j) in
    let here : at i ≡ in_slab first (suc i) (first + i) + sum_of (λ f. in_slab f (suc i) (first + i)) rest = ap (sum_of (λ f. in_slab f (suc i) (first + i))) is in
    omega
    (arith, free_below P.slabs (first + i) (omega (arith, sum_term at (length s.heads) i (omega arith), in_slab_at first (suc i) i (omega arith))))

-- A sound store of well-shaped tables fits.
pub sound_fit : (s : Store) → Shaped s → Sound s → Fit s
sound_fit s shaped sound =
    record {
      few_slots = omega arith;
      equal = shaped.equal;
      few_ports = shaped.few_ports;
      few_heads = shaped.few_heads;
      node_room = sound.marks.nodes_inside;
      port_room = sound.marks.ports_inside;
      live = λ k m l is. let fits = live_slot (slot_table s P) k m l is in
          record {
            few_inlets = fits.few_inlets;
            few_outlets = fits.few_outlets;
            fit = fits.fit;
            sized = fits.sized;
            ends = omega (arith, slab_ends s P k m l is, sound.marks.ports_inside);
          };
      free = λ k previous next l is.
          let (z, e₀, e₂) = free_says s.slots k previous next is in (rw e₀ at (previous_below c k l z), rw e₂ at (next_below c k l z));
      head = head_below c;
      second = λ k e. let (l, z) = head_free c k e in next_below c k l z;
      links_inside = links_inside P.slabs P.wiring;
      heads_inside = λ size first some sized e. omega (arith, head_ends s P size first some sized e, sound.marks.ports_inside);
      owners_inside = λ p l live. let o = live_owner s sound p live in rw (owner_names s shaped sound p o) o.below;
      true_nodes = sound.counted.nodes;
      true_ports = sound.counted.ports;
      few_links = omega (arith, pairs_le s.owners s.links s.counters.portmark, sound.counted.links, sound.marks.ports_inside);
    }
  where
    P : Parts s
    P = parts_of s shaped sound

    c : SlotChain s.slots s.counters.freeslot s.counters.nodemark
    c = chain_of s P
