-- A store is sound exactly where the facts that the audit's parts decide hold.
use Prim.Native.Nat.{ℕ, suc, zero, ◌+◌, ◌-◌, ◌≤◌, ◌<◌}
use mathlib.Core.Path.{◌≡◌, refl, sym, ◌∙◌}
use mathlib.Core.List.{List}
use native.Mathlib.Omega.{arith}
use native.Mathlib.Decide.{ℕ_discrete, dec_lt, dec_le}
use lib.ListN.{length, get_or}
use Rattle.slabs.specs.Sums.{sum, sum_of}
use Rattle.slabs.specs.PortEntry.{Live}
use Rattle.slabs.specs.Links.{Wiring, Mate}
use Rattle.slabs.specs.NodeEntry.{node_entry}
use Rattle.slabs.specs.Slabs.{in_slab, is_port, free_at, starts_at}
use Rattle.slabs.specs.declared.node_entry.NodeMeta.{NodeMeta}
use Rattle.slabs.specs.declared.node_entry.NodeEntry.{NodeEntry}
use Rattle.slabs.specs.declared.node_entry.NodeEntry.TheVariants.{Free, Node}
use Rattle.slabs.proofs.EntryLaws.{owner_live}
use Rattle.slabs.proofs.SumLaws.{sum_le, sum_term, sum_some, sum_of_le}
use Rattle.slabs.proofs.SlabLaws.{in_slab_yes, in_slab_at, in_slab_lies, in_slab_each, is_port_yes, is_port_no, is_port_in}
use Rattle.edits.specs.Store.{Store, on_node}
use Rattle.edits.specs.Counts.{live_slots}
use Rattle.sound.specs.Sound.{LiveSlot, FreeChain, held_at, held_in, Sound}
use Rattle.audit.specs.Parts.{MarksHold, SlotsHold, HeldWords, HeldSlab, FreeSlab, AllFree, TiledHolds, PortsHold}
use Rattle.sound.proofs.ChainLaws.{times_on}
use Rattle.audit.proofs.EachLaws.{each_of, each_some, on_term, sum_of_plus}
use Rattle.audit.proofs.TiledLaws.{held_within, free_within}

-- The slab of a live slot is one of those that are counted.
pub held_term : (slots : List ℕ) (mark k p : ℕ) (m : NodeMeta) → k < mark → node_entry slots k ≡ Node m
    → in_slab m.first m.capacity p ≤ held_at slots mark p
unfolding held_at
held_term slots mark k p m l e =
    rw e at (sum_term (λ j. on_node (node_entry slots j) (λ n. in_slab n.first n.capacity p) 0) mark k l)

-- A port that is counted lies in the slab of a live slot.
pub held_found : (slots : List ℕ) (mark p : ℕ) → 1 ≤ held_at slots mark p
    → (k : ℕ) × (m : NodeMeta) × (k < mark) × (node_entry slots k ≡ Node m) × (1 ≤ in_slab m.first m.capacity p)
unfolding held_at
held_found slots mark p h =
    let t = sum_some (λ j. on_node (node_entry slots j) (λ n. in_slab n.first n.capacity p) 0) mark h in
    go t.0 t.1 (node_entry slots t.0) refl t.2
  where
    go : (k : ℕ) → k < mark → (n : NodeEntry) → node_entry slots k ≡ n → 1 ≤ on_node n (λ m. in_slab m.first m.capacity p) 0
        → (j : ℕ) × (m : NodeMeta) × (j < mark) × (node_entry slots j ≡ Node m) × (1 ≤ in_slab m.first m.capacity p)
    go k l (Node m) e some = (k, m, l, e, some)
    go k l (Free previous next) e some = absurd (omega arith)

-- A slab on a chain is one of those that are counted.
pub free_term : (chains : ℕ → List ℕ) (n i first p : ℕ) → i < n → 1 ≤ times_on (chains i) first → in_slab first (suc i) p ≤ free_at chains n p
unfolding free_at
free_term chains n i first p l on =
    omega
    (arith, on_term (λ f. in_slab f (suc i) p) (chains i) first on, sum_term (λ j. sum_of (λ f. in_slab f (suc j) p) (chains j)) n i l)

-- So is its start.
pub start_term : (chains : ℕ → List ℕ) (n i p : ℕ) → i < n → times_on (chains i) p ≤ starts_at chains n p
unfolding starts_at
start_term chains n i p l = sum_term (λ j. sum_of (λ f. is_port f p) (chains j)) n i l

-- A port that is counted lies in a free slab on a chain.
pub free_found : (links owners heads : List ℕ) (mark n p : ℕ) (chains : ℕ → List ℕ) → AllFree links owners heads mark n chains
    → 1 ≤ free_at chains n p
    → (i first : ℕ) × (i < n) × FreeSlab links owners mark first (suc i) × (1 ≤ times_on (chains i) first) × (1 ≤ in_slab first (suc i) p)
unfolding free_at
free_found links owners heads mark n p chains all h =
    let t = sum_some (λ j. sum_of (λ f. in_slab f (suc j) p) (chains j)) n h in
    let u = each_some _ (λ f. in_slab f (suc t.0) p) (chains t.0) (all t.0 t.1).each t.2 in
    (t.0, u.0, t.1, u.1, u.2, u.3)

-- A sum of terms that are no greater, and of one that is less, is less.
pub sum_less : (f g : ℕ → ℕ) (n i : ℕ) → i < n → ((j : ℕ) → j < n → f j ≤ g j) → f i + 1 ≤ g i → sum f n + 1 ≤ sum g n
unfolding sum
sum_less f g zero i l h less = absurd (omega arith)
sum_less f g (suc n) i l h less = go (ℕ_discrete i n) (λ k. sum_less f g n i k (λ j b. h j (omega arith)) less)
  where
    go : Dec (i ≡ n) → (i < n → sum f n + 1 ≤ sum g n) → sum f n + f n + 1 ≤ sum g n + g n
    go (yes e) below = omega (arith, sum_le f g n (λ j b. h j (omega arith)), rw e at less)
    go (no d) below = omega (arith, below (omega arith), h n (omega arith))

-- A port inside a free slab, but not its first, lies in more free slabs than start there.
pub tail_starts : (chains : ℕ → List ℕ) (n i first p : ℕ) → i < n → 1 ≤ times_on (chains i) first → first < p → p < first + suc i
    → starts_at chains n p + 1 ≤ free_at chains n p
unfolding starts_at free_at
tail_starts chains n i first p l on after inside =
    sum_less (λ j. times_on (chains j) p) (λ j. sum_of (λ f. in_slab f (suc j) p) (chains j)) n i l
    (λ j k. sum_of_le (λ f. is_port f p) (λ f. in_slab f (suc j) p) (chains j) (λ f. is_port_in f j p))
    (omega
    (arith, sum_of_plus (λ f. is_port f p) (λ f. is_port f first) (chains i), sum_of_le (λ f. is_port f p + is_port f first) (λ f. in_slab f (suc i) p) (chains i) (λ f. both f (ℕ_discrete f first))))
  where
    both : (f : ℕ) → Dec (f ≡ first) → is_port f p + is_port f first ≤ in_slab f (suc i) p
    both f (yes e) =
        omega
        (arith, is_port_no f p (omega arith), is_port_yes f first e, in_slab_yes f (suc i) p (omega arith) (omega arith))
    both f (no d) = omega (arith, is_port_no f first d, is_port_in f i p)

-- A port of a live slot's slab that nobody owns has no link.
pub words_loose : (links owners : List ℕ) (node : ℕ) (m : NodeMeta) → HeldWords links owners node m
    → (i : ℕ) → i < m.capacity → get_or owners (m.first + i) 0 ≡ 0 → get_or links (m.first + i) 0 ≡ 0
words_loose links owners node m w i u bare = go (dec_lt i m.inlets) (dec_lt i (m.inlets + m.outlets))
  where
    go : Dec (i < m.inlets) → Dec (i < m.inlets + m.outlets) → get_or links (m.first + i) 0 ≡ 0
    go (yes l) d = absurd (owner_live node 0 (sym (w.owned.inlets_owned i l) ∙ bare))
    go (no l) (yes k) =
        let e : m.first + m.inlets + (i - m.inlets) ≡ m.first + i = omega arith in
        absurd (owner_live node 1 (sym (rw e at (w.owned.outlets_owned (i - m.inlets) (omega arith))) ∙ bare))
    go (no l) (no k) =
        let e : m.first + (m.inlets + m.outlets) + (i - (m.inlets + m.outlets)) ≡ m.first + i = omega arith in
        rw e at (w.spare_loose (i - (m.inlets + m.outlets)) (omega arith))

-- The facts that the audit's parts decide, with rule 3 as the store has it.
pub record SoundParts (s : Store) : Type 0 where
  pub marks : MarksHold s.slots s.links s.owners s.counters
  pub slots : SlotsHold s.slots (length s.heads) s.counters.nodemark
  pub free_chain : FreeChain s
  pub nodes : s.counters.nodes ≡ live_slots s.slots s.counters.nodemark
  pub tiled : TiledHolds s.slots s.links s.owners s.heads s.counters
  pub ports : PortsHold s.links s.owners s.counters

module _ (s : Store) (h : Sound s) where
  -- a port is in one slab at most
  once : (p : ℕ) → held_in s p + free_at h.tiled.chains (length s.heads) p ≤ 1
  once p = go (dec_lt p s.counters.portmark)
    where
      go : Dec (p < s.counters.portmark) → held_in s p + free_at h.tiled.chains (length s.heads) p ≤ 1
      go (yes l) = omega (arith, h.tiled.once p l)
      go (no l) = omega (arith, h.tiled.within p (omega arith))

  -- one in a slab is below the mark
  below : (p : ℕ) → 1 ≤ held_in s p + free_at h.tiled.chains (length s.heads) p → p < s.counters.portmark
  below p some = go (dec_lt p s.counters.portmark)
    where
      go : Dec (p < s.counters.portmark) → p < s.counters.portmark
      go (yes l) = l
      go (no l) = absurd (omega (arith, h.tiled.within p (omega arith)))

  -- one that is held and not live has no link
  spare_loose : (p : ℕ) → 1 ≤ held_in s p → get_or s.owners p 0 ≡ 0 → get_or s.links p 0 ≡ 0
  spare_loose p held spare = go (ℕ_discrete (get_or s.links p 0) 0)
    where
      go : Dec (get_or s.links p 0 ≡ 0) → get_or s.links p 0 ≡ 0
      go (yes e) = e
      go (no d) = absurd ((h.links.wiring p (get_or s.links p 0 - 1) held (omega arith)).here spare)

  -- one that is live is held
  live_held : (p : ℕ) → Live s.owners p → 1 ≤ held_in s p
  live_held p live = go (dec_le 1 (held_in s p))
    where
      go : Dec (1 ≤ held_in s p) → 1 ≤ held_in s p
      go (yes l) = l
      go (no l) = absurd (live (h.owners.free p (omega arith)))

  module _ (k : ℕ) (m : NodeMeta) (l : k < s.counters.nodemark) (e : node_entry s.slots k ≡ Node m) where
    slab_held : (i : ℕ) → i < m.capacity → 1 ≤ held_in s (m.first + i)
    slab_held i u =
        omega
        (arith, held_term s.slots s.counters.nodemark k (m.first + i) m l e, in_slab_at m.first m.capacity i u)

    slab_ends : LiveSlot (length s.heads) m → Dec (m.capacity ≡ 0) → m.first + m.capacity ≤ s.counters.portmark
    slab_ends live (yes z) = omega (arith, live.unplaced z)
    slab_ends live (no z) =
        omega (arith, below (m.first + (m.capacity - 1)) (omega (arith, slab_held (m.capacity - 1) (omega arith))))

    held_slab : HeldSlab s.links s.owners s.counters.portmark k m
    held_slab =
        record {
          ends = slab_ends (rw e at (h.slots k l)) (ℕ_discrete m.capacity 0);
          words =
              record {
                owned = h.owners.live k l m e;
                spare_loose = λ i u.
                    let d : m.first + (m.inlets + m.outlets) + i ≡ m.first + (m.inlets + m.outlets + i) = omega arith in
                    rw d
                    (spare_loose (m.first + (m.inlets + m.outlets + i)) (slab_held (m.inlets + m.outlets + i) (omega arith))
                    ((h.owners.live k l m e).spare_unowned (m.inlets + m.outlets + i) (omega arith) (omega arith)));
              };
        }

  module _ (i first : ℕ) (l : i < length s.heads) (on : 1 ≤ times_on (h.tiled.chains i) first) where
    slab_free : (j : ℕ) → j < suc i → 1 ≤ free_at h.tiled.chains (length s.heads) (first + j)
    slab_free j u =
        omega
        (arith, free_term h.tiled.chains (length s.heads) i first (first + j) l on, in_slab_at first (suc i) j u)

    free_slab : FreeSlab s.links s.owners s.counters.portmark first (suc i)
    free_slab =
        record {
          ends = omega (arith, below (first + i) (omega (arith, slab_free i (omega arith))));
          unowned = λ j u. h.owners.free (first + j) (omega (arith, once (first + j), slab_free j u));
          tail_loose = λ j u.
              let d : first + 1 + j ≡ first + suc j = omega arith in
              rw d
              (h.links.loose (first + suc j) (omega (arith, once (first + suc j), slab_free (suc j) (omega arith)))
              (omega
              (arith, once (first + suc j), tail_starts h.tiled.chains (length s.heads) i first (first + suc j) l on (omega arith) (omega arith))));
        }

  -- What a sound store gives.
  pub sound_parts : SoundParts s
  sound_parts =
      record {
        marks =
            record {
              nodes_inside = h.marks.nodes_inside;
              ports_inside = h.marks.ports_inside;
              slots_blank = h.marks.slots_blank;
              links_blank = h.marks.links_blank;
              owners_blank = h.marks.owners_blank;
            };
        slots = h.slots;
        free_chain = h.free_chain;
        nodes = h.counted.nodes;
        tiled =
            record {
              held = held_slab;
              chains = h.tiled.chains;
              free = λ i l. record { chained = h.tiled.chained i l; each = each_of _ (h.tiled.chains i) (λ first on. free_slab i first l on) };
              once = h.tiled.once;
            };
        ports =
            record {
              mates = λ p l live q e. h.links.wiring p q (live_held p live) e;
              true_ports = h.counted.ports;
              true_links = h.counted.links;
            };
      }

module _ (s : Store) (h : SoundParts s) where
  -- a port in no held slab is in a free slab, or at or above the mark
  unheld : (P : Type 0) (p : ℕ) → held_in s p ≡ 0 → (s.counters.portmark ≤ p → P)
      → ((i first : ℕ) → i < length s.heads → FreeSlab s.links s.owners s.counters.portmark first (suc i)
      → 1 ≤ times_on (h.tiled.chains i) first → 1 ≤ in_slab first (suc i) p → P)
      → P
  unheld P p none above free = go (dec_lt p s.counters.portmark)
    where
      go : Dec (p < s.counters.portmark) → P
      go (yes l) =
          let t =
          free_found s.links s.owners s.heads s.counters.portmark (length s.heads) p h.tiled.chains h.tiled.free
          (omega (arith, h.tiled.once p l)) in
          free t.0 t.1 t.2 t.3 t.4 t.5
      go (no l) = above (omega arith)

  -- a held port that nobody owns has no link
  bare_loose : (p : ℕ) → 1 ≤ held_in s p → get_or s.owners p 0 ≡ 0 → get_or s.links p 0 ≡ 0
  bare_loose p held bare =
      let t = held_found s.slots s.counters.nodemark p held in
      in_slab_each (λ q. get_or s.owners q 0 ≡ 0 → get_or s.links q 0 ≡ 0) t.1.first t.1.capacity
      (words_loose s.links s.owners t.0 t.1 (h.tiled.held t.0 t.1 t.2 t.3).words) p t.4 bare

  bare : (p : ℕ) → held_in s p ≡ 0 → get_or s.owners p 0 ≡ 0
  bare p none =
      unheld (get_or s.owners p 0 ≡ 0) p none (h.marks.owners_blank p)
      (λ i first l slab on lies. in_slab_each (λ q. get_or s.owners q 0 ≡ 0) first (suc i) slab.unowned p lies)

  loose : (p : ℕ) → held_in s p ≡ 0 → starts_at h.tiled.chains (length s.heads) p ≡ 0 → get_or s.links p 0 ≡ 0
  loose p none unstarted =
      unheld (get_or s.links p 0 ≡ 0) p none (h.marks.links_blank p) (λ i first l slab on lies. go i first l slab on lies (ℕ_discrete first p))
    where
      go : (i first : ℕ) → i < length s.heads → FreeSlab s.links s.owners s.counters.portmark first (suc i)
          → 1 ≤ times_on (h.tiled.chains i) first → 1 ≤ in_slab first (suc i) p → Dec (first ≡ p) → get_or s.links p 0 ≡ 0
      go i first l slab on lies (yes e) = absurd (omega (arith, start_term h.tiled.chains (length s.heads) i p l, rw e at on))
      go i first l slab on lies (no d) =
          let e : p ≡ first + 1 + (p - first - 1) = omega (arith, in_slab_lies first (suc i) p lies) in
          rw e (slab.tail_loose (p - first - 1) (omega (arith, in_slab_lies first (suc i) p lies)))

  within : (p : ℕ) → s.counters.portmark ≤ p → held_in s p + free_at h.tiled.chains (length s.heads) p ≡ 0
  within p above =
      omega
      (arith, held_within s.slots s.links s.owners s.counters h.tiled.held p above, free_within s.links s.owners s.heads s.counters.portmark (length s.heads) h.tiled.chains h.tiled.free p above)

  wiring : Wiring s.owners s.links (held_in s)
  wiring p q held e = go (dec_lt p s.counters.portmark) (ℕ_discrete (get_or s.owners p 0) 0)
    where
      go : Dec (p < s.counters.portmark) → Dec (get_or s.owners p 0 ≡ 0) → Mate s.owners s.links p q
      go (yes l) (no live) = h.ports.mates p l live q e
      go (yes l) (yes spare) = absurd (omega (arith, bare_loose p held spare))
      go (no l) d = absurd (omega (arith, within p (omega arith)))

  -- What makes a store sound.
  pub parts_sound : Sound s
  parts_sound =
      record {
        marks =
            record {
              nodes_inside = h.marks.nodes_inside;
              ports_inside = h.marks.ports_inside;
              slots_blank = h.marks.slots_blank;
              links_blank = h.marks.links_blank;
              owners_blank = h.marks.owners_blank;
            };
        slots = h.slots;
        free_chain = h.free_chain;
        tiled = record { chains = h.tiled.chains; chained = λ i l. (h.tiled.free i l).chained; once = h.tiled.once; within = within };
        owners = record { live = λ k l m e. (h.tiled.held k m l e).words.owned; free = bare };
        links = record { wiring = wiring; loose = loose };
        counted = record { nodes = h.nodes; ports = h.ports.true_ports; links = h.ports.true_links };
      }
