-- All slabs together: none reaches past the mark, and they tile the ports below it where as many ports are claimed.
use Prim.Native.Nat.{ℕ, suc, ◌+◌, ◌≤◌, ◌<◌}
use mathlib.Core.Path.{◌≡◌, refl, sym, ◌∙◌}
use mathlib.Core.List.{List}
use native.Mathlib.Omega.{arith}
use native.Mathlib.Decide.{dec_lt}
use lib.ListN.{length, get_or}
use Rattle.slabs.specs.Sums.{sum_of}
use Rattle.slabs.specs.NodeEntry.{node_entry}
use Rattle.slabs.specs.Slabs.{in_slab, free_at}
use Rattle.slabs.specs.declared.counters.Counters.{Counters}
use Rattle.slabs.specs.declared.node_entry.NodeEntry.{NodeEntry}
use Rattle.slabs.specs.declared.node_entry.NodeEntry.TheVariants.{Free, Node}
use Rattle.slabs.proofs.SumLaws.{sum_zero}
use Rattle.slabs.proofs.SlabLaws.{in_slab_above}
use Rattle.edits.specs.Store.{on_node}
use Rattle.sound.specs.Sound.{held_at}
use Rattle.audit.specs.Parts.{Tally, HeldSlabs, AllFree, TiledHolds}
use Rattle.audit.proofs.EachLaws.{each_zero}
use Rattle.audit.proofs.TallyLaws.{tally_full, tally_all}
use Rattle.audit.proofs.FreeLaws.{free_unique}

-- No slab of a live slot reaches past the mark,
pub held_within : (slots links owners : List ℕ) (c : Counters) → HeldSlabs slots links owners c
    → (p : ℕ) → c.portmark ≤ p → held_at slots c.nodemark p ≡ 0
unfolding held_at
held_within slots links owners c h p above =
    sum_zero (λ k. on_node (node_entry slots k) (λ m. in_slab m.first m.capacity p) 0) c.nodemark
    (λ k l. go k l (node_entry slots k) refl)
  where
    go : (k : ℕ) → k < c.nodemark → (n : NodeEntry) → node_entry slots k ≡ n → on_node n (λ m. in_slab m.first m.capacity p) 0 ≡ 0
    go k l (Node m) e = in_slab_above m.first m.capacity p (omega (arith, (h k m l e).ends))
    go k l (Free previous next) e = refl

-- and no free slab.
pub free_within : (links owners heads : List ℕ) (mark n : ℕ) (chains : ℕ → List ℕ) → AllFree links owners heads mark n chains
    → (p : ℕ) → mark ≤ p → free_at chains n p ≡ 0
unfolding free_at
free_within links owners heads mark n chains h p above =
    sum_zero (λ i. sum_of (λ f. in_slab f (suc i) p) (chains i)) n
    (λ i l. each_zero _ (λ f. in_slab f (suc i) p) (chains i) (h i l).each (λ f s. in_slab_above f (suc i) p (omega (arith, s.ends))))

module _ (slots links owners heads : List ℕ) (c : Counters) where
  -- In a tiling no port is in two slabs.
  pub tiled_once : (t : TiledHolds slots links owners heads c) (p : ℕ)
      → held_at slots c.nodemark p + free_at t.chains (length heads) p ≤ 1
  tiled_once t p = go (dec_lt p c.portmark)
    where
      go : Dec (p < c.portmark) → held_at slots c.nodemark p + free_at t.chains (length heads) p ≤ 1
      go (yes l) = omega (arith, t.once p l)
      go (no l) =
          omega
          (arith, held_within slots links owners c t.held p (omega arith), free_within links owners heads c.portmark (length heads) t.chains t.free p (omega arith))

  module _ (held : HeldSlabs slots links owners c) (chains : ℕ → List ℕ) (free : AllFree links owners heads c.portmark (length heads) chains)
      (scratch : List ℕ) (ports : ℕ) (claimed : (p : ℕ) → get_or scratch p 0 ≡ held_at slots c.nodemark p + free_at chains (length heads) p)
      (t : Tally scratch c.portmark ports) where
    -- Claimed slabs are a tiling where as many ports are claimed as there are,
    pub tiled_made : ports ≡ c.portmark → TiledHolds slots links owners heads c
    tiled_made e =
        record { held = held; chains = chains; free = free; once = λ p l. sym (claimed p) ∙ tally_full (rw e at t) p l }

    -- and only there.
    pub tiled_counted : TiledHolds slots links owners heads c → ports ≡ c.portmark
    tiled_counted h =
        tally_all t
        (λ p l. omega (arith, claimed p, h.once p l, free_unique links owners heads c.portmark (length heads) chains h.chains free h.free p))
