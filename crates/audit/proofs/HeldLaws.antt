-- Claiming the slabs of the live slots, slot by slot.
use Prim.Native.Nat.{ℕ, suc, ◌+◌, ◌≤◌, ◌<◌}
use mathlib.Core.Path.{◌≡◌, sym, ◌∙◌}
use mathlib.Core.List.{List}
use native.Mathlib.Numerals.{add-one}
use native.Mathlib.Omega.{arith}
use native.Mathlib.Decide.{ℕ_discrete}
use lib.ListN.{length, get_or}
use Rattle.slabs.specs.NodeEntry.{node_entry}
use Rattle.slabs.specs.Slab.{filled}
use Rattle.slabs.specs.Slabs.{in_slab}
use Rattle.slabs.specs.declared.node_entry.NodeMeta.{NodeMeta}
use Rattle.slabs.specs.declared.node_entry.NodeEntry.TheVariants.{Free, Node}
use Rattle.sound.specs.Sound.{held_at}
use Rattle.audit.specs.Parts.{RunIs, BlankFrom, Tally, HeldSlab}
use Rattle.audit.proofs.TallyLaws.{claimed_at, run_free, tally_none, tally_more, held_at_none, held_at_more, held_at_short}

-- The slabs of the live slots below k are claimed.
pub record HeldSoFar (slots links owners : List ℕ) (mark : ℕ) (scratch : List ℕ) (ports k : ℕ) : Type 0 where
  pub held : (j : ℕ) (m : NodeMeta) → j < k → node_entry slots j ≡ Node m → HeldSlab links owners mark j m
  pub claimed : (p : ℕ) → get_or scratch p 0 ≡ held_at slots k p
  pub tally : Tally scratch mark ports

-- None is, in a blank scratch.
pub held_none : (slots links owners : List ℕ) (mark : ℕ) (scratch : List ℕ) → BlankFrom scratch 0 → HeldSoFar slots links owners mark scratch 0 0
held_none slots links owners mark scratch blank =
    record {
      held = λ j m l e. absurd (omega arith);
      claimed = λ p. blank p (omega arith) ∙ sym (held_at_none slots p);
      tally = tally_none scratch mark blank;
    }

module _ (slots links owners : List ℕ) (mark : ℕ) (scratch : List ℕ) (ports k : ℕ) (s : HeldSoFar slots links owners mark scratch ports k) where
  -- A free slot has no slab.
  pub held_free : (previous next : ℕ) → node_entry slots k ≡ Free previous next → HeldSoFar slots links owners mark scratch ports (k + 1)
  held_free previous next e =
      record {
        held = λ j m l h. one j m l h (ℕ_discrete j k);
        claimed = λ p. rw add-one (omega (arith, s.claimed p, held_at_more slots k p (Free previous next) e));
        tally = s.tally;
      }
    where
      one : (j : ℕ) (m : NodeMeta) → j < k + 1 → node_entry slots j ≡ Node m → Dec (j ≡ k) → HeldSlab links owners mark j m
      one j m l h (yes d) = let z : ◌≡◌ {A = ℕ} 0 1 = cc in absurd (omega arith)
      one j m l h (no d) = s.held j m (omega arith) h

  module _ (m : NodeMeta) (e : node_entry slots k ≡ Node m) where
    live_more : (p : ℕ) → held_at slots (suc k) p ≡ held_at slots k p + in_slab m.first m.capacity p
    live_more p = held_at_more slots k p (Node m) e

    -- The slab of a live slot is claimed.
    pub held_live : {scratch' : List ℕ}
        → HeldSlab links owners mark k m × RunIs scratch m.first m.capacity 0 × (scratch' ≡ filled scratch m.first m.capacity 1)
        → mark ≤ length scratch → HeldSoFar slots links owners mark scratch' (ports + m.capacity) (k + 1)
    held_live {scratch'} (h, free, after) reach =
        record {
          held = λ j n l d. one j n l d (ℕ_discrete j k);
          claimed = λ p. rw after (rw add-one (claimed_at scratch m.first m.capacity free (omega arith) p ∙ omega (arith, live_more p, s.claimed p)));
          tally = rw after (tally_more scratch mark ports m.first m.capacity s.tally free h.ends reach);
        }
      where
        one : (j : ℕ) (n : NodeMeta) → j < k + 1 → node_entry slots j ≡ Node n → Dec (j ≡ k) → HeldSlab links owners mark j n
        one j n l d (yes g) = let en : m ≡ n = cc in rw g (rw (← en) h)
        one j n l d (no g) = s.held j n (omega arith) d

    -- A slab that cannot be claimed does not hold, or has a port of another.
    pub held_stuck : (nodemark : ℕ) → k < nodemark → (HeldSlab links owners mark k m → RunIs scratch m.first m.capacity 0 → ⊥)
        → ((j : ℕ) (n : NodeMeta) → j < nodemark → node_entry slots j ≡ Node n → HeldSlab links owners mark j n)
        → ((p : ℕ) → held_at slots nodemark p ≤ 1) → ⊥
    held_stuck nodemark l stuck all once =
        stuck (all k m l e)
        (run_free scratch m.first m.capacity (λ p. omega (arith, live_more p, s.claimed p, once p, held_at_short slots (suc k) nodemark p (omega arith))))
