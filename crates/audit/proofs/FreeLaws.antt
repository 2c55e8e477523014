-- Claiming the free slabs: along one chain, and chain by chain.
use Prim.Native.Nat.{ℕ, suc, ◌+◌, ◌≤◌, ◌<◌}
use mathlib.Core.Path.{◌≡◌, refl, ap, ◌∙◌}
use mathlib.Core.List.{List, [], ◌∷◌, ◌++◌, append_assoc, append-nil}
use Rattle.std.specs.Prelude.{Some}
use native.Mathlib.Numerals.{add-one}
use native.Mathlib.Omega.{arith}
use native.Mathlib.Decide.{ℕ_discrete}
use lib.ListN.{length, get_or}
use lib.Seq.{append_snoc}
use lib.Dec.{eqb}
use borrow.Author.Tests.{eq-eqb, ne_eqb}
use Rattle.slabs.specs.Sums.{sum, sum_of}
use Rattle.slabs.specs.Slab.{filled}
use Rattle.slabs.specs.Choice.{pick}
use Rattle.slabs.specs.Slabs.{in_slab, free_at}
use Rattle.slabs.proofs.SumLaws.{sum_ext, sum_of_append}
use Rattle.audit.specs.Parts.{RunIs, Tally, FreeSlab, FreeSlabs, AllFree, ChainClaimed}
use Rattle.audit.proofs.ChainSound.{chain_unique}
use Rattle.audit.proofs.TallyLaws.{sum_short, claimed_at, run_free, tally_more}

-- The free slabs of a size are led to by one slab and then the rest;
pub free_cons : {links owners : List ℕ} {mark size first : ℕ} {rest : List ℕ} (word : ℕ) → word ≡ suc first → FreeSlab links owners mark first size
    → FreeSlabs links owners mark (get_or links first 0) size rest → FreeSlabs links owners mark word size (first ∷ rest)
free_cons word e one more = record { chained = (e, more.chained); each = (one, more.each) }

-- a walk along a chain has claimed the slabs of `past`, and stands at this word
pub record Walked (links owners scratch₀ : List ℕ) (mark head size : ℕ) (scratch : List ℕ) (ports word : ℕ) : Type 0 where
  pub past : List ℕ
  pub onward : (rest : List ℕ) → FreeSlabs links owners mark word size rest → FreeSlabs links owners mark head size (past ++ rest)
  pub only : (firsts : List ℕ) → FreeSlabs links owners mark head size firsts
      → (rest : List ℕ) × (firsts ≡ past ++ rest) × FreeSlabs links owners mark word size rest
  pub claimed : (p : ℕ) → get_or scratch p 0 ≡ get_or scratch₀ p 0 + sum_of (λ first. in_slab first size p) past
  pub tally : Tally scratch mark ports

-- At the head no slab is.
pub walked_none : (links owners scratch : List ℕ) (mark head size ports : ℕ) → Tally scratch mark ports
    → Walked links owners scratch mark head size scratch ports head
unfolding sum_of
walked_none links owners scratch mark head size ports t =
    record { past = []; onward = λ rest f. f; only = λ firsts f. (firsts, refl, f); claimed = λ p. omega arith; tally = t }

module _ (links owners scratch₀ : List ℕ) (mark head size : ℕ) (scratch : List ℕ) (ports word : ℕ)
    (w : Walked links owners scratch₀ mark head size scratch ports word) where
  module _ (first : ℕ) (e : word ≡ suc first) where
    -- every chain from here starts with this slab
    split : (rest : List ℕ) → FreeSlabs links owners mark word size rest
        → (more : List ℕ) × (rest ≡ first ∷ more) × FreeSlab links owners mark first size × FreeSlabs links owners mark (get_or links first 0) size more
    split [] f = absurd (omega (arith, f.chained))
    split (p ∷ more) f =
        let d : p ≡ first = omega (arith, f.chained.0) in
        (more, rw d, rw (← d) f.each.0, record { chained = rw (← d) f.chained.1; each = f.each.1 })

    sum_past : (p : ℕ) → sum_of (λ f. in_slab f size p) (w.past ++ (first ∷ [])) ≡ sum_of (λ f. in_slab f size p) w.past + in_slab first size p
    unfolding sum_of
    sum_past p = omega (arith, sum_of_append (λ f. in_slab f size p) w.past (first ∷ []))

    -- A slab is claimed, and the walk goes on.
    pub walked_more : {scratch' : List ℕ}
        → FreeSlab links owners mark first size × RunIs scratch first size 0 × (scratch' ≡ filled scratch first size 1)
        → mark ≤ length scratch → Walked links owners scratch₀ mark head size scratch' (ports + size) (get_or links first 0)
    walked_more {scratch'} (one, free, after) reach =
        record {
          past = w.past ++ (first ∷ []);
          onward = λ rest f. rw append_assoc (w.onward (first ∷ rest) (free_cons word e one f));
          only = λ firsts f.
              let t = w.only firsts f in
              let u = split t.0 t.2 in
              (u.0, rw append_snoc (t.1 ∙ ap (λ l. w.past ++ l) u.1), u.3);
          claimed = λ p. rw after (omega (arith, claimed_at scratch first size free (omega (arith, one.ends)) p, w.claimed p, sum_past p));
          tally = rw after (tally_more scratch mark ports first size w.tally free one.ends reach);
        }

    -- A slab that cannot be claimed does not hold, or has a port of another.
    pub walked_stuck : (FreeSlab links owners mark first size → RunIs scratch first size 0 → ⊥)
        → (firsts : List ℕ) → FreeSlabs links owners mark head size firsts
        → ((p : ℕ) → get_or scratch₀ p 0 + sum_of (λ f. in_slab f size p) firsts ≤ 1) → ⊥
    unfolding sum_of
    walked_stuck stuck firsts f once =
        let t = w.only firsts f in
        let u = split t.0 t.2 in
        stuck u.2
        (run_free scratch first size
        (λ p.
        omega
        (arith, w.claimed p, once p, sum_of_append (λ x. in_slab x size p) w.past (first ∷ u.0), ap (sum_of (λ x. in_slab x size p)) (t.1 ∙ ap (λ l. w.past ++ l) u.1))))

  -- Where the walk ends, the whole chain is claimed.
  pub walked_all : word ≡ 0 → ChainClaimed links owners scratch₀ mark head size scratch (Some ports)
  walked_all e = (w.past, rw append-nil at (w.onward [] (record { chained = e; each = tt })), w.claimed, w.tally)

-- In how many free slabs a port lies depends on the chains of the sizes that are counted,
pub free_at_ext : (chains chains' : ℕ → List ℕ) (n p : ℕ) → ((i : ℕ) → i < n → chains i ≡ chains' i) → free_at chains n p ≡ free_at chains' n p
unfolding free_at
free_at_ext chains chains' n p h =
    sum_ext (λ i. sum_of (λ f. in_slab f (suc i) p) (chains i)) (λ i. sum_of (λ f. in_slab f (suc i) p) (chains' i)) n
    (λ i l. ap (sum_of (λ f. in_slab f (suc i) p)) (h i l))

-- a size more adds its chain,
pub free_at_more : (chains : ℕ → List ℕ) (n p : ℕ) → free_at chains (suc n) p ≡ free_at chains n p + sum_of (λ f. in_slab f (suc n) p) (chains n)
unfolding free_at sum
free_at_more chains n p = refl

-- and fewer sizes count no more.
pub free_at_short : (chains : ℕ → List ℕ) (k n p : ℕ) → k ≤ n → free_at chains k p ≤ free_at chains n p
unfolding free_at
free_at_short chains k n p h = sum_short (λ i. sum_of (λ f. in_slab f (suc i) p) (chains i)) k n h

-- The heads lead to the same chains.
pub free_unique : (links owners heads : List ℕ) (mark n : ℕ) (chains chains' : ℕ → List ℕ) → AllFree links owners heads mark n chains
    → AllFree links owners heads mark n chains' → (p : ℕ) → free_at chains n p ≡ free_at chains' n p
free_unique links owners heads mark n chains chains' h k p =
    free_at_ext chains chains' n p (λ i l. chain_unique (λ q. get_or links q 0) (get_or heads i 0) (chains i) (chains' i) (h i l).chained (k i l).chained)

-- the chains of the first i sizes are claimed
pub record FreeSoFar (links owners heads scratch₀ : List ℕ) (mark : ℕ) (scratch : List ℕ) (ports i : ℕ) : Type 0 where
  pub chains : ℕ → List ℕ
  pub free : AllFree links owners heads mark i chains
  pub claimed : (p : ℕ) → get_or scratch p 0 ≡ get_or scratch₀ p 0 + free_at chains i p
  pub tally : Tally scratch mark ports

-- None is at first.
pub free_none : (links owners heads scratch : List ℕ) (mark ports : ℕ) → Tally scratch mark ports
    → FreeSoFar links owners heads scratch mark scratch ports 0
unfolding free_at sum
free_none links owners heads scratch mark ports t =
    record { chains = λ i. []; free = λ i l. absurd (omega arith); claimed = λ p. omega arith; tally = t }

module _ (links owners heads scratch₀ : List ℕ) (mark : ℕ) (scratch : List ℕ) (ports i : ℕ)
    (s : FreeSoFar links owners heads scratch₀ mark scratch ports i) where
  -- A chain is claimed,
  pub free_more : (scratch' : List ℕ) (ports' : ℕ) → ChainClaimed links owners scratch mark (get_or heads i 0) (i + 1) scratch' (Some ports')
      → FreeSoFar links owners heads scratch₀ mark scratch' ports' (i + 1)
  free_more scratch' ports' (firsts, slabs, claimed, tally) =
      record {
        chains = chains;
        free = λ j l. all j l (ℕ_discrete j i);
        claimed = λ p. rw add-one (omega (arith, s.claimed p, claimed p, free_at_more chains i p, free_at_ext s.chains chains i p below, at p));
        tally = tally;
      }
    where
      chains : ℕ → List ℕ
      chains j = pick (eqb j i) firsts (s.chains j)

      here : chains i ≡ firsts
      here = simp (eq-eqb i i refl)

      below : (j : ℕ) → j < i → s.chains j ≡ chains j
      below j l = simp (ne_eqb j i (omega arith))

      all : (j : ℕ) → j < i + 1 → Dec (j ≡ i) → FreeSlabs links owners mark (get_or heads j 0) (suc j) (chains j)
      all j l (yes d) = rw d (rw here (rw add-one at slabs))
      all j l (no d) = rw (← below j (omega arith)) (s.free j (omega arith))

      at : (p : ℕ) → sum_of (λ f. in_slab f (suc i) p) (chains i) ≡ sum_of (λ f. in_slab f (i + 1) p) firsts
      at p = rw here (rw add-one)

  -- where there is none nothing is to be claimed,
  pub free_skip : get_or heads i 0 ≡ 0 → FreeSoFar links owners heads scratch₀ mark scratch ports (i + 1)
  free_skip e = free_more scratch ports (walked_all _ _ _ _ _ _ _ _ _ (walked_none _ _ _ _ _ _ _ s.tally) e)

  -- or cannot be.
  pub free_stuck : (n : ℕ) → i < n
      → ((firsts : List ℕ) → FreeSlabs links owners mark (get_or heads i 0) (i + 1) firsts
      → ((p : ℕ) → get_or scratch p 0 + sum_of (λ f. in_slab f (i + 1) p) firsts ≤ 1) → ⊥)
      → (chains : ℕ → List ℕ) → AllFree links owners heads mark n chains
      → ((p : ℕ) → get_or scratch₀ p 0 + free_at chains n p ≤ 1) → ⊥
  free_stuck n l stuck chains all once =
      stuck (chains i) (rw add-one (all i l))
      (λ p.
      rw add-one
      (omega
      (arith, s.claimed p, once p, free_unique links owners heads mark i s.chains chains s.free (λ j k. all j (omega arith)) p, free_at_more chains i p, free_at_short chains (suc i) n p (omega arith))))
