-- Laws of the slab part: where a port lies, what an edit of words leaves of the free chains, and that taking a slab and freeing it give
-- and take back exactly one.
use Prim.Native.Nat.{ℕ, suc, zero, ◌+◌, ◌-◌, ◌≤◌, ◌<◌}
use mathlib.Core.Path.{◌≡◌, refl, ap, sym, ◌∙◌}
use mathlib.Core.List.{List, [], ◌∷◌}
use mathlib.Core.Bool.{true}
use native.Mathlib.Omega.{arith}
use Rattle.std.proofs.lemmas.Grind.{common_steps}
use native.Mathlib.Decide.{ℕ_discrete, dec_lt, dec_le}
use lib.ListN.{length, get_or, set, length-set, get_or-eq_default}
use lib.Seq.{get_or-set_same, get_or-set_other}
use lib.Dec.{eqb, leb}
use borrow.Author.Tests.{eq-eqb, ne_eqb, lt-ltb, le-ltb, le-leb, lt-leb, leb-true}
use Rattle.slabs.specs.Choice.{pick}
use Rattle.slabs.specs.Sums.{sum, sum_of}
use Rattle.slabs.specs.Links.{Inside, Wiring, cut_run}
use Rattle.slabs.specs.Slab.{head_of, at_hand, taken_first, taken_links, taken_heads, taken_mark, filled, freed_links, freed_owners, freed_heads}
use Rattle.slabs.specs.Slabs.{in_slab, is_port, Chain, free_at, starts_at, Slabs, with}
use Rattle.slabs.proofs.ChoiceLaws.{pick_same}
use Rattle.slabs.proofs.Shapes.{cut_run-length, filled-length}
use Rattle.slabs.proofs.FillLaws.{filled_in, filled_apart}
use Rattle.slabs.proofs.WireLaws.{cut_run_in, cut_run_still}
use Rattle.slabs.proofs.SumLaws.{sum_change, sum_term, sum_some, sum_le, sum_of_le}

-- A port from first on and before the end lies in the slab.
pub in_slab_yes : (first size p : ℕ) → first ≤ p → p < first + size → in_slab first size p ≡ 1
unfolding in_slab
in_slab_yes first size p l u = simp (le-leb first p l, lt-ltb p (first + size) u)

-- A port before first does not.
pub in_slab_below : (first size p : ℕ) → p < first → in_slab first size p ≡ 0
unfolding in_slab
in_slab_below first size p l = simp (lt-leb first p l)

-- A port from the end on does not.
pub in_slab_above : (first size p : ℕ) → first + size ≤ p → in_slab first size p ≡ 0
unfolding in_slab
in_slab_above first size p u = simp (le-ltb p (first + size) u) (pick_same (leb first p) 0)

-- A port lies in a slab once at most.
pub in_slab_le : (first size p : ℕ) → in_slab first size p ≤ 1
unfolding in_slab
in_slab_le first size p = grind (arith, common_steps)

-- A port that lies in a slab is from first on and before the end.
pub in_slab_lies : (first size p : ℕ) → 1 ≤ in_slab first size p → (first ≤ p) × (p < first + size)
in_slab_lies first size p h = grind (arith, common_steps, in_slab_below, in_slab_above)

-- What holds at each port of a slab, counted from first, holds at each port that lies in it.
pub in_slab_each : (P : ℕ → Type 0) (first size : ℕ) → ((i : ℕ) → i < size → P (first + i)) → (p : ℕ) → 1 ≤ in_slab first size p → P p
in_slab_each P first size each p h = rw e at (each (p - first) (omega (arith, in_slab_lies first size p h)))
  where
    e : first + (p - first) ≡ p
    e = omega (arith, in_slab_lies first size p h)

-- Each of its ports, counted from first, lies in it.
pub in_slab_at : (first size i : ℕ) → i < size → in_slab first size (first + i) ≡ 1
in_slab_at first size i l = in_slab_yes first size (first + i) (omega arith) (omega arith)

-- A port outside a slab is not its first one.
pub in_slab_apart : (first size p : ℕ) → 1 ≤ size → in_slab first size p ≡ 0 → p ≡ first → ⊥
in_slab_apart first size p some out e = omega (arith, in_slab_yes first size p (omega arith) (omega arith))

-- A port is itself.
pub is_port_yes : (first p : ℕ) → first ≡ p → is_port first p ≡ 1
unfolding is_port
is_port_yes first p e = simp (eq-eqb first p e)

-- And no other.
pub is_port_no : (first p : ℕ) → (first ≡ p → ⊥) → is_port first p ≡ 0
unfolding is_port
is_port_no first p d = simp (ne_eqb first p d)

-- What is counted as this port is this port.
pub is_port_is : (first p : ℕ) → 1 ≤ is_port first p → first ≡ p
is_port_is first p h = grind (arith, common_steps, is_port_no)

-- A slab's first port lies in it.
pub is_port_in : (first i p : ℕ) → is_port first p ≤ in_slab first (suc i) p
is_port_in first i p = grind (arith, common_steps, is_port_yes, in_slab_yes, is_port_no)

-- A port where a free slab starts lies in a free slab.
pub starts_free : (chains : ℕ → List ℕ) (sizes p : ℕ) → starts_at chains sizes p ≤ free_at chains sizes p
unfolding starts_at free_at
starts_free chains sizes p = sum_le _ _ sizes (λ i l. sum_of_le _ _ (chains i) (λ first. is_port_in first i p))

-- So does the first port of a slab of one chain.
pub chain_free : (chains : ℕ → List ℕ) (sizes i p : ℕ) → i < sizes → sum_of (λ f. is_port f p) (chains i) ≤ free_at chains sizes p
unfolding starts_at
chain_free chains sizes i p l = omega (arith, starts_free chains sizes p, sum_term (λ j. sum_of (λ f. is_port f p) (chains j)) sizes i l)

-- A chain stands where its numbers lead on as before.
pub chain_kept : (next next' : ℕ → ℕ) (word : ℕ) (ps : List ℕ) → ((q : ℕ) → 1 ≤ sum_of (λ f. is_port f q) ps → next q ≡ next' q)
    → Chain next word ps → Chain next' word ps
unfolding sum_of
chain_kept next next' word [] same c = c
chain_kept next next' word (p ∷ ps) same c =
    (c.0, rw (← same p (omega (arith, is_port_yes p p refl))) (chain_kept next next' (next p) ps (λ q h. same q (omega arith)) c.1))

-- A chain of numbers below b starts with a word of at most b,
chain_word : (next : ℕ → ℕ) (b word : ℕ) (ps : List ℕ) → ((q : ℕ) → 1 ≤ sum_of (λ f. is_port f q) ps → q < b) → Chain next word ps
    → word ≤ b
unfolding sum_of
chain_word next b word [] low c = omega arith
chain_word next b word (p ∷ ps) low c = omega (arith, low p (omega (arith, is_port_yes p p refl)))

-- and each of its numbers leads on by such a word.
chain_next : (next : ℕ → ℕ) (b word : ℕ) (ps : List ℕ) → ((q : ℕ) → 1 ≤ sum_of (λ f. is_port f q) ps → q < b) → Chain next word ps
    → (p : ℕ) → 1 ≤ sum_of (λ f. is_port f p) ps → next p ≤ b
unfolding sum_of
chain_next next b word [] low c p h = absurd (omega arith)
chain_next next b word (x ∷ ps) low c p h = go (dec_le 1 (is_port x p)) (chain_next next b (next x) ps later c.1 p)
  where
    later : (q : ℕ) → 1 ≤ sum_of (λ f. is_port f q) ps → q < b
    later q k = low q (omega arith)

    go : Dec (1 ≤ is_port x p) → (1 ≤ sum_of (λ f. is_port f p) ps → next p ≤ b) → next p ≤ b
    go (yes k) below = rw (← is_port_is x p k) (chain_word next b (next x) ps later c.1)
    go (no k) below = below (omega arith)

module _ {links owners heads : List ℕ} {mark : ℕ} {held : ℕ → ℕ} (s : Slabs links owners heads mark held) where
  -- A port lies in one slab at most, held or free.
  pub at_most_once : (p : ℕ) → held p + free_at s.chains (length heads) p ≤ 1
  at_most_once p = go (dec_lt p mark)
    where
      go : Dec (p < mark) → held p + free_at s.chains (length heads) p ≤ 1
      go (yes k) = omega (arith, s.once p k)
      go (no k) = omega (arith, s.within p (omega arith))

  -- No port lies in two held slabs.
  pub held_le : (p : ℕ) → held p ≤ 1
  held_le p = omega (arith, at_most_once p)

  -- A port where a free slab starts is held by nobody.
  pub start_unheld : (i p : ℕ) → i < length heads → 1 ≤ sum_of (λ f. is_port f p) (s.chains i) → held p ≡ 0
  start_unheld i p l h = omega (arith, at_most_once p, chain_free s.chains (length heads) i p l)

  -- A port in a slab is below the mark:
  slab_below : (p : ℕ) → 1 ≤ held p + free_at s.chains (length heads) p → p < mark
  slab_below p h = go (dec_lt p mark)
    where
      go : Dec (p < mark) → p < mark
      go (yes k) = k
      go (no k) = absurd (omega (arith, s.within p (omega arith)))

  -- one that is held,
  pub held_below : (p : ℕ) → 1 ≤ held p → p < mark
  held_below p h = slab_below p (omega arith)

  -- and one that is free.
  pub free_below : (p : ℕ) → 1 ≤ free_at s.chains (length heads) p → p < mark
  free_below p h = slab_below p (omega arith)

  -- So is the first port of a free slab.
  start_below : (i p : ℕ) → i < length heads → 1 ≤ sum_of (λ f. is_port f p) (s.chains i) → p < mark
  start_below i p l h = free_below p (omega (arith, chain_free s.chains (length heads) i p l))

  -- A head word is 0 or leads to a port below the mark.
  pub heads_inside : (i : ℕ) → i < length heads → get_or heads i 0 ≤ mark
  heads_inside i l = chain_word _ mark (get_or heads i 0) (s.chains i) (λ q. start_below i q l) (s.chained i l)

  -- No link word leads outside: that of a held port leads to its mate, which is live, and that of a free slab to a free slab.
  pub links_inside : Wiring owners links held → Inside links
  unfolding starts_at
  links_inside wiring p = by_holder (dec_le 1 (held p))
    where
      short : (q : ℕ) → (get_or owners q 0 ≡ 0 → ⊥) → q < length owners
      short q live = go (dec_lt q (length owners))
        where
          go : Dec (q < length owners) → q < length owners
          go (yes k) = k
          go (no k) = absurd (live (get_or-eq_default owners 0 (omega arith)))

      by_word : (w : ℕ) → get_or links p 0 ≡ w → 1 ≤ held p → w ≤ length links
      by_word zero e h = omega arith
      by_word (suc q) e h = omega (arith, short q (wiring p q h e).there, s.equal)

      by_start : held p ≡ 0 → Dec (1 ≤ starts_at s.chains (length heads) p) → get_or links p 0 ≤ length links
      by_start h (yes k) =
          let (i, l, m) = sum_some (λ j. sum_of (λ f. is_port f p) (s.chains j)) (length heads) k in
          omega (arith, s.room, chain_next _ mark (get_or heads i 0) (s.chains i) (λ q. start_below i q l) (s.chained i l) p m)
      by_start h (no k) = omega (arith, s.loose p h (omega arith))

      by_holder : Dec (1 ≤ held p) → get_or links p 0 ≤ length links
      by_holder (yes h) = by_word (get_or links p 0) refl h
      by_holder (no h) = by_start (omega arith) (dec_le 1 (starts_at s.chains (length heads) p))

  -- An edit of words of held ports keeps the slab part.
  pub slabs_kept : (links' owners' : List ℕ) → length links' ≡ length links → length owners' ≡ length owners
      → ((p : ℕ) → held p ≡ 0 → get_or links' p 0 ≡ get_or links p 0) → ((p : ℕ) → held p ≡ 0 → get_or owners' p 0 ≡ get_or owners p 0)
      → Slabs links' owners' heads mark held
  slabs_kept links' owners' ll lo kl ko = record {
    room = omega (arith, s.room);
    equal = omega (arith, s.equal);
    chains = s.chains;
    chained = λ i l. chain_kept _ _ (get_or heads i 0) (s.chains i) (λ q h. sym (kl q (start_unheld i q l h))) (s.chained i l);
    once = s.once;
    within = s.within;
    bare = λ p h. ko p h ∙ s.bare p h;
    loose = λ p h k. kl p h ∙ s.loose p h k;
  }

  -- The slab part speaks of who holds only by the count at each port.
  pub slabs_held : {held' : ℕ → ℕ} → ((p : ℕ) → held p ≡ held' p) → Slabs links owners heads mark held'
  slabs_held same = record {
    room = s.room;
    equal = s.equal;
    chains = s.chains;
    chained = s.chained;
    once = λ p l. rw (← same p) (s.once p l);
    within = λ p l. rw (← same p) (s.within p l);
    bare = λ p h. s.bare p (same p ∙ h);
    loose = λ p h. s.loose p (same p ∙ h);
  }

-- A slab that is held ends at the mark or below it.
pub end_of_slab : {links owners heads : List ℕ} {mark : ℕ} (held : ℕ → ℕ) (first size : ℕ)
    → Slabs links owners heads mark (with held first size) → 1 ≤ size → first + size ≤ mark
end_of_slab held first size s some =
    omega (arith, held_below s (first + (size - 1)) (omega (arith, in_slab_at first size (size - 1) (omega arith))))

-- Two families of free slabs where the second has one slab more, first in the chain i.
record OneMore (chains more : ℕ → List ℕ) (i first : ℕ) : Type 0 where
  here : more i ≡ first ∷ chains i
  others : (j : ℕ) → (j ≡ i → ⊥) → more j ≡ chains j

-- Whatever is counted over the free slabs then counts that slab more.
count_more : (chains more : ℕ → List ℕ) (i first : ℕ) (count : ℕ → ℕ → ℕ) (sizes : ℕ) → OneMore chains more i first → i < sizes
    → sum (λ j. sum_of (count j) (more j)) sizes ≡ sum (λ j. sum_of (count j) (chains j)) sizes + count i first
unfolding sum_of
count_more chains more i first count sizes o l =
    omega (arith, ap (sum_of (count i)) o.here, sum_change (over more) (over chains) sizes i l (λ j k d. ap (sum_of (count j)) (o.others j d)))
  where
    over : (ℕ → List ℕ) → ℕ → ℕ
    over them j = sum_of (count j) (them j)

-- Its ports are free once more,
free_at_more : (chains more : ℕ → List ℕ) (i first sizes p : ℕ) → OneMore chains more i first → i < sizes
    → free_at more sizes p ≡ free_at chains sizes p + in_slab first (suc i) p
unfolding free_at
free_at_more chains more i first sizes p o l = count_more chains more i first (λ j x. in_slab x (suc j) p) sizes o l

-- and a slab more starts at its first port.
starts_at_more : (chains more : ℕ → List ℕ) (i first sizes p : ℕ) → OneMore chains more i first → i < sizes
    → starts_at more sizes p ≡ starts_at chains sizes p + is_port first p
unfolding starts_at
starts_at_more chains more i first sizes p o l = count_more chains more i first (λ j x. is_port x p) sizes o l

-- the chains with another one in place i
swapped : (ℕ → List ℕ) → ℕ → List ℕ → ℕ → List ℕ
swapped chains i ps j = pick (eqb j i) ps (chains j)

swapped_here : (chains : ℕ → List ℕ) (i : ℕ) (ps : List ℕ) → swapped chains i ps i ≡ ps
unfolding swapped
swapped_here chains i ps = simp (eq-eqb i i refl)

swapped_other : (chains : ℕ → List ℕ) (i : ℕ) (ps : List ℕ) (j : ℕ) → (j ≡ i → ⊥) → swapped chains i ps j ≡ chains j
unfolding swapped
swapped_other chains i ps j d = simp (ne_eqb j i d)

-- Where a chain's word leads to a port, the chain is that port and a chain from its word on.
chain_first : (next : ℕ → ℕ) (first : ℕ) (ps : List ℕ) → Chain next (suc first) ps
    → (rest : List ℕ) × (ps ≡ first ∷ rest) × Chain next (next first) rest
chain_first next first [] c = absurd (omega arith)
chain_first next first (p ∷ ps) c =
    let e : p ≡ first = omega arith in (ps, ap (λ q. q ∷ ps) e, rw e at c.1)

-- How a slab is taken: from the mark where its chain is empty, else from its chain. What holds in both cases holds.
pub take_cases : (P : List ℕ → List ℕ → ℕ → ℕ → Type 0) (links heads : List ℕ) (mark size : ℕ)
    → (head_of heads size ≡ 0 → P links heads (mark + size) mark)
    → ((first : ℕ) → head_of heads size ≡ suc first → P (set links first 0) (set heads (size - 1) (get_or links first 0)) mark first)
    → P (taken_links links heads size) (taken_heads links heads size) (taken_mark heads mark size) (taken_first heads mark size)
unfolding taken_links taken_heads taken_mark taken_first
take_cases P links heads mark size at_mark at_chain = go (head_of heads size) refl
  where
    go : (w : ℕ) → head_of heads size ≡ w
        → P (pick (eqb w 0) links (set links (w - 1) 0)) (pick (eqb w 0) heads (set heads (size - 1) (get_or links (w - 1) 0)))
        (pick (eqb w 0) (mark + size) mark) (pick (eqb w 0) mark (w - 1))
    go zero e = at_mark e
    go (suc first) e = let d : suc first - 1 ≡ first = omega arith in rw (d, ne_eqb (suc first) 0 (omega arith)) (at_chain first e)

-- What is known of a slab that is taken: nobody held it or owned it, its link words are 0 afterwards, it lies below the new mark, and
-- the link words outside it stay.
pub record Fresh (links owners links' : List ℕ) (mark' : ℕ) (held : ℕ → ℕ) (first size : ℕ) : Type 0 where
  pub unheld : (i : ℕ) → i < size → held (first + i) ≡ 0
  pub unowned : (i : ℕ) → i < size → get_or owners (first + i) 0 ≡ 0
  pub unlinked : (i : ℕ) → i < size → get_or links' (first + i) 0 ≡ 0
  pub ends : first + size ≤ mark'
  pub inside : mark' ≤ length links
  pub others : (p : ℕ) → in_slab first size p ≡ 0 → get_or links' p 0 ≡ get_or links p 0

module _ {links owners heads : List ℕ} {mark : ℕ} {held : ℕ → ℕ} (s : Slabs links owners heads mark held) (size : ℕ) where
  -- What starts at the mark is a slab, where the room above the mark is enough.
  take_mark : mark + size ≤ length links → Slabs links owners heads (mark + size) (with held mark size)
  take_mark fits =
      record {
        room = fits;
        equal = s.equal;
        chains = s.chains;
        chained = s.chained;
        once = λ p l. go p l (dec_lt p mark);
        within = λ p l. omega (arith, s.within p (omega arith), in_slab_above mark size p l);
        bare = λ p h. s.bare p (omega arith);
        loose = λ p h. s.loose p (omega arith);
      }
    where
      go : (p : ℕ) → p < mark + size → Dec (p < mark) → held p + in_slab mark size p + free_at s.chains (length heads) p ≡ 1
      go p l (yes k) = omega (arith, s.once p k, in_slab_below mark size p k)
      go p l (no k) = omega (arith, s.within p (omega arith), in_slab_yes mark size p (omega arith) l)

  fresh_mark : mark + size ≤ length links → Fresh links owners links (mark + size) held mark size
  fresh_mark fits =
      record {
        unheld = λ i l. none (mark + i) (omega arith);
        unowned = λ i l. s.bare (mark + i) (none (mark + i) (omega arith));
        unlinked = λ i l. s.loose (mark + i) (none (mark + i) (omega arith)) (unstarted (mark + i) (omega arith));
        ends = omega arith;
        inside = fits;
        others = λ p h. refl;
      }
    where
      none : (p : ℕ) → mark ≤ p → held p ≡ 0
      none p l = omega (arith, s.within p l)

      unstarted : (p : ℕ) → mark ≤ p → starts_at s.chains (length heads) p ≡ 0
      unstarted p l = omega (arith, s.within p l, starts_free s.chains (length heads) p)

  module _ (some : 1 ≤ size) (sized : size ≤ length heads) (first : ℕ) (leads : head_of heads size ≡ suc first) where
    -- the chain of this size: first, and the rest
    split : (rest : List ℕ) × (s.chains (size - 1) ≡ first ∷ rest) × Chain (λ p. get_or links p 0) (get_or links first 0) rest
    split = chain_first (λ p. get_or links p 0) first (s.chains (size - 1)) (rw leads at (s.chained (size - 1) (omega arith)))

    -- the free slabs that are left
    left : ℕ → List ℕ
    left = swapped s.chains (size - 1) split.0

    left_one : OneMore left s.chains (size - 1) first
    unfolding left
    left_one =
        record {
          here = rw swapped_here split.1;
          others = λ j d. sym (swapped_other s.chains (size - 1) split.0 j d);
        }

    left_free : (p : ℕ) → free_at s.chains (length heads) p ≡ free_at left (length heads) p + in_slab first size p
    left_free p =
        let e : suc (size - 1) ≡ size = omega arith in
        rw e at (free_at_more left s.chains (size - 1) first (length heads) p left_one (omega arith))

    left_starts : (p : ℕ) → starts_at s.chains (length heads) p ≡ starts_at left (length heads) p + is_port first p
    left_starts p = starts_at_more left s.chains (size - 1) first (length heads) p left_one (omega arith)

    -- no slab that is left has a port of the taken one
    left_gone : (p : ℕ) → 1 ≤ in_slab first size p → free_at left (length heads) p ≡ 0
    left_gone p h = omega (arith, at_most_once s p, left_free p)

    -- Taking a slab from its chain gives it to the holder.
    take_chain : Slabs (set links first 0) owners (set heads (size - 1) (get_or links first 0)) mark (with held first size)
    unfolding left
    take_chain =
        record {
          room = rw length-set s.room;
          equal = rw length-set s.equal;
          chains = left;
          chained = λ i l. after i (rw length-set at l);
          once = λ p l. rw length-set (omega (arith, left_free p, s.once p l));
          within = λ p l. rw length-set (omega (arith, left_free p, s.within p l));
          bare = λ p h. s.bare p (omega arith);
          loose = λ p h k. cleared p h (rw length-set at k);
        }
      where
        before : (i : ℕ) → i < length heads → Dec (i ≡ size - 1)
            → Chain (λ p. get_or links p 0) (get_or (set heads (size - 1) (get_or links first 0)) i 0) (left i)
        before i l (yes e) = rw (e, get_or-set_same heads (size - 1) (get_or links first 0) 0 (omega arith), swapped_here) split.2
        before i l (no d) =
            rw (get_or-set_other heads (size - 1) i (get_or links first 0) 0 d, swapped_other s.chains (size - 1) split.0 i d)
            (s.chained i l)

        stays : (i q : ℕ) → i < length heads → 1 ≤ sum_of (λ f. is_port f q) (left i) → get_or links q 0 ≡ get_or (set links first 0) q 0
        stays i q l h =
            sym
            (get_or-set_other links first q 0 0
            (in_slab_apart first size q some (omega (arith, at_most_once s q, left_free q, chain_free left (length heads) i q l))))

        after : (i : ℕ) → i < length heads
            → Chain (λ p. get_or (set links first 0) p 0) (get_or (set heads (size - 1) (get_or links first 0)) i 0) (left i)
        after i l = chain_kept _ _ _ (left i) (λ q. stays i q l) (before i l (ℕ_discrete i (size - 1)))

        cleared : (p : ℕ) → with held first size p ≡ 0 → starts_at left (length heads) p ≡ 0 → get_or (set links first 0) p 0 ≡ 0
        cleared p h k =
            let d : p ≡ first → ⊥ = in_slab_apart first size p some (omega arith) in
            get_or-set_other links first p 0 0 d ∙ s.loose p (omega arith) (omega (arith, left_starts p, is_port_no first p (omega arith)))

    fresh_chain : Fresh links owners (set links first 0) mark held first size
    fresh_chain =
        record {
          unheld = λ i l. none (first + i) (in_slab_at first size i l);
          unowned = λ i l. s.bare (first + i) (none (first + i) (in_slab_at first size i l));
          unlinked = λ i l. cleared (first + i) (in_slab_at first size i l) (ℕ_discrete (first + i) first);
          ends = fits;
          inside = s.room;
          others = λ p h. get_or-set_other links first p 0 0 (in_slab_apart first size p some h);
        }
      where
        fits : first + size ≤ mark
        fits = end_of_slab held first size take_chain some

        none : (p : ℕ) → in_slab first size p ≡ 1 → held p ≡ 0
        none p h = omega (arith, at_most_once s p, left_free p)

        cleared : (p : ℕ) → in_slab first size p ≡ 1 → Dec (p ≡ first) → get_or (set links first 0) p 0 ≡ 0
        cleared p h (yes e) = rw e (get_or-set_same links first 0 0 (omega (arith, fits, s.room)))
        cleared p h (no d) =
            get_or-set_other links first p 0 0 d ∙
            s.loose p (none p h)
            (omega (arith, left_starts p, is_port_no first p (omega arith), starts_free left (length heads) p, left_gone p (omega arith)))

-- A slab can be had from the mark only where the room above it is enough.
pub at_hand_room : (heads : List ℕ) (mark room size : ℕ) → head_of heads size ≡ 0 → at_hand heads mark room size ≡ true
    → mark + size ≤ room
unfolding at_hand
at_hand_room heads mark room size e h = leb-true (mark + size) room (rw e at h)

module _ {links owners heads : List ℕ} {mark : ℕ} {held : ℕ → ℕ} (s : Slabs links owners heads mark held) (size : ℕ)
    (some : 1 ≤ size) (sized : size ≤ length heads) (had : at_hand heads mark (length links) size ≡ true) where
  -- Taking a slab gives exactly one slab more to the holder.
  pub take_gives : Slabs (taken_links links heads size) owners (taken_heads links heads size) (taken_mark heads mark size)
      (with held (taken_first heads mark size) size)
  take_gives =
      take_cases (λ l h m f. Slabs l owners h m (with held f size)) links heads mark size
      (λ e. take_mark s size (at_hand_room heads mark (length links) size e had)) (take_chain s size some sized)

  -- And it is a fresh one.
  pub take_fresh : Fresh links owners (taken_links links heads size) (taken_mark heads mark size) held (taken_first heads mark size) size
  take_fresh =
      take_cases (λ l h m f. Fresh links owners l m held f size) links heads mark size
      (λ e. fresh_mark s size (at_hand_room heads mark (length links) size e had)) (fresh_chain s size some sized)

module _ {links owners heads : List ℕ} {mark : ℕ} (held : ℕ → ℕ) (first size : ℕ)
    (s : Slabs links owners heads mark (with held first size)) (some : 1 ≤ size) (sized : size ≤ length heads) where
  -- the free slabs, and this one
  more : ℕ → List ℕ
  more = swapped s.chains (size - 1) (first ∷ s.chains (size - 1))

  more_one : OneMore s.chains more (size - 1) first
  unfolding more
  more_one = record { here = swapped_here s.chains (size - 1) _; others = swapped_other s.chains (size - 1) _ }

  more_free : (p : ℕ) → free_at more (length heads) p ≡ free_at s.chains (length heads) p + in_slab first size p
  more_free p =
      let e : suc (size - 1) ≡ size = omega arith in
      rw e at (free_at_more s.chains more (size - 1) first (length heads) p more_one (omega arith))

  more_starts : (p : ℕ) → starts_at more (length heads) p ≡ starts_at s.chains (length heads) p + is_port first p
  more_starts p = starts_at_more s.chains more (size - 1) first (length heads) p more_one (omega arith)

  -- A slab whose words are cleared, and which leads to its chain's first slab, is free: whatever cleared them, if it left the words of
  -- ports that nobody holds.
  pub free_returns_core : (links' owners' : List ℕ) → length links' ≡ length links → length owners' ≡ length owners
      → ((i : ℕ) → i < size → get_or links' (first + i) 0 ≡ 0)
      → ((p : ℕ) → with held first size p ≡ 0 → get_or links' p 0 ≡ get_or links p 0)
      → ((i : ℕ) → i < size → get_or owners' (first + i) 0 ≡ 0)
      → ((p : ℕ) → in_slab first size p ≡ 0 → get_or owners' p 0 ≡ get_or owners p 0)
      → Slabs (set links' first (head_of heads size)) owners' (set heads (size - 1) (first + 1)) mark held
  unfolding more
  free_returns_core links' owners' ll lo cut kept bared others =
      record {
        room = rw (length-set, ll) s.room;
        equal = rw (length-set, ll, lo) s.equal;
        chains = more;
        chained = λ i l. chain i (rw length-set at l) (ℕ_discrete i (size - 1));
        once = λ p l. rw length-set (omega (arith, more_free p, s.once p l));
        within = λ p l. rw length-set (omega (arith, more_free p, s.within p l));
        bare = λ p h. nobody p h (dec_le 1 (in_slab first size p));
        loose = λ p h k. cleared p h (rw length-set at k);
      }
    where
      fits : first + size ≤ length links
      fits = omega (arith, end_of_slab held first size s some, s.room)

      stays : (q : ℕ) → with held first size q ≡ 0 → get_or links q 0 ≡ get_or (set links' first (head_of heads size)) q 0
      stays q h =
          sym (get_or-set_other links' first q (head_of heads size) 0 (in_slab_apart first size q some (omega arith)) ∙ kept q h)

      old : (i : ℕ) → i < length heads → Chain (λ q. get_or (set links' first (head_of heads size)) q 0) (get_or heads i 0) (s.chains i)
      old i l = chain_kept _ _ (get_or heads i 0) (s.chains i) (λ q h. stays q (start_unheld s i q l h)) (s.chained i l)

      chain : (i : ℕ) → i < length heads → Dec (i ≡ size - 1)
          → Chain (λ q. get_or (set links' first (head_of heads size)) q 0) (get_or (set heads (size - 1) (first + 1)) i 0) (more i)
      chain i l (yes e) =
          rw (e, get_or-set_same heads (size - 1) (first + 1) 0 (omega arith), swapped_here)
          (omega arith, rw (get_or-set_same links' first (head_of heads size) 0 (omega (arith, fits))) (old (size - 1) (omega arith)))
      chain i l (no d) =
          rw (get_or-set_other heads (size - 1) i (first + 1) 0 d, more_one.others i d) (old i l)

      nobody : (p : ℕ) → held p ≡ 0 → Dec (1 ≤ in_slab first size p) → get_or owners' p 0 ≡ 0
      nobody p h (yes k) = in_slab_each (λ q. get_or owners' q 0 ≡ 0) first size bared p k
      nobody p h (no k) = others p (omega arith) ∙ s.bare p (omega arith)

      loosed : (p : ℕ) → held p ≡ 0 → starts_at s.chains (length heads) p ≡ 0 → Dec (1 ≤ in_slab first size p)
          → get_or links' p 0 ≡ 0
      loosed p h e (yes k) = in_slab_each (λ q. get_or links' q 0 ≡ 0) first size cut p k
      loosed p h e (no k) = kept p (omega arith) ∙ s.loose p (omega arith) e

      cleared : (p : ℕ) → held p ≡ 0 → starts_at more (length heads) p ≡ 0 → get_or (set links' first (head_of heads size)) p 0 ≡ 0
      cleared p h k =
          get_or-set_other links' first p (head_of heads size) 0 (λ e. omega (arith, more_starts p, is_port_yes first p (omega arith))) ∙
          loosed p h (omega (arith, more_starts p)) (dec_le 1 (in_slab first size p))

  -- Freeing a slab gives it back.
  pub free_returns : Wiring owners links (with held first size)
      → Slabs (freed_links links heads first size) (freed_owners owners first size) (freed_heads heads first size) mark held
  unfolding freed_links freed_owners freed_heads
  free_returns wiring =
      free_returns_core (cut_run links first size) (filled owners first size 0) (cut_run-length links first size)
      (filled-length owners first size 0) (cut_run_in links first size)
      (cut_run_still owners links (with held first size) wiring s.bare first size (λ i l. omega (arith, in_slab_at first size i l)))
      (λ i l. filled_in owners first size 0 i l (omega (arith, end_of_slab held first size s some, s.room, s.equal)))
      (λ p out. filled_apart owners first size 0 p (λ i l e. omega (arith, in_slab_yes first size p (omega arith) (omega arith))))
