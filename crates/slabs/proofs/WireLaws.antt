-- What cutting the wire at one port, and at a run of ports, does to the link words: which become 0, which stay, that rule 6 stays
-- true, and how many wires are left.
use Prim.Native.Nat.{ℕ, suc, zero, ◌+◌, ◌-◌, ◌≤◌, ◌<◌}
use mathlib.Core.List.{List, [], ◌∷◌}
use mathlib.Core.Logic.{◌⊎◌, inl, inr}
use mathlib.Core.Path.{◌≡◌, refl, sym, ap, ◌∙◌}
use native.Mathlib.Omega.{arith}
use native.Mathlib.Decide.{ℕ_discrete, dec_lt}
use lib.ListN.{get_or, set}
use lib.Seq.{get_or-set_other}
use lib.Dec.{eqb}
use borrow.Author.Tests.{eq-eqb, ne_eqb}
use Rattle.slabs.specs.PortEntry.{Live, direction_of}
use Rattle.slabs.specs.Links.{Wiring, wired_outlet, pairs, cut_at, wired_at, cut_run, wires_in}
use Rattle.slabs.proofs.ChoiceLaws.{pick_same}
use Rattle.slabs.proofs.Shapes.{read_set}
use Rattle.slabs.proofs.SumLaws.{sum_change}
use Rattle.slabs.proofs.EntryLaws.{direction_le}

-- Of a word that is cleared or stays: a wire that it names was there,
kept : {v w : ℕ} (q : ℕ) → (v ≡ 0) ⊎ (v ≡ w) → v ≡ suc q → w ≡ suc q
kept q (inl a) e = absurd (omega arith)
kept q (inr a) e = sym a ∙ e

-- and a cleared one stays so.
cleared : {v w : ℕ} → (v ≡ 0) ⊎ (v ≡ w) → w ≡ 0 → v ≡ 0
cleared (inl a) e = a
cleared (inr a) e = a ∙ e

-- A 0 that is stored is read back, also past the table's end.
pub set_zero : (links : List ℕ) (p : ℕ) → get_or (set links p 0) p 0 ≡ 0
set_zero [] p = refl
set_zero (x ∷ links) zero = refl
set_zero (x ∷ links) (suc p) = set_zero links p

-- A port without a wire: nothing changes.
pub cut_at_loose : (links : List ℕ) (p : ℕ) → get_or links p 0 ≡ 0 → cut_at links p ≡ links
unfolding cut_at
cut_at_loose links p e = simp (eq-eqb _ _ e)

-- A wire: the words of both its ends are cleared.
pub cut_at_wired : (links : List ℕ) (p q : ℕ) → get_or links p 0 ≡ suc q → cut_at links p ≡ set (set links p 0) q 0
unfolding cut_at
cut_at_wired links p q e = let k : get_or links p 0 - 1 ≡ q = omega arith in rw (ne_eqb (get_or links p 0) 0 (omega arith), k)

-- Cut at a port, its word is 0,
pub cut_at_here : (links : List ℕ) (p : ℕ) → get_or (cut_at links p) p 0 ≡ 0
cut_at_here links p = go (get_or links p 0) refl
  where
    go : (w : ℕ) → get_or links p 0 ≡ w → get_or (cut_at links p) p 0 ≡ 0
    go zero e = rw (cut_at_loose links p e) e
    go (suc q) e = rw (cut_at_wired links p q e) (omega (arith, read_set (set links p 0) q 0 p 0 (omega arith) (omega (arith, set_zero links p))))

-- and so is its mate's,
pub cut_at_mate : (links : List ℕ) (p q : ℕ) → get_or links p 0 ≡ suc q → get_or (cut_at links p) q 0 ≡ 0
cut_at_mate links p q e = rw (cut_at_wired links p q e) (set_zero (set links p 0) q)

-- and no other word changes.
pub cut_at_other : (links : List ℕ) (p r : ℕ) → (r ≡ p → ⊥) → (get_or links p 0 ≡ suc r → ⊥) → get_or (cut_at links p) r 0 ≡ get_or links r 0
cut_at_other links p r n m = go (get_or links p 0) refl
  where
    go : (w : ℕ) → get_or links p 0 ≡ w → get_or (cut_at links p) r 0 ≡ get_or links r 0
    go zero e = rw (cut_at_loose links p e)
    go (suc q) e =
        rw
        (cut_at_wired links p q e)
        (get_or-set_other (set links p 0) q r 0 0 (λ k. m (rw k e)) ∙ get_or-set_other links p r 0 0 n)

-- So each word is cleared or stays,
pub cut_at_fewer : (links : List ℕ) (p r : ℕ) → (get_or (cut_at links p) r 0 ≡ 0) ⊎ (get_or (cut_at links p) r 0 ≡ get_or links r 0)
cut_at_fewer links p r = go (ℕ_discrete r p) (ℕ_discrete (get_or links p 0) (suc r))
  where
    go : Dec (r ≡ p) → Dec (get_or links p 0 ≡ suc r) → (get_or (cut_at links p) r 0 ≡ 0) ⊎ (get_or (cut_at links p) r 0 ≡ get_or links r 0)
    go (yes e) d = inl (rw e (cut_at_here links p))
    go (no n) (yes e) = inl (cut_at_mate links p r e)
    go (no n) (no m) = inr (cut_at_other links p r n m)

-- also over a run.
pub cut_run_fewer : (links : List ℕ) (first n q : ℕ)
    → (get_or (cut_run links first n) q 0 ≡ 0) ⊎ (get_or (cut_run links first n) q 0 ≡ get_or links q 0)
unfolding cut_run
cut_run_fewer links first zero q = inr refl
cut_run_fewer links first (suc n) q = go (cut_at_fewer (cut_run links first n) (first + n) q) (cut_run_fewer links first n q)
  where
    go : {v w u : ℕ} → (v ≡ 0) ⊎ (v ≡ w) → (w ≡ 0) ⊎ (w ≡ u) → (v ≡ 0) ⊎ (v ≡ u)
    go (inl a) b = inl a
    go (inr a) (inl b) = inl (a ∙ b)
    go (inr a) (inr b) = inr (a ∙ b)

-- Each port of a run is without a wire afterwards,
pub cut_run_in : (links : List ℕ) (first n i : ℕ) → i < n → get_or (cut_run links first n) (first + i) 0 ≡ 0
unfolding cut_run
cut_run_in links first zero i h = absurd (omega arith)
cut_run_in links first (suc n) i h = go (ℕ_discrete i n) (λ (b : i < n). cut_run_in links first n i b)
  where
    go : Dec (i ≡ n) → (i < n → get_or (cut_run links first n) (first + i) 0 ≡ 0) → get_or (cut_at (cut_run links first n) (first + n)) (first + i) 0 ≡ 0
    go (yes e) k = rw e (cut_at_here (cut_run links first n) (first + n))
    go (no e) k = cleared (cut_at_fewer (cut_run links first n) (first + n) (first + i)) (k (omega arith))

-- and a port that is neither in the run nor the mate of one there keeps its word.
pub cut_run_apart : (links : List ℕ) (first n q : ℕ) → ((i : ℕ) → i < n → q ≡ first + i → ⊥)
    → ((i : ℕ) → i < n → get_or links (first + i) 0 ≡ suc q → ⊥)
    → get_or (cut_run links first n) q 0 ≡ get_or links q 0
unfolding cut_run
cut_run_apart links first zero q out none = refl
cut_run_apart links first (suc n) q out none =
    cut_at_other (cut_run links first n) (first + n) q (out n (omega arith)) (λ e. none n (omega arith) (kept q (cut_run_fewer links first n (first + n)) e))
    ∙ cut_run_apart links first n q (λ i b. out i (omega arith)) (λ i b. none i (omega arith))

-- A port without a wire adds none to the count,
pub wired_loose : (owner : ℕ) → wired_outlet owner 0 ≡ 0
unfolding wired_outlet
wired_loose owner = pick_same (eqb owner 0) 0

-- and a live one with a wire adds its direction.
pub wired_live : (owner q : ℕ) → (owner ≡ 0 → ⊥) → wired_outlet owner (suc q) ≡ direction_of owner
unfolding wired_outlet
wired_live owner q live = simp (ne_eqb owner 0 live, ne_eqb (suc q) 0 (omega arith))

-- So the count drops by that where such a port's word is cleared.
pub pairs_cleared : (owners links : List ℕ) (p q m : ℕ) → p < m → Live owners p → get_or links p 0 ≡ suc q
    → pairs owners (set links p 0) m + direction_of (get_or owners p 0) ≡ pairs owners links m
unfolding pairs
pairs_cleared owners links p q m b live e =
    let f : List ℕ → ℕ → ℕ = λ l x. wired_outlet (get_or owners x 0) (get_or l x 0) in
    let before : f links p ≡ direction_of (get_or owners p 0) = rw e (wired_live (get_or owners p 0) q live) in
    let after : f (set links p 0) p ≡ 0 = rw set_zero (wired_loose (get_or owners p 0)) in
    omega
    (arith, sum_change (f (set links p 0)) (f links) m p b (λ j c n. ap (wired_outlet (get_or owners j 0)) (get_or-set_other links p j 0 0 n)))

module _ (owners links : List ℕ) (held : ℕ → ℕ) (wiring : Wiring owners links held) (bare : (p : ℕ) → held p ≡ 0 → get_or owners p 0 ≡ 0) where
  -- The mate of a held port is held,
  pub mate_held : (p q : ℕ) → 1 ≤ held p → get_or links p 0 ≡ suc q → 1 ≤ held q
  mate_held p q h e = go (dec_lt 0 (held q))
    where
      go : Dec (0 < held q) → 1 ≤ held q
      go (yes b) = b
      go (no b) = absurd ((wiring p q h e).there (bare q (omega arith)))

  -- and is another port, since it faces the other way.
  pub mate_apart : (p q : ℕ) → 1 ≤ held p → get_or links p 0 ≡ suc q → p ≡ q → ⊥
  mate_apart p q h e k = (wiring p q h e).across (rw k)

  -- Rule 6 stays true when a wire is cut,
  pub cut_at_wiring : (p : ℕ) → 1 ≤ held p → Wiring owners (cut_at links p) held
  cut_at_wiring p h a b ha e =
      let k : get_or links a 0 ≡ suc b = kept b (cut_at_fewer links p a) e in
      let mate = wiring a b ha k in
      record {
        here = mate.here;
        there = mate.there;
        across = mate.across;
        back = cut_at_other links p b (λ x. omega (arith, cut_at_mate links p a (rw x at mate).back)) (λ x. same (omega (arith, (wiring p b h x).back, mate.back))) ∙ mate.back;
      }
    where
      same : a ≡ p → ⊥
      same y = omega (arith, cut_at_here links p, rw y at e)

  -- and the wires are fewer by those that are cut, where no port from m on is held.
  pub cut_at_pairs : (p : ℕ) → 1 ≤ held p → (m : ℕ) → ((r : ℕ) → m ≤ r → held r ≡ 0)
      → pairs owners (cut_at links p) m + wired_at links p ≡ pairs owners links m
  unfolding wired_at
  cut_at_pairs p h m top = go (get_or links p 0) refl
    where
      below : (x : ℕ) → 1 ≤ held x → x < m
      below x b = elim (dec_lt x m) [ yes l ↦ l | no l ↦ absurd (omega (arith, top x (omega arith))) ]

      go : (w : ℕ) → get_or links p 0 ≡ w → pairs owners (cut_at links p) m + wired_at links p ≡ pairs owners links m
      go zero e = rw (cut_at_loose links p e, eq-eqb (get_or links p 0) 0 e) (omega arith)
      go (suc q) e =
          let mate = wiring p q h e in
          let back : get_or (set links p 0) q 0 ≡ suc p = get_or-set_other links p q 0 0 (λ x. mate_apart p q h e (sym x)) ∙ mate.back in
          rw
          (cut_at_wired links p q e, ne_eqb (get_or links p 0) 0 (omega arith))
          (omega
          (arith, mate.across, direction_le (get_or owners p 0), direction_le (get_or owners q 0), pairs_cleared owners links p q m (below p h) mate.here e, pairs_cleared owners (set links p 0) q p m (below q (mate_held p q h e)) mate.there back))

module _ (owners links : List ℕ) (held : ℕ → ℕ) (wiring : Wiring owners links held) (bare : (p : ℕ) → held p ≡ 0 → get_or owners p 0 ≡ 0) where
  -- The same of a run of held ports: rule 6 stays true,
  pub cut_run_wiring : (first n : ℕ) → ((i : ℕ) → i < n → 1 ≤ held (first + i)) → Wiring owners (cut_run links first n) held
  unfolding cut_run
  cut_run_wiring first zero hold = wiring
  cut_run_wiring first (suc n) hold =
      cut_at_wiring owners (cut_run links first n) held (cut_run_wiring first n (λ i b. hold i (omega arith))) bare (first + n) (hold n (omega arith))

  -- the mate of a port of the run is without a wire afterwards,
  pub cut_run_mate : (first n : ℕ) → ((i : ℕ) → i < n → 1 ≤ held (first + i)) → (q i : ℕ) → i < n → 1 ≤ held q
      → get_or links q 0 ≡ suc (first + i) → get_or (cut_run links first n) q 0 ≡ 0
  cut_run_mate first n hold q i b h e = go (cut_run_fewer links first n q)
    where
      go : (get_or (cut_run links first n) q 0 ≡ 0) ⊎ (get_or (cut_run links first n) q 0 ≡ get_or links q 0) → get_or (cut_run links first n) q 0 ≡ 0
      go (inl a) = a
      go (inr a) = absurd (omega (arith, cut_run_in links first n i b, (cut_run_wiring first n hold q (first + i) h (a ∙ e)).back))

  -- a port outside the run whose mate, if it has one, is outside too keeps its word,
  pub cut_run_other : (first n : ℕ) → ((i : ℕ) → i < n → 1 ≤ held (first + i)) → (q : ℕ) → ((i : ℕ) → i < n → q ≡ first + i → ⊥)
      → ((i : ℕ) → i < n → get_or links q 0 ≡ suc (first + i) → ⊥)
      → get_or (cut_run links first n) q 0 ≡ get_or links q 0
  cut_run_other first n hold q out none =
      cut_run_apart links first n q out (λ i b e. none i b (wiring (first + i) q (hold i b) e).back)

  -- a port that is not held keeps its word,
  pub cut_run_still : (first n : ℕ) → ((i : ℕ) → i < n → 1 ≤ held (first + i)) → (q : ℕ) → held q ≡ 0
      → get_or (cut_run links first n) q 0 ≡ get_or links q 0
  cut_run_still first n hold q h =
      cut_run_apart links first n q (λ i b e. omega (arith, hold i b, ap held e)) (λ i b e. (wiring (first + i) q (hold i b) e).there (bare q h))

  -- and the wires are fewer by those that are cut,
  pub cut_run_pairs : (first n : ℕ) → ((i : ℕ) → i < n → 1 ≤ held (first + i)) → (m : ℕ) → ((r : ℕ) → m ≤ r → held r ≡ 0)
      → pairs owners (cut_run links first n) m + wires_in links first n ≡ pairs owners links m
  unfolding cut_run wires_in
  cut_run_pairs first zero hold m top = omega arith
  cut_run_pairs first (suc n) hold m top =
      let fewer : (i : ℕ) → i < n → 1 ≤ held (first + i) = λ i b. hold i (omega arith) in
      omega
      (arith, cut_run_pairs first n fewer m top, cut_at_pairs owners (cut_run links first n) held (cut_run_wiring first n fewer) bare (first + n) (hold n (omega arith)) m top)

  -- of which there are so many at least.
  pub wires_in_pairs : (first n : ℕ) → ((i : ℕ) → i < n → 1 ≤ held (first + i)) → (m : ℕ) → ((r : ℕ) → m ≤ r → held r ≡ 0)
      → wires_in links first n ≤ pairs owners links m
  wires_in_pairs first n hold m top = omega (arith, cut_run_pairs first n hold m top)
