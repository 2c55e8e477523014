-- What a table holds after one word is written to a run of places, and after the owner words of a slab are.
use Prim.Native.Nat.{ℕ, suc, zero, ◌+◌, ◌-◌, ◌≤◌, ◌<◌}
use mathlib.Core.List.{List}
use mathlib.Core.Path.{◌≡◌, refl, sym, ap, ◌∙◌}
use native.Mathlib.Omega.{arith}
use native.Mathlib.Nat.{zero-add}
use native.Mathlib.Decide.{ℕ_discrete, dec_lt}
use lib.ListN.{length, get_or, set, take}
use lib.Seq.{get_or-set_same, get_or-set_other}
use borrow.Rule.Slice.PartMut.{put_mid}
use Rattle.std.specs.Prelude.{replicate}
use Rattle.std.proofs.lemmas.List.{length-append, length-take, length-drop, length-replicate, get_or_append_left, get_or-append_right, get_or-take, get_or-drop, get_or-replicate}
use Rattle.std.proofs.lemmas.Grind.{same_number_lists}
use Rattle.slabs.specs.PortEntry.{owner_word}
use Rattle.slabs.specs.Slab.{filled, owners_written}
use Rattle.slabs.proofs.Shapes.{filled-length}

-- Each place of the run holds the word.
pub filled_in : (table : List ℕ) (first n w i : ℕ) → i < n → first + n ≤ length table → get_or (filled table first n w) (first + i) 0 ≡ w
unfolding filled
filled_in table first zero w i h f = absurd (omega arith)
filled_in table first (suc n) w i h f = go (ℕ_discrete i n) (λ (b : i < n). filled_in table first n w i b (omega arith))
  where
    go : Dec (i ≡ n) → (i < n → get_or (filled table first n w) (first + i) 0 ≡ w) → get_or (set (filled table first n w) (first + n) w) (first + i) 0 ≡ w
    go (yes e) k = rw e (get_or-set_same (filled table first n w) (first + n) w 0 (omega (arith, filled-length table first n w)))
    go (no e) k = get_or-set_other (filled table first n w) (first + n) (first + i) w 0 (omega arith) ∙ k (omega arith)

-- A place outside the run keeps its word:
pub filled_apart : (table : List ℕ) (first n w i : ℕ) → ((j : ℕ) → j < n → i ≡ first + j → ⊥) → get_or (filled table first n w) i 0 ≡ get_or table i 0
unfolding filled
filled_apart table first zero w i h = refl
filled_apart table first (suc n) w i h =
    get_or-set_other (filled table first n w) (first + n) i w 0 (h n (omega arith))
    ∙ filled_apart table first n w i (λ j b. h j (omega arith))

-- one below it,
pub filled_below : (table : List ℕ) (first n w i : ℕ) → i < first → get_or (filled table first n w) i 0 ≡ get_or table i 0
filled_below table first n w i h = filled_apart table first n w i (omega arith)

-- and one above it.
pub filled_above : (table : List ℕ) (first n w i : ℕ) → first + n ≤ i → get_or (filled table first n w) i 0 ≡ get_or table i 0
filled_above table first n w i h = filled_apart table first n w i (omega arith)

module _ (owners : List ℕ) (node first inlets outlets : ℕ) where
  -- Written owner words leave the table's length.
  pub written_length : length (owners_written owners node first inlets outlets) ≡ length owners
  unfolding owners_written
  written_length = filled-length (filled owners first inlets (owner_word node 0)) (first + inlets) outlets (owner_word node 1)
      ∙ filled-length owners first inlets (owner_word node 0)

  -- The inlets come first,
  pub written_inlet : (i : ℕ) → i < inlets → first + inlets + outlets ≤ length owners
      → get_or (owners_written owners node first inlets outlets) (first + i) 0 ≡ owner_word node 0
  unfolding owners_written
  written_inlet i h f =
      filled_below (filled owners first inlets (owner_word node 0)) (first + inlets) outlets (owner_word node 1) (first + i) (omega arith)
      ∙ filled_in owners first inlets (owner_word node 0) i h (omega arith)

  -- then the outlets,
  pub written_outlet : (i : ℕ) → i < outlets → first + inlets + outlets ≤ length owners
      → get_or (owners_written owners node first inlets outlets) (first + inlets + i) 0 ≡ owner_word node 1
  unfolding owners_written
  written_outlet i h f =
      filled_in (filled owners first inlets (owner_word node 0)) (first + inlets) outlets (owner_word node 1) i h
      (rw filled-length f)

  -- and the ports below these
  pub written_below : (i : ℕ) → i < first → get_or (owners_written owners node first inlets outlets) i 0 ≡ get_or owners i 0
  unfolding owners_written
  written_below i h =
      filled_below (filled owners first inlets (owner_word node 0)) (first + inlets) outlets (owner_word node 1) i (omega arith)
      ∙ filled_below owners first inlets (owner_word node 0) i h

  -- and above them keep theirs.
  pub written_above : (i : ℕ) → first + inlets + outlets ≤ i → get_or (owners_written owners node first inlets outlets) i 0 ≡ get_or owners i 0
  unfolding owners_written
  written_above i h =
      filled_above (filled owners first inlets (owner_word node 0)) (first + inlets) outlets (owner_word node 1) i h
      ∙ filled_above owners first inlets (owner_word node 0) i (omega arith)

-- A part of a table that is filled as a whole is the run of places that is filled one by one.
pub fill_mid : (table : List ℕ) (first n w : ℕ) → first + n ≤ length table → put_mid first n table (replicate n w) ≡ filled table first n w
fill_mid table first n w h =
    same_number_lists (put_mid first n table (replicate n w)) (filled table first n w) (whole ∙ sym (filled-length table first n w)) (λ k l. place k (dec_lt k first) (dec_lt k (first + n)))
  where
    front : length (take first table) ≡ first
    front = simp length-take (omega arith)

    whole : length (put_mid first n table (replicate n w)) ≡ length table
    whole = simp (length-append, length-take, length-drop, length-replicate) (omega arith)

    place : (k : ℕ) → Dec (k < first) → Dec (k < first + n) → get_or (put_mid first n table (replicate n w)) k 0 ≡ get_or (filled table first n w) k 0
    place k (yes a) b =
        get_or_append_left (take first table) _ 0 k (omega (arith, front)) ∙ get_or-take first table k 0 a ∙ sym (filled_below table first n w k a)
    place k (no a) (yes b) =
        get_or-append_right (take first table) _ first k 0 front (omega arith) ∙ get_or_append_left (replicate n w) _ 0 (k - first) (rw length-replicate (omega arith)) ∙ get_or-replicate n (k - first) w 0 (omega arith) ∙ sym (ap (λ (j : ℕ). get_or (filled table first n w) j 0) here ∙ filled_in table first n w (k - first) (omega arith) h)
      where
        here : k ≡ first + (k - first)
        here = omega arith
    place k (no a) (no b) =
        get_or-append_right (take first table) _ first k 0 front (omega arith) ∙ get_or-append_right (replicate n w) _ n (k - first) 0 (length-replicate n w) (omega arith) ∙ get_or-drop n _ (k - first - n) 0 ∙ get_or-drop first table (n + (k - first - n)) 0 ∙ ap (λ (j : ℕ). get_or table j 0) same ∙ sym (filled_above table first n w k (omega arith))
      where
        same : first + (n + (k - first - n)) ≡ k
        same = omega arith

-- A table that is filled as a whole.
pub fill_whole : (table : List ℕ) (w : ℕ) → replicate (length table) w ≡ filled table 0 (length table) w
fill_whole table w =
    same_number_lists (replicate (length table) w) (filled table 0 (length table) w) (length-replicate (length table) w ∙ sym (filled-length table 0 (length table) w)) (λ k l. at k (omega (arith, length-replicate (length table) w)))
  where
    at : (k : ℕ) → k < length table → get_or (replicate (length table) w) k 0 ≡ get_or (filled table 0 (length table) w) k 0
    at k l = get_or-replicate (length table) k w 0 l ∙ sym (simp zero-add at (filled_in table 0 (length table) w k l (omega arith)))
