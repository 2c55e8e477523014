-- Laws of resize: the size of the new slab, how many ports go and how many stay, and what each step leaves of a table's shape.
use Prim.Native.Nat.{ℕ, suc, zero, ◌+◌, ◌-◌, ◌*◌, ◌/◌, ◌^◌, ◌≤◌, ◌<◌, min, max}
use mathlib.Core.Path.{◌≡◌, refl, sym, ◌∙◌}
use mathlib.Core.Bool.{Bool, true, false, false≢true}
use mathlib.Core.List.{List, ◌++◌}
use native.Mathlib.Omega.{arith}
use native.Mathlib.Decide.{dec_lt, dec_le}
use native.Mathlib.Nat.{pow-suc, pow-le-pow_right, one-le-pow}
use lib.ListN.{length, get_or, set, length-set, length-append}
use lib.Dec.{eqb, ltb}
use borrow.Author.Tests.{lt-ltb, le-ltb, ltb-true, eqb-false}
use Rattle.std.specs.Int.{IsPowerOfTwo}
use Rattle.slabs.specs.Choice.{pick}
use Rattle.slabs.specs.Links.{Inside}
use Rattle.slabs.specs.Slab.{head_of, taken_links, taken_heads}
use Rattle.slabs.proofs.Shapes.{set_inside, cut_run-length, cut_run_inside, wires_in_le}
use Rattle.edits.specs.Store.{Store}
use Rattle.renumber.specs.Records.{Rec, logged}
use Rattle.renumber.specs.Moves.{moved_records}
use Rattle.renumber.specs.Resize.{grown_once, grown, slab_size, is_in_place, records_needed, inlets_kept, outlets_kept, inlets_removed, outlets_removed, inlets_from, outlets_from, cut_inlets, cut_removed, cut_wires, cut_records, outlet_run, inlets_into, outlets_into, moved_into, reallocated_records, resize_records}
use Rattle.renumber.specs.declared.resize.Change.{Change}
use Rattle.renumber.proofs.RecordLaws.{logged-append, removed_records-length, moved_records-length}
use Rattle.renumber.proofs.MoveLaws.{moved_run-length, moved_run_inside}

-- A size below n is doubled,
grown_doubled : (n size : ℕ) → size < n → grown_once n size ≡ size * 2
unfolding grown_once
grown_doubled n size l = simp (lt-ltb size n l)

-- and another stays.
grown_stays : (n size : ℕ) → n ≤ size → grown_once n size ≡ size
unfolding grown_once
grown_stays n size l = simp (le-ltb size n l)

-- What holds of 1, and of twice any size below n that it holds of, holds of every grown size.
grown_each : (P : ℕ → Type 0) (n : ℕ) → P 1 → ((size : ℕ) → size < n → P size → P (size * 2)) → (k : ℕ) → P (grown n k)
unfolding grown
grown_each P n one more zero = one
grown_each P n one more (suc k) = go (dec_lt (grown n k) n) (grown_each P n one more k)
  where
    go : Dec (grown n k < n) → P (grown n k) → P (grown_once n (grown n k))
    go (yes l) h = rw (grown_doubled n (grown n k) l) (more (grown n k) l h)
    go (no l) h = rw (grown_stays n (grown n k) (omega arith)) h

-- A size that is still below n was doubled each time.
grown_short : (n k : ℕ) → grown n k < n → grown n k ≡ 2 ^ k
unfolding grown
grown_short n zero l = refl
grown_short n (suc k) l = go (dec_lt (grown n k) n) (grown_short n k)
  where
    go : Dec (grown n k < n) → (grown n k < n → grown n k ≡ 2 ^ k) → grown_once n (grown n k) ≡ 2 ^ suc k
    go (yes m) h = rw (grown_doubled n (grown n k) m, h m, pow-suc)
    go (no m) h = absurd (omega (arith, grown_stays n (grown n k) (omega arith)))

-- k doublings make no more than 2 to the k.
pub grown_le : (n k : ℕ) → grown n k ≤ 2 ^ k
unfolding grown
grown_le n zero = omega arith
grown_le n (suc k) = go (dec_lt (grown n k) n) (grown_le n k)
  where
    go : Dec (grown n k < n) → grown n k ≤ 2 ^ k → grown_once n (grown n k) ≤ 2 ^ suc k
    go (yes m) h = rw (grown_doubled n (grown n k) m) (omega (arith, pow-suc 2 k))
    go (no m) h = rw (grown_stays n (grown n k) (omega arith)) (omega (arith, pow-suc 2 k))

-- Up to 15 doublings make no more than the largest total,
pub grown_small : (n k : ℕ) → k ≤ 15 → grown n k ≤ 32768
grown_small n k h = let p : 2 ^ k ≤ 2 ^ 15 = pow-le-pow_right (omega arith) h in omega (arith, grown_le n k)

-- so no new slab is larger.
pub slab_size_le : (n : ℕ) → slab_size n ≤ 32768
slab_size_le n = grown_small n 15 (omega arith)

-- A power of two below another is half of it at most.
power_half : (i k : ℕ) → 2 ^ i < 2 ^ k → 2 ^ i * 2 ≤ 2 ^ k
power_half i k l = go (dec_lt i k)
  where
    go : Dec (i < k) → 2 ^ i * 2 ≤ 2 ^ k
    go (yes m) = rw (← pow-suc 2 i) (pow-le-pow_right (omega arith) m)
    go (no m) = let f : 2 ^ k ≤ 2 ^ i = pow-le-pow_right (omega arith) (omega arith) in absurd (omega arith)

-- A new slab has a port.
pub slab_size_some : (n : ℕ) → 1 ≤ slab_size n
slab_size_some n = grown_each (λ size. 1 ≤ size) n (omega arith) (λ size l h. omega arith) 15

-- Its size is a power of two,
pub slab_size_power : (n : ℕ) → (k : ℕ) × (slab_size n ≡ 2 ^ k)
slab_size_power n = grown_each (λ size. (k : ℕ) × (size ≡ 2 ^ k)) n (0, refl) (λ size l h. (suc h.0, rw (h.1, pow-suc))) 15

-- not below n, for each n that a step may have,
pub slab_size_covers : (n : ℕ) → n ≤ 32768 → n ≤ slab_size n
slab_size_covers n h = go (dec_le n (slab_size n))
  where
    go : Dec (n ≤ slab_size n) → n ≤ slab_size n
    go (yes l) = l
    go (no l) = omega (arith, grown_short n 15 (omega arith))

-- and the smallest such.
pub slab_size_least : (n k : ℕ) → n ≤ 2 ^ k → slab_size n ≤ 2 ^ k
slab_size_least n k h =
    (grown_each (λ size. (size ≤ 2 ^ k) × (i : ℕ) × (size ≡ 2 ^ i)) n (one, 0, refl) more 15).0
  where
    one : 1 ≤ 2 ^ k
    one = one-le-pow k 2 (omega arith)

    more : (size : ℕ) → size < n → (size ≤ 2 ^ k) × (i : ℕ) × (size ≡ 2 ^ i) → (size * 2 ≤ 2 ^ k) × (i : ℕ) × (size * 2 ≡ 2 ^ i)
    more size l p = (rw p.2 (power_half p.1 k (omega (arith, p.2))), suc p.1, rw (p.2, pow-suc))

-- A power of two that is n or more, and half of which is less than n, or than 1, is that size.
pub next_power : (n power : ℕ) → n ≤ 32768 → IsPowerOfTwo power → n ≤ power → power / 2 < max 1 n → power ≡ slab_size n
next_power n power few is covers tight = go (dec_lt (slab_size n) power)
  where
    least : slab_size n ≤ power
    least = rw is.1 (slab_size_least n is.0 (omega (arith, is.1)))

    go : Dec (slab_size n < power) → power ≡ slab_size n
    go (yes less) =
        let half : slab_size n * 2 ≤ power =
        rw ((slab_size_power n).1, is.1) (power_half (slab_size_power n).0 is.0 (omega (arith, (slab_size_power n).1, is.1))) in
        absurd (omega (arith, slab_size_covers n few, slab_size_some n))
    go (no more) = omega (arith, least)

-- So it is 1 or less than twice n.
pub slab_size_tight : (n : ℕ) → 1 < slab_size n → slab_size n < 2 * n
slab_size_tight n = grown_each (λ size. 1 < size → size < 2 * n) n (λ l. omega arith) (λ size l h m. omega arith) 15

-- A change in place has a port, and leaves a port to spare.
pub in_place_fits : (ch : Change) → is_in_place ch ≡ true → (1 ≤ ch.inlets + ch.outlets) × (ch.inlets + ch.outlets < ch.meta.capacity)
unfolding is_in_place
in_place_fits ch h = go (eqb (ch.inlets + ch.outlets) 0) refl h
  where
    go : (t : Bool) → eqb (ch.inlets + ch.outlets) 0 ≡ t
        → pick t false (ltb (ch.inlets + ch.outlets) ch.meta.capacity) ≡ true
        → (1 ≤ ch.inlets + ch.outlets) × (ch.inlets + ch.outlets < ch.meta.capacity)
    go true e d = absurd (false≢true d)
    go false e d = (omega (arith, eqb-false (ch.inlets + ch.outlets) 0 e), ltb-true _ _ d)

-- Of so many ports those that are kept and those that are removed are all.
pub kept_removed : (before after : ℕ) → min before after + (before - after) ≡ before
kept_removed before after = omega arith

-- In place the removed ports are recorded, and the kept outlets, which move,
pub records_in_place : (ch : Change) → is_in_place ch ≡ true → records_needed ch ≡ inlets_removed ch + outlets_removed ch + outlets_kept ch
unfolding records_needed
records_in_place ch e = rw e (omega arith)

-- and into a new slab every port.
pub records_into : (ch : Change) → is_in_place ch ≡ false → records_needed ch ≡ inlets_removed ch + outlets_removed ch + (inlets_kept ch + outlets_kept ch)
unfolding records_needed
records_into ch e = rw e (omega arith)

-- Either way the removed ports are.
pub records_removed : (ch : Change) → inlets_removed ch + outlets_removed ch ≤ records_needed ch
records_removed ch = go (is_in_place ch) refl
  where
    go : (t : Bool) → is_in_place ch ≡ t → inlets_removed ch + outlets_removed ch ≤ records_needed ch
    go true e = omega (arith, records_in_place ch e)
    go false e = omega (arith, records_into ch e)

-- Cutting the removed inlets leaves the length of the link words,
pub cut_inlets-length : (links : List ℕ) (ch : Change) → length (cut_inlets links ch) ≡ length links
unfolding cut_inlets
cut_inlets-length links ch = cut_run-length links (inlets_from ch) (inlets_removed ch)

-- and the words inside.
pub cut_inlets_inside : (links : List ℕ) (ch : Change) → Inside links → Inside (cut_inlets links ch)
unfolding cut_inlets
cut_inlets_inside links ch h = cut_run_inside links (inlets_from ch) (inlets_removed ch) h

-- So does cutting all the removed ports,
pub cut_removed-length : (links : List ℕ) (ch : Change) → length (cut_removed links ch) ≡ length links
unfolding cut_removed
cut_removed-length links ch = cut_run-length (cut_inlets links ch) (outlets_from ch) (outlets_removed ch) ∙ cut_inlets-length links ch

pub cut_removed_inside : (links : List ℕ) (ch : Change) → Inside links → Inside (cut_removed links ch)
unfolding cut_removed
cut_removed_inside links ch h =
    cut_run_inside (cut_inlets links ch) (outlets_from ch) (outlets_removed ch) (cut_inlets_inside links ch h)

-- which cuts no more wires than there are removed ports.
pub cut_wires_le : (links : List ℕ) (ch : Change) → cut_wires links ch ≤ inlets_removed ch + outlets_removed ch
unfolding cut_wires
cut_wires_le links ch =
    omega (arith, wires_in_le links (inlets_from ch) (inlets_removed ch), wires_in_le (cut_inlets links ch) (outlets_from ch) (outlets_removed ch))

-- Each removed port is recorded once.
pub cut_records-length : (links : List ℕ) (ch : Change) → length (cut_records links ch) ≡ inlets_removed ch + outlets_removed ch
unfolding cut_records
cut_records-length links ch = simp (length-append, removed_records-length)

-- Records that are written after n others stand behind them.
pub logged_after : (log : List ℕ) (at place n : ℕ) (rs ss : List Rec) → length rs ≡ n
    → logged (logged log at place rs) (at + n) place ss ≡ logged log at place (rs ++ ss)
logged_after log at place n rs ss e = rw (← e) (sym (logged-append log at place rs ss))

-- Taking a slab from its chain leaves the length of the link words,
pub taken_links-length : (links heads : List ℕ) (size : ℕ) → length (taken_links links heads size) ≡ length links
unfolding taken_links
taken_links-length links heads size = go (eqb (head_of heads size) 0)
  where
    go : (t : Bool) → length (pick t links (set links (head_of heads size - 1) 0)) ≡ length links
    go true = refl
    go false = simp length-set

-- the words inside,
pub taken_links_inside : (links heads : List ℕ) (size : ℕ) → Inside links → Inside (taken_links links heads size)
unfolding taken_links
taken_links_inside links heads size h = go (eqb (head_of heads size) 0)
  where
    go : (t : Bool) → Inside (pick t links (set links (head_of heads size - 1) 0))
    go true = h
    go false = set_inside links (head_of heads size - 1) 0 (omega arith) h

-- and the length of the head words.
pub taken_heads-length : (links heads : List ℕ) (size : ℕ) → length (taken_heads links heads size) ≡ length heads
unfolding taken_heads
taken_heads-length links heads size = go (eqb (head_of heads size) 0)
  where
    go : (t : Bool) → length (pick t heads (set heads (size - 1) (get_or links (head_of heads size - 1) 0))) ≡ length heads
    go true = refl
    go false = simp length-set

-- Moving the kept ports into a new slab leaves the length of the link words,
pub moved_into-length : (links : List ℕ) (ch : Change) (first : ℕ) → length (moved_into links ch first) ≡ length links
unfolding moved_into
moved_into-length links ch first = moved_run-length _ (outlets_into ch first) (outlets_kept ch) ∙ moved_run-length links (inlets_into ch first) (inlets_kept ch)

-- and the words inside.
pub moved_into_inside : (links : List ℕ) (ch : Change) (first : ℕ) → first + ch.inlets + ch.outlets ≤ length links → Inside links
    → Inside (moved_into links ch first)
unfolding moved_into
moved_into_inside links ch first room h =
    moved_run_inside _ (outlets_into ch first) (outlets_kept ch) (rw moved_run-length (omega arith)) (omega arith)
    (moved_run_inside links (inlets_into ch first) (inlets_kept ch) (omega arith) (omega arith) h)

-- Each kept port is recorded once.
pub reallocated_records-length : (heads : List ℕ) (mark : ℕ) (ch : Change) → length (reallocated_records heads mark ch) ≡ inlets_kept ch + outlets_kept ch
unfolding reallocated_records
reallocated_records-length heads mark ch = simp (length-append, moved_records-length)

-- A resize writes as many records as it needs.
pub resize_records-length : (s : Store) (ch : Change) → length (resize_records s ch) ≡ records_needed ch
unfolding resize_records
resize_records-length s ch = go (is_in_place ch) refl
  where
    go : (t : Bool) → is_in_place ch ≡ t
        → length (cut_records s.links ch ++ pick t (moved_records (outlet_run ch)) (reallocated_records s.heads s.counters.portmark ch)) ≡ records_needed ch
    go true e = simp (length-append, cut_records-length, moved_records-length) (sym (records_in_place ch e))
    go false e = simp (length-append, cut_records-length, reallocated_records-length) (sym (records_into ch e))
