use Prim.Native.Nat.{ℕ, ◌+◌, ◌-◌, ◌≤◌, ◌<◌}
use mathlib.Core.Path.{◌≡◌, sym, ap, ◌∙◌}
use mathlib.Core.List.{List, ◌++◌}
use mathlib.Core.Bool.{false≢true}
use native.Mathlib.Omega.{arith}
use native.Mathlib.Numerals.{add-one}
use borrow.Author.Count.{below_none, below_more}
use borrow.Author.Rules.{rules}
use borrow.Rule.Slice.PartMut.{put_mid, post_of, put_same}
use lib.ListN.{length, get_or, set, take}
use lib.Seq.{length-take-le}
use Rattle.std.proofs.lemmas.List.{places}
use Rattle.std.proofs.lemmas.List.{set-append_left, set-append_right, set-get_or}
use Rattle.slabs.specs.Slab.{filled}
use Rattle.slabs.proofs.FillLaws.{filled_above}
use Rattle.audit.proofs.words.claim.Invariants.{Taken}
use Rattle.audit.proofs.words.claim.Goals as goal

-- a write to a part of a table is one to the table
set_part : (a k i v : ℕ) (table part : List ℕ) → a ≤ length table → i < length part
    → put_mid a k table (set part i v) ≡ set (put_mid a k table part) (a + i) v
set_part a k i v table part inside h =
    let same : a + i - a ≡ i = omega arith in
    sym
    (set-append_right (take a table) (part ++ post_of a k table) a (a + i) v (length-take-le a table inside) (omega arith)
    ∙ rw same (ap (λ l. take a table ++ l) (set-append_left part (post_of a k table) i v h)))

-- a place of the part, as the table has it
part_at : (a k i : ℕ) (table part : List ℕ) → a ≤ length table → i < length part → get_or (put_mid a k table part) (a + i) 0 ≡ get_or part i 0
part_at a k i table part inside h = search (rules, places)

-- the place that comes next is as it was
untaken : (scratch : List ℕ) (first n : ℕ) (places : List ℕ) (i : ℕ) → Taken scratch first n places i → first ≤ length scratch → i < length places
    → get_or places i 0 ≡ get_or scratch (first + i) 0
untaken scratch first n places i t inside h =
    sym (part_at first (first + n - first) i scratch places inside h) ∙ ap (λ l. get_or l (first + i) 0) t.words
    ∙ filled_above scratch first i 1 (first + i) (omega arith)

pub loop-place-init : goal.loop-place-init
unfolding filled
loop-place-init c =
    let a = c.args in
    record { were_free = below_none _; words = put_same a.first (a.first + a.n - a.first) a.scratch.now }

pub returns-then-place-ne0 : goal.returns-then-place-ne0
returns-then-place-ne0 c =
    let l = c.loop-place in
    let more : l.place-index < c.args.n = grind (arith, places) in
    record {
      claimed = λ e. absurd (false≢true e);
      refused = λ e. (l.place-index, more, λ z. c.if-place-ne0.true (untaken _ _ _ _ _ l.invariant (omega arith) (omega arith) ∙ z), rw set-get_or l.invariant.words);
    }

pub loop-place-preserved : goal.loop-place-preserved
unfolding filled
loop-place-preserved c =
    let a = c.args in
    let l = c.loop-place in
    record {
      were_free = below_more _ _ l.invariant.were_free (sym (untaken _ _ _ _ _ l.invariant (omega arith) (omega arith)) ∙ c.if-place-ne0.false);
      words =
          rw add-one
          (set_part a.first (a.first + a.n - a.first) l.place-index 1 a.scratch.now l.place-items (omega arith) (omega arith)
          ∙ ap (λ t. set t (a.first + l.place-index) 1) l.invariant.words);
    }
