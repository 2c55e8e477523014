-- Laws of tables of fours of words: a chunk of four is the words at a place.
use Rattle.std.proofs.Common.{◌≡◌, ℕ, ◌+◌, ◌*◌, ◌/◌, ◌≤◌, List, ◌++◌, length, take, drop, ap, sym, ◌∙◌, arith, length-append, length-drop}
use mathlib.Core.Logic.{◌⊎◌, inl, inr}
use Rattle.std.specs.Prelude.{Some, None}
use Rattle.std.specs.Borrow.{Bor}
use Rattle.std.specs.Slice.Iter.{chunks_exact_rest, chunks_exact_size, chunks_exact_steps}
use Rattle.std.specs.declared.slice.ChunksExact.{ChunksExact}
use Rattle.std.proofs.lemmas.List.{drop-drop}
use Rattle.std.proofs.Math.Seq.{take-append_seam, drop-append_seam}
use Rattle.slabs.proofs.RowLaws.{row_of_four}
use Rattle.text.specs.Parts.{words_at}

-- The first n fours of a table are given, and the rest of it is left to be cut.
pub record FoursGiven (table : List ℕ) (n : ℕ) (s : ChunksExact ℕ) : Type 0 where
  pub fours : chunks_exact_size s ≡ 4
  pub left : chunks_exact_rest s ≡ drop (4 * n) table
  pub within : 4 * n ≤ length table

-- At first none is.
pub fours_begin : (table : List ℕ) (s made : ChunksExact ℕ) → s ≡ made → chunks_exact_size made ≡ 4 → chunks_exact_rest made ≡ table → FoursGiven table 0 s
fours_begin table s made same four all =
    record { fours = ap chunks_exact_size same ∙ four; left = ap chunks_exact_rest same ∙ all; within = omega arith }

-- The one that is given next is the next four,
pub four_given : (table : List ℕ) (n : ℕ) (s t : ChunksExact ℕ) (four : Bor (List ℕ)) → FoursGiven table n s → chunks_exact_steps s (Some four) t
    → (four.now ≡ words_at table n) × FoursGiven table (n + 1) t
four_given table n s t four h step =
    let words : List ℕ = four.now in
    let rest : List ℕ = chunks_exact_rest t in
    let few : length words ≡ 4 = step.1.1 ∙ h.fours in
    let both : words ++ rest ≡ drop (4 * n) table = sym step.1.0 ∙ h.left in
    let room : 4 * n + 4 ≤ length table = omega (arith, ap length both, length-append words rest, length-drop (4 * n) table) in
    let front : take (length words) (words ++ rest) ≡ words = take-append_seam words rest in
    let behind : drop (length words) (words ++ rest) ≡ rest = drop-append_seam words rest in
    let taken : take 4 (drop (4 * n) table) ≡ words = rw (few, both) at front in
    let dropped : drop 4 (drop (4 * n) table) ≡ rest = rw (few, both) at behind in
    let next : 4 * n + 4 ≡ 4 * (n + 1) = omega arith in (
      sym taken ∙ row_of_four table n room,
      record {
        fours = step.0 ∙ h.fours;
        left = sym dropped ∙ drop-drop 4 (4 * n) table ∙ ap (λ (i : ℕ). drop i table) next;
        within = omega arith;
      },
    )

-- and where none is given, all were.
pub fours_end : (table : List ℕ) (n : ℕ) (s t : ChunksExact ℕ) → FoursGiven table n s → chunks_exact_steps s None t → length table / 4 ≡ n
fours_end table n s t h step = omega (arith, h.fours, h.within, ap length h.left, length-drop (4 * n) table, step.1.0)

-- So where the places of a range are over, or no four is left for one, as many are given as the range has.
pub fours_all : (table : List ℕ) (i n : ℕ) (t : ChunksExact ℕ) (Over : Type 0)
    → FoursGiven table i t → 4 * n ≤ length table → i ≤ n → (Over → n ≤ i) → Over ⊎ ((u : ChunksExact ℕ) × chunks_exact_steps t None u) → i ≡ n
fours_all table i n t Over g room within over (inl done) = omega (arith, over done)
fours_all table i n t Over g room within over (inr (u, step)) = omega (arith, fours_end table i t u g step)
