-- Lists of records, and the log once they are written: how long they are, and that records which follow others stand after them.
use Prim.Native.Nat.{ℕ, suc, zero, ◌+◌}
use native.Mathlib.Omega.{arith}
use native.Mathlib.Nat.{add-zero}
use native.Mathlib.Numerals.{add-one}
use lib.ListN.{length, length-set, length-append}
use mathlib.Core.List.{List, [], ◌∷◌, ◌++◌}
use mathlib.Core.Path.{◌≡◌, refl, ap, ◌∙◌}
use Rattle.renumber.specs.Records.{Rec, set_record, logged, listed, later}
use Rattle.renumber.specs.declared.log.LogPlace.{LogPlace}
use Rattle.renumber.specs.Moves.{removed_records, moved_records}
use Rattle.renumber.specs.declared.moves.Run.{Run}

-- A list of n records has n.
pub listed-length : (f : ℕ → Rec) (n : ℕ) → length (listed f n) ≡ n
unfolding listed
listed-length f zero = refl
listed-length f (suc n) = simp length-append (omega (arith, listed-length f n))

-- So many ports are recorded as removed,
pub removed_records-length : (links : List ℕ) (first n : ℕ) → length (removed_records links first n) ≡ n
unfolding removed_records
removed_records-length links first n = listed-length _ n

-- and as moved.
pub moved_records-length : (run : Run) → length (moved_records run) ≡ run.n
unfolding moved_records
moved_records-length run = listed-length _ run.n

-- Records leave the log's length.
pub logged-length : (log : List ℕ) (at place : ℕ) (rs : List Rec) → length (logged log at place rs) ≡ length log
unfolding logged
logged-length log at place [] = refl
logged-length log at place (r ∷ rs) = logged-length (set_record log at place r) (at + 1) place rs ∙ simp length-set

-- Records that follow others stand after them.
pub logged-append : (log : List ℕ) (at place : ℕ) (rs ss : List Rec)
    → logged log at place (rs ++ ss) ≡ logged (logged log at place rs) (at + length rs) place ss
unfolding logged
logged-append log at place [] ss = simp add-zero
logged-append log at place (r ∷ rs) ss =
    let e : at + 1 + length rs ≡ at + suc (length rs) = omega arith in
    rw (← e) (logged-append (set_record log at place r) (at + 1) place rs ss)

-- So does one record more.
pub logged_snoc : (log : List ℕ) (at place : ℕ) (rs : List Rec) (r : Rec)
    → logged log at place (rs ++ (r ∷ [])) ≡ set_record (logged log at place rs) (at + length rs) place r
unfolding logged
logged_snoc log at place rs r = logged-append log at place rs (r ∷ [])

-- No record of a list leaves the log as it is,
pub logged_none : (log : List ℕ) (at place : ℕ) (f : ℕ → Rec) → logged log at place (listed f 0) ≡ log
unfolding listed logged
logged_none log at place f = refl

-- and record n of it stands after those before.
pub logged_next : (log : List ℕ) (at place : ℕ) (f : ℕ → Rec) (n : ℕ)
    → logged log at place (listed f (n + 1)) ≡ set_record (logged log at place (listed f n)) (at + n) place (f n)
unfolding listed
logged_next log at place f n = rw add-one (logged_snoc log at place (listed f n) (f n) ∙ rw (listed-length f n))

-- No record later is here,
pub none_later : (to : LogPlace) → to ≡ later to 0
none_later to = rw add-zero

-- so many after so many are as many as both,
pub later_again : (to : LogPlace) (n m : ℕ) → later (later to n) m ≡ later to (n + m)
later_again to n m = ap (λ (at : ℕ). record { at = at; place = to.place }) (omega arith)

-- and one more is the next.
pub one_later : (to : LogPlace) (n : ℕ) → later (later to n) 1 ≡ later to (n + 1)
one_later to n = later_again to n 1

-- What a loop that records needs of the log that it has written.
pub ruleset log_laws = (logged-length, logged_none, logged_next)
