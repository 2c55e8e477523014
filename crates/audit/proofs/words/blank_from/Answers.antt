-- `blank_from` decides whether a table is blank from a place on: the words from there to the end are a run of zeros, and past the end all are.
use Prim.Native.Nat.{ℕ, ◌+◌, ◌-◌, ◌≤◌, ◌<◌}
use mathlib.Core.Path.{◌≡◌}
use mathlib.Core.List.{List}
use native.Mathlib.Omega.{arith}
use native.Mathlib.Decide.{dec_lt}
use borrow.Author.Rules.{rules}
use lib.ListN.{length, get_or, take, drop, get_or-eq_default}
use Rattle.std.proofs.lemmas.List.{places}
use Rattle.audit.specs.Decides.{Decides}
use Rattle.audit.specs.Parts.{BlankFrom, RunIs}
use Rattle.audit.proofs.DecideLaws.{decides_from}
use Rattle.audit.proofs.words.blank_from.Goals as goal

-- where a run of zeros goes to the end of a table, the table is blank
run_blank : (table : List ℕ) (from start : ℕ) → (from < length table → start ≡ from) → RunIs table start (length table - start) 0 → BlankFrom table from
run_blank table from start e run k h = go (dec_lt k (length table))
  where
    go : Dec (k < length table) → get_or table k 0 ≡ 0
    go (yes b) =
        let s : start ≡ from = e (omega arith) in
        let d : k ≡ start + (k - start) = omega arith in
        rw d (run (k - start) (omega arith))
    go (no b) = get_or-eq_default table 0 (omega arith)

pub returns : goal.returns
returns c =
    let table = c.args.table.now in
    let start = c.min.result in
    let inside : start ≤ length table = omega arith in
    let rest = take (length table - start) (drop start table) in
    let zeros : Decides c.all.result ((i : ℕ) → i < length rest → get_or rest i 0 ≡ 0) = search rules in
    let same : (i : ℕ) → i < length table - start → get_or rest i 0 ≡ get_or table (start + i) 0 = grind (arith, places) in
    let run : Decides c.all.result (RunIs table start (length table - start) 0) =
    decides_from zeros (λ h i l. rw (← same i l) (h i (omega arith))) (λ h i l. rw (same i (omega arith)) (h i (omega arith))) in
    decides_from run (run_blank table c.args.from start (omega arith)) (λ h i l. h (start + i) (omega arith))
