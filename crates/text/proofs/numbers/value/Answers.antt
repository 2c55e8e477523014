-- The first digit is the number that has it alone, and each further one stands behind the number so far.
use Rattle.std.proofs.Common.{◌≡◌, ℕ, ◌+◌, ◌-◌, ◌*◌, ◌≤◌, ◌<◌, ◌^◌, List, sym, ◌∙◌, ap, refl, arith, length, get_or, take, drop, length-take, length-drop, add-one}
use native.Mathlib.Nat.{pow-suc, pow-le-pow_right}
use lib.Seq.{take-suc, take-length}
use Rattle.std.specs.Prelude.{Result, Ok, Err, OkIff, MatchOption}
use Rattle.std.specs.Result.{result_ok}
use Rattle.text.specs.Parts.{Digit, AllDigits}
use Rattle.text.specs.Decimal.{decimal}
use Rattle.text.proofs.DecimalLaws.{decimal_grow, digits_one, digits_some, digits-length, digits_same}
use Rattle.text.proofs.TextLaws.{all_at, run_at, run_length, needless_zero}
use Rattle.text.proofs.numbers.value.Invariants.{Summed}
use Rattle.text.proofs.numbers.value.Goals as goal

small : (sum i m : ℕ) → i ≤ m → sum < 10 ^ i → sum < 10 ^ m
small sum i m j h = let e : 10 ^ i ≤ 10 ^ m = pow-le-pow_right (omega arith) j in omega arith

module _ (run : List ℕ) (all : AllDigits run) (some : 0 < length run) (few : length run ≤ 10) where
  start : (1 < length run → get_or run 0 0 ≡ 48 → ⊥) → Summed run (get_or run 0 0 - 48) 1
  start lead =
      let d : Digit (get_or run 0 0) = all_at run 0 some all in
      let e : 48 + (get_or run 0 0 - 48) ≡ get_or run 0 0 = omega arith in
      record {
        within = omega arith;
        says = digits_one 9 (get_or run 0 0 - 48) (omega arith) ∙ rw (e, take-suc run 0 0 some) refl;
        lead = λ l. let z : get_or run 0 0 ≡ 48 → ⊥ = lead l in omega arith;
        size = omega arith;
      }

  step : (sum passed : ℕ) → 0 < passed → passed < length run → Summed run sum passed → Summed run (sum * 10 + (get_or run passed 0 - 48)) (passed + 1)
  step sum passed past more v =
      let d : Digit (get_or run passed 0) = all_at run passed more all in
      let e : 48 + (get_or run passed 0 - 48) ≡ get_or run passed 0 = omega arith in
      record {
        within = omega arith;
        says =
            decimal_grow sum (get_or run passed 0 - 48) (v.lead (omega arith)) (small sum passed 9 (omega arith) v.size) (omega arith)
            ∙ rw (e, v.says, add-one, take-suc run passed 0 more) refl;
        lead = λ l. omega (arith, v.lead l);
        size = rw (add-one, pow-suc) (omega (arith, v.size));
      }

  read : (E : Type 0) (r : Result ℕ E) (sum : ℕ) → Summed run sum (length run) → OkIff r (sum < 2 ^ 32) sum
      → MatchOption (result_ok r) ((v : ℕ) → v < 2 ^ 32 → decimal v ≡ run → ⊥) (λ v. decimal v ≡ run)
  read E (Ok x) sum v h = rw h.1 (v.says ∙ take-length run)
  read E (Err d) sum v h = λ w fits e.
      let same : w ≡ sum = digits_same 10 w sum (omega arith) (small sum (length run) 10 few v.size) (e ∙ sym (take-length run) ∙ sym v.says) in
      h (omega arith)

-- The digits behind the first one.
module _ (run : List ℕ) (i : ℕ) (h : i < length (take (length run - 1) (drop 1 run))) where
  more : i + 1 < length run
  more = omega (arith, simp (length-take, length-drop) at h)

  next : get_or (take (length run - 1) (drop 1 run)) i 0 ≡ get_or run (i + 1) 0
  next =
      let k : i < length run - 1 = omega (arith, more) in
      let e : 1 + i ≡ i + 1 = omega arith in
      run_at run 1 (length run - 1) i k ∙ rw e refl

pub returns-then-run-gt10 : goal.returns-then-run-gt10
returns-then-run-gt10 c = λ v s e. omega (arith, digits-length 10 v, ap length e)

pub loop-byte-init : goal.loop-byte-init
loop-byte-init c =
    let run : List ℕ = c.args.run.now in
    let some : 0 < length run = grind arith in
    let lead : 1 < length run → get_or run 0 0 ≡ 48 → ⊥ = grind arith in
    rw c.from-sum.ensures (start run c.requires some (omega arith) lead)

pub overflow_mul-sum : goal.overflow_mul-sum
overflow_mul-sum c =
    let l = c.loop-byte in
    omega (arith, small l.sum (l.byte-index + 1) 10 (omega arith) l.invariant.size)

pub overflow_sub-byte : goal.overflow_sub-byte
overflow_sub-byte c =
    let run : List ℕ = c.args.run.now in
    let i : ℕ = c.loop-byte.byte-index in
    let h : i < length (take (length run - 1) (drop 1 run)) = c.loop-byte-test.true in
    rw (next run i h) (all_at run (i + 1) (more run i h) c.requires).0

pub overflow_add-sum : goal.overflow_add-sum
overflow_add-sum c =
    let l = c.loop-byte in
    let run : List ℕ = c.args.run.now in
    let h : l.byte-index < length (take (length run - 1) (drop 1 run)) = c.loop-byte-test.true in
    omega (arith, small l.sum (l.byte-index + 1) 10 (omega arith) l.invariant.size, next run l.byte-index h, c.type_inv.run (l.byte-index + 1))

pub loop-byte-preserved : goal.loop-byte-preserved
loop-byte-preserved c =
    let l = c.loop-byte in
    let run : List ℕ = c.args.run.now in
    let h : l.byte-index < length (take (length run - 1) (drop 1 run)) = c.loop-byte-test.true in
    let some : 0 < length run = omega arith in
    rw (c.from.ensures, next run l.byte-index h) (step run c.requires some (omega arith) l.sum (l.byte-index + 1) (omega arith) (more run l.byte-index h) l.invariant)

pub returns-in-empty : goal.returns-in-empty
returns-in-empty c = λ v s e. omega (arith, digits_some 9 v, ap length e, c.in-empty.len_below)

pub returns-in-48 : goal.returns-in-48
returns-in-48 c = needless_zero c.args.run.now c.in-48.len_at_least (omega arith)

pub returns-after-loop-byte : goal.returns-after-loop-byte
returns-after-loop-byte c =
    let l = c.loop-byte in
    let run : List ℕ = c.args.run.now in
    let some : 0 < length run = omega arith in
    let e : length (take (length run - 1) (drop 1 run)) ≡ length run - 1 = run_length run 1 (length run - 1) (omega arith) in
    let all : l.byte-index + 1 ≡ length run = omega arith in
    rw c.ok.ensures.value (read run c.requires some (omega arith) _ c.try_from.result l.sum (rw all at l.invariant) c.try_from.ensures)
