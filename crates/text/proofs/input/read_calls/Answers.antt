use Prim.Native.Nat.{ℕ, ◌+◌, ◌*◌, ◌≤◌, ◌<◌}
use mathlib.Core.Path.{◌≡◌, refl, sym, ◌∙◌, ap}
use mathlib.Core.List.{List, [], ◌∷◌, ◌++◌, append_assoc, append-nil}
use native.Mathlib.Omega.{arith}
use lib.ListN.{length, drop, length-append, length-drop, drop_of_length-le}
use Rattle.calls.specs.declared.Call.{Call}
use Rattle.text.specs.declared.input.BadLine.{BadLine}
use Rattle.text.specs.Lines.{NoLine, call_line, call_text, call_words}
use Rattle.std.specs.Prelude.{None, Result, Err}
use Rattle.std.specs.Result.{result_ok}
use Rattle.std.proofs.lemmas.Result.{err_from_is_err_and}
use Rattle.text.specs.Parts.{LineAt, Front, BadRead, CallsRead}
use Rattle.text.proofs.LineLaws.{line_ahead}
use Rattle.text.proofs.CallLaws.{words_of, text_snoc, words_snoc, small_snoc, words_length, set_row_behind, front_made}
use Rattle.slabs.specs.Rows.{set_row}
use Rattle.text.proofs.input.read_calls.Invariants.{Passed}
use Rattle.text.proofs.input.read_calls.Goals as goal

passed_none : (s words : List ℕ) → Passed s words words 0 0
unfolding call_text call_words
passed_none s words =
    record { calls = []; says = refl; small = tt; counted = refl; few = omega arith; within = omega arith; wrote = refl }

passed_more :
    (s words₀ words words' : List ℕ) (at n : ℕ) (call : Call) (next : ℕ) →
    n < 256 →
    LineAt s at call next →
    words' ≡ set_row words 4 n (words_of call) →
    Passed s words₀ words at n →
    Passed s words₀ words' next (n + 1)
passed_more s words₀ words words' at n call next h line e p =
    record {
      calls = p.calls ++ (call ∷ []);
      says =
          p.says
          ∙ ap (λ (l : List ℕ). call_text p.calls ++ l) line.says
          ∙ sym (append_assoc (call_text p.calls) (call_line call) (drop next s))
          ∙ ap (λ (l : List ℕ). l ++ drop next s) (sym (text_snoc p.calls call));
      small = small_snoc p.calls call p.small line.small;
      counted = simp length-append (omega arith);
      few = omega arith;
      within = line.within;
      wrote = e ∙ rw (p.wrote, set_row_behind (call_words p.calls) (words_of call) words₀ 4 n (omega (arith, p.counted, words_length p.calls)), words_snoc, next_row) refl;
    }
  where
    next_row : 4 * (n + 1) ≡ 4 * n + 4
    next_row = omega arith

module _ (s words₀ words : List ℕ) (at n : ℕ) (p : Passed s words₀ words at n) where
  front : Front p.calls words₀ words
  front = front_made p.calls words₀ words (rw (sym p.counted) p.wrote)

  bad_read : (line : ℕ) → line ≡ n + 1 → at < length s → (n < 256 → NoLine (drop at s)) → BadRead s words₀ words line
  bad_read line e h f =
      record {
        bad =
            record {
              before = p.calls;
              rest = drop at s;
              says = p.says;
              small = p.small;
              counted = omega (arith, p.counted);
              more = λ z. omega (arith, ap length z, length-drop at s);
              bad = λ k. f (omega (arith, p.counted));
              few = omega (arith, p.counted, p.few);
            };
        kept = front;
      }

  calls_read : length s ≤ at → CallsRead s words₀ words n
  calls_read h =
      record {
        calls = p.calls;
        good =
            record {
              says = p.says ∙ rw (drop_of_length-le s h) (append-nil (call_text p.calls));
              small = p.small;
              few = omega (arith, p.counted, p.few);
            };
        counted = p.counted;
        kept = front;
      }

same_line : {T : Type 0} (r : Result T BadLine) (first second : BadLine) → r ≡ Err first → r ≡ Err second → first.line ≡ second.line
same_line r first second e f = cc

pub loop-at-init : goal.loop-at-init
loop-at-init c = passed_none _ _

pub returns-then-n-eq-MOST_CALLS : goal.returns-then-n-eq-MOST_CALLS
returns-then-n-eq-MOST_CALLS c =
    bad_read _ _ _ _ _ c.loop-at.invariant _ refl (omega arith) (λ h. absurd (omega arith))

pub returns-in_err-call : goal.returns-in_err-call
returns-in_err-call c =
    let p = err_from_is_err_and c.from_residual.result c.from_residual.ensures.1 in
    let none : NoLine (drop c.loop-at.at c.args.s.now) = rw (c.ok_or.ensures.ok_part, c.in_err-call.was) at c.read_line.ensures in
    let nothing : c.read_line.result ≡ None = c.ok_or.ensures.ok_part ∙ ap result_ok c.in_err-call.was in
    let line = same_line c.ok_or.result _ _ c.in_err-call.was (rw nothing at c.ok_or.ensures.value) in
    rw (p.1, p.2) (bad_read _ _ _ _ _ c.loop-at.invariant _ line (omega arith) (λ h. none))

pub loop-at-smaller : goal.loop-at-smaller
loop-at-smaller c =
    let l = c.loop-at in
    let line : LineAt c.args.s.now l.at c.in_ok-call.call c.in_ok-call.next = rw (c.ok_or.ensures.ok_part, c.in_ok-call.was) at c.read_line.ensures in
    omega (arith, line_ahead c.args.s.now l.at c.in_ok-call.call c.in_ok-call.next l.invariant.within line, line.within)

pub loop-at-preserved : goal.loop-at-preserved
loop-at-preserved c =
    let l = c.loop-at in
    let line : LineAt c.args.s.now l.at c.in_ok-call.call c.in_ok-call.next = rw (c.ok_or.ensures.ok_part, c.in_ok-call.was) at c.read_line.ensures in
    passed_more _ _ _ _ _ _ c.in_ok-call.call c.in_ok-call.next (omega arith) line c.write_row.ensures l.invariant

pub returns : goal.returns
returns c = calls_read _ _ _ _ _ c.loop-at.invariant c.loop-at-test.false
