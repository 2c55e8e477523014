-- What is counted are the digits in front of the next 11 bytes.
use Rattle.std.proofs.Common.{◌≡◌, ℕ, ◌+◌, ◌-◌, ◌≤◌, List, ◌∙◌, sym, arith, rules, tests, length, take, drop, length-drop}
use Prim.Native.Nat.{min}
use native.Mathlib.Decide.{dec_le}
use Rattle.std.proofs.lemmas.Iterator.{YieldsList-from_slice}
use Rattle.std.proofs.lemmas.Iterator.Consumers.{count_from_yields_List}
use Rattle.std.proofs.lemmas.Iterator.Search.{YieldsList-from_take_while}
use Rattle.std.proofs.lemmas.List.{take_all}
use Rattle.std.proofs.lemmas.List.Folds.{length-prefix_len}
use Rattle.std.specs.Char.{is_ascii_digit}
use Rattle.text.proofs.TextLaws.{digits_counted}
use Rattle.text.proofs.numbers.count_digits.Goals as goal

-- Eleven bytes from a place on, or fewer where the text ends.
next_eleven : (s : List ℕ) (at end : ℕ) → end ≡ min (length s) (at + 11) → take (end - at) (drop at s) ≡ take 11 (drop at s)
next_eleven s at end e = go (dec_le (at + 11) (length s))
  where
    go : Dec (at + 11 ≤ length s) → take (end - at) (drop at s) ≡ take 11 (drop at s)
    go (yes h) = let n : end - at ≡ 11 = omega arith in rw n
    go (no h) =
        let all : length (drop at s) ≤ end - at = simp length-drop (omega arith) in
        let few : length (drop at s) ≤ 11 = simp length-drop (omega arith) in
        take_all (end - at) (drop at s) all ∙ sym (take_all 11 (drop at s) few)

pub returns : goal.returns
returns c =
    let a = c.args in
    let rest = c.iter.ensures.rest ∙ next_eleven a.s.now a.at c.min-end.result c.min-end.ensures in
    digits_counted a.s.now a.at c.count.result c.requires
    (count_from_yields_List c.take_while.result _ c.count.ensures.ran
    (YieldsList-from_take_while _ is_ascii_digit (YieldsList-from_slice (take 11 (drop a.at a.s.now)) (rw c.take_while.ensures.source rest)) c.take_while.ensures.closure c.take_while.ensures.done (λ x b q k. search (rules, tests)))
    ∙ length-prefix_len is_ascii_digit (take 11 (drop a.at a.s.now)))
