-- The run of digits at the place is a number's if any number stands there.
use Rattle.std.proofs.Common.{◌≡◌, ◌+◌, ◌-◌, arith}
use Rattle.text.proofs.TextLaws.{no_value, value_at}
use Rattle.text.proofs.numbers.read_number.Goals as goal

pub returns-in_err-value : goal.returns-in_err-value
returns-in_err-value c =
    let a = c.args in
    let n = c.count_digits.result in
    let e : a.at + n - a.at ≡ n = omega arith in
    rw c.from_residual.ensures (no_value a.s.now a.at n c.count_digits.ensures (rw e at c.in_err-value.ensures))

pub returns : goal.returns
returns c =
    let a = c.args in
    let n = c.count_digits.result in
    let e : a.at + n - a.at ≡ n = omega arith in
    value_at a.s.now a.at n c.count_digits.ensures c.in_ok-value.field-0 (omega arith) (rw e at c.in_ok-value.ensures)
