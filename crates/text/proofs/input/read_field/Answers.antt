-- A number is read, and the byte behind it decides.
use Rattle.std.proofs.Common.{◌≡◌, ◌<◌, arith, length, get_or}
use Rattle.text.proofs.LineLaws.{other_end}
use Rattle.text.proofs.input.read_field.Goals as goal

pub returns-else-eq : goal.returns-else-eq
returns-else-eq c =
    let a = c.args in
    let other : c.in_ok-x.next < length a.s.now → get_or a.s.now c.in_ok-x.next 0 ≡ a.end → ⊥ = grind (arith, c.get.ensures.lookup, c.eq.ensures, c.if-eq.ensures) in
    other_end a.s.now a.at a.end c.in_ok-x.x c.in_ok-x.next c.in_ok-x.ensures c.requires.1 other
