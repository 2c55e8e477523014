-- The line is put together in a vector that has room for it, and stands in the page from the place on.
use Rattle.std.proofs.Common.{◌≡◌, ◌∷◌, ◌++◌, ◌∙◌, ap, arith, length}
use Rattle.text.specs.Decimal.{fields}
use Rattle.text.specs.Lines.{newline}
use Rattle.text.proofs.OutputLaws.{line_length, put_made}
use Rattle.text.proofs.SizeLaws.{fields_within}
use Rattle.text.proofs.output.put_at.Goals as goal

pub put_line-requires : goal.put_line-requires
put_line-requires c = omega (arith, ap length c.new-line.ensures, fields_within c.args.words.now)

pub returns : goal.returns
returns c =
    let a = c.args in
    let line : c.put_line.new.out.items ≡ (a.letter ∷ fields a.words.now) ++ newline = rw c.new-line.ensures at c.put_line.ensures in
    let counted : c.len.result ≡ length ((a.letter ∷ fields a.words.now) ++ newline) = c.len.ensures.value ∙ ap length line in
    put_made _ c.copy_from_slice.new.self a.out.now a.at c.len.result (c.copy_from_slice.ensures.after ∙ c.as_slice.ensures.value ∙ line) counted
    (omega (arith, c.requires, counted, line_length a.letter a.words.now))
