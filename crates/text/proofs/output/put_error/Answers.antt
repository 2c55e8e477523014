-- The line of an error fits.
use Rattle.std.proofs.Common.{[], ◌∷◌, arith}
use Rattle.text.specs.Lines.{error_line}
use Rattle.text.proofs.OutputLaws.{line_length, put_front}
use Rattle.text.proofs.SizeLaws.{error_fits}
use Rattle.text.proofs.output.put_error.Goals as goal

pub put_at-requires : goal.put_at-requires
put_at-requires c =
    let x = c.args.line in
    (omega (arith, line_length 69 (x ∷ []), error_fits x), omega arith)

pub returns : goal.returns
returns c = put_front (error_line c.args.line) c.args.out.now _ _ (omega (arith, error_fits c.args.line)) c.put_at.ensures
