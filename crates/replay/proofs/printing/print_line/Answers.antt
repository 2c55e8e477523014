-- Five numbers have room in the line.
use Rattle.std.proofs.Common.{◌+◌, ◌≤◌, ap, arith, length, take, length-take}
use Rattle.arrayvec.specs.ArrayVec.{array_vec_len}
use Rattle.text.specs.Decimal.{fields}
use Rattle.text.proofs.SizeLaws.{fields_within}
use Rattle.replay.proofs.printing.print_line.Goals as goal

pub put_line-requires : goal.put_line-requires
put_line-requires g c =
    let words = take c.min.result c.args.words.now in
    let fits : array_vec_len c.new-line.result + length (fields words) + 2 ≤ 64
    = omega (arith, ap length c.new-line.ensures, fields_within words, length-take c.min.result c.args.words.now, c.min.ensures) in
    (omega arith, fits)
