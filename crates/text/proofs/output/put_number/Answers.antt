-- The digits that are written are the number's, and they fit.
use Rattle.std.proofs.Common.{◌≡◌, ◌∙◌, sym, arith}
use Rattle.std.specs.Prelude.{Result, Ok, Err, IsOk, OnOk}
use Rattle.text.specs.Decimal.{decimal}
use Rattle.text.proofs.DecimalLaws.{same_decimal}
use Rattle.text.proofs.output.put_number.Goals as goal

on_ok : {T E P : Type 0} (r : Result T E) → IsOk r → OnOk r P → P
on_ok (Ok x) h p = p
on_ok (Err e) h p = cc

pub returns : goal.returns
returns g c =
    let x = c.args.x in
    let put = c.try_extend_from_slice-fits in
    let digits : c.as_bytes.result.now ≡ decimal x = c.as_bytes.ensures.value ∙ c.format.ensures.text ∙ sym (same_decimal x (omega arith)) in
    let ok : IsOk put.result = put.ensures.variant.1 (rw digits c.requires) in
    rw digits at (on_ok put.result ok put.ensures.ok)
