-- Laws of the page that is blank before it is written on.
use Prim.Native.Nat.{ℕ, ◌-◌, ◌≤◌}
use mathlib.Core.Path.{◌≡◌, ap, ◌∙◌}
use mathlib.Core.List.{List}
use native.Mathlib.Omega.{arith}
use lib.ListN.{length, take, length-append, length-take}
use Rattle.text.specs.Lines.{Desk, Printed}
use Rattle.text.specs.Parts.{Written}
use Rattle.text.specs.declared.Page.{Page}
use Rattle.text.proofs.ZeroLaws.{blank, blank_drop}

-- What is written on a blank page is printed.
pub page_printed : {text line bytes : List ℕ} {len : ℕ} → Desk text line → length line ≤ 32768 → Written line (blank 32768) bytes len → Printed text (record { bytes = bytes; len = len })
page_printed {text} {line} {bytes} {len} right room written =
    record {
      line = line;
      right = right;
      counted = written.counted;
      room = room;
      page_is = written.wrote ∙ rw (blank_drop len 32768, written.counted);
    }

module _ {text : List ℕ} {page : Page} (printed : Printed text page) where
  -- What is printed is within the page,
  pub printed_within : page.len ≤ length page.bytes
  printed_within =
      omega (arith, printed.counted, printed.room, ap length printed.page_is, length-append printed.line (blank (32768 - length printed.line)))

  -- and is as long as it says.
  pub printed_length : length (take page.len page.bytes) ≡ page.len
  printed_length = omega (arith, printed_within, length-take page.len page.bytes)
