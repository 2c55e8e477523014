-- After i words their fields stand behind the letter.
use Rattle.std.proofs.Common.{◌≡◌, ◌++◌, take}
use Rattle.text.specs.Decimal.{fields}
use Rattle.text.proofs.output.put_line.Given as goal

abbrev pub invariant-loop-word : goal.invariant-loop-word
invariant-loop-word g l = l.out.items ≡ l.initial.out.items ++ fields (take l.word-index l.words)
