-- The true counts of rule 7: live slots and live ports below a number. In a compaction that is also the number that a slot or a port gets.
use Rattle.std.specs.Prelude.{ℕ, List, get_or, eqb}
use Rattle.slabs.specs.Choice.{pick}
use Rattle.slabs.specs.Sums.{sum}
use Rattle.slabs.specs.NodeEntry.{slot_word}

-- 1 for a word that is not 0
unfoldable pub some : ℕ → ℕ
some word = pick (eqb word 0) 0 1

-- how many live slots stand below slot k
unfoldable pub live_slots : List ℕ → ℕ → ℕ
live_slots slots k = sum (λ j. some (slot_word slots j 1)) k

-- how many live ports stand below port p
unfoldable pub live_ports : List ℕ → ℕ → ℕ
live_ports owners p = sum (λ q. some (get_or owners q 0)) p
