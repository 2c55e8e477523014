-- Ports that are removed or get new numbers (document 01, the records of resize): what their link words become, and the records.
use Rattle.std.specs.Prelude.{ℕ, suc, zero, ◌+◌, ◌-◌, List, get_or, set, eqb}
use Rattle.slabs.specs.Choice.{pick}
use Rattle.slabs.specs.Links.{cut_run}
use Rattle.renumber.specs.Records.{Rec, rec, listed}
use Rattle.renumber.specs.declared.moves.Run.{Run}

-- a removed port, with the partner that it has at that moment
unfoldable pub removed_record : List ℕ → ℕ → Rec
removed_record links port = pick (eqb (get_or links port 0) 0) (rec 1 port 0) (rec 2 port (get_or links port 0 - 1))

-- n removed ports from first on, cut one after the other
unfoldable pub removed_records : List ℕ → ℕ → ℕ → List Rec
removed_records links first n = listed (λ i. removed_record (cut_run links first i) (first + i)) n

-- the link words with a port's word carried from old to new, where old and new differ
unfoldable pub carried : List ℕ → ℕ → ℕ → List ℕ
carried links old new = set (set links old 0) new (get_or links old 0)

-- and with its partner's word following; a port that is moved onto itself stays as it is
unfoldable pub moved : List ℕ → ℕ → ℕ → List ℕ
moved links old new =
    pick (eqb old new)
    links
    (pick (eqb (get_or links old 0) 0) (carried links old new) (set (carried links old new) (get_or links old 0 - 1) (new + 1)))

-- which port of a run goes at step i
unfoldable pub turn : Run → ℕ → ℕ
turn run i = pick run.rising i (run.n - 1 - i)

-- the link words after i steps of a run
unfoldable pub moved_run : List ℕ → Run → ℕ → List ℕ
moved_run links run zero = links
moved_run links run (suc i) = moved (moved_run links run i) (run.from + turn run i) (run.to + turn run i)

-- the records of a run
unfoldable pub moved_records : Run → List Rec
moved_records run = listed (λ i. rec 3 (run.from + turn run i) (run.to + turn run i)) run.n
