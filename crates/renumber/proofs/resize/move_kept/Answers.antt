-- The kept inlets move as one run and the kept outlets as another, each recorded, the second where the first left off.
use Rattle.renumber.proofs.ResizeParts.{moved_both}
use Rattle.renumber.proofs.resize.move_kept.Goals as goal

pub returns-clause-words : goal.returns-clause-words
returns-clause-words c =
    moved_both
    (rw c.inlets_kept.ensures at c.move_ports.ensures)
    (rw c.outlets_kept.ensures at c.move_ports-2.ensures)
    (rw c.inlets_kept.ensures at c.record_moves.ensures.words)
    (rw (c.record_moves.ensures.next, c.inlets_kept.ensures, c.outlets_kept.ensures) at c.record_moves-2.ensures.words)
