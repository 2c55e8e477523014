-- Each of the two runs of removed ports is cut and recorded by its call, the second where the first left off.
use Rattle.renumber.proofs.ResizeParts.{cut_both}
use Rattle.renumber.proofs.resize.cut_removed.Goals as goal

pub returns-clause-words : goal.returns-clause-words
returns-clause-words c =
    cut_both
    (rw (c.inlets_kept.ensures, c.inlets_removed.ensures) at c.remove_ports-wires.ensures.words)
    (rw (c.remove_ports-wires.ensures.next, c.inlets_removed.ensures, c.outlets_kept.ensures, c.outlets_removed.ensures) at c.remove_ports.ensures.words)
