-- The removed ports are cut, and the kept ones are shifted or moved into a new slab: a store that fits, and what each part leaves, give what the next part asks.
use mathlib.Core.Path.{sym, ◌∙◌, ap}
use native.Mathlib.Omega.{arith}
use Rattle.slabs.specs.declared.counters.Counters.{Counters}
use Rattle.renumber.proofs.ResizeParts.{small_change, few_live, can_shift, resized_in_place_lem, can_reallocate, resized_into_lem}
use Rattle.renumber.proofs.resize.resize.Goals as goal

pub ports_recounted-cut-requires : goal.ports_recounted-cut-requires
ports_recounted-cut-requires c =
    omega (arith, ap (λ (r : Counters). r.ports) c.links_uncounted.ensures, few_live c.requires.0 c.requires.1, small_change c.requires.0 c.requires.1)

pub shift-requires : goal.shift-requires
shift-requires c =
    rw c.cut_removed-wires.ensures.next
    (can_shift c.requires.0 c.requires.1 c.cut_removed-wires.ensures.words (sym c.is_in_place.ensures ∙ c.if-is_in_place.true))

pub returns-then-is_in_place-clause-words : goal.returns-then-is_in_place-clause-words
returns-then-is_in_place-clause-words c =
    resized_in_place_lem c.requires.0 c.requires.1 c.cut_removed-wires.ensures.words (sym c.is_in_place.ensures ∙ c.if-is_in_place.true)
    (rw c.links_uncounted.ensures at c.ports_recounted-cut.ensures)
    (rw c.cut_removed-wires.ensures.next at c.shift.ensures.words) c.write_change.ensures

pub reallocate-requires : goal.reallocate-requires
reallocate-requires c =
    rw c.cut_removed-wires.ensures.next
    (can_reallocate c.requires.0 c.requires.1 c.cut_removed-wires.ensures.words (rw c.links_uncounted.ensures at c.ports_recounted-cut.ensures)
    (sym c.is_in_place.ensures ∙ c.if-is_in_place.false))

pub returns-clause-words : goal.returns-clause-words
returns-clause-words c =
    resized_into_lem c.requires.0 c.requires.1 c.cut_removed-wires.ensures.words (rw c.links_uncounted.ensures at c.ports_recounted-cut.ensures)
    (sym c.is_in_place.ensures ∙ c.if-is_in_place.false)
    (rw c.cut_removed-wires.ensures.next at c.reallocate.ensures.words)
