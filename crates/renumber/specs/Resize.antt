-- Resize, call 3 (document 01, "Orders" and the rules of resize and of its records).
use Rattle.std.specs.Prelude.{ℕ, suc, zero, ◌+◌, ◌-◌, ◌*◌, min, List, ◌++◌, Bool, true, false, length, eqb, ltb}
use Rattle.slabs.specs.Choice.{pick}
use Rattle.slabs.specs.NodeEntry.{set_entry}
use Rattle.slabs.specs.Links.{cut_run, wires_in}
use Rattle.slabs.specs.Counters.{links_uncounted, ports_recounted}
use Rattle.slabs.specs.Slab.{at_hand, taken_first, taken_links, taken_heads, taken_counters, filled, owners_written}
use Rattle.slabs.specs.declared.counters.Counters.{Counters}
use Rattle.slabs.specs.declared.node_entry.NodeEntry.TheVariants.{Node}
use Rattle.edits.specs.Store.{Store, node_at, on_node}
use Rattle.edits.specs.Steps.{most, removed_links, removed_owners, removed_heads}
use Rattle.renumber.specs.Records.{Rec}
use Rattle.renumber.specs.Moves.{removed_records, moved_run, moved_records}
use Rattle.edits.specs.Answer.{Answer}
use Rattle.edits.specs.declared.answer.Refusal.TheVariants.{NoNode, TooManyPorts, SlabTooLarge, NoSlab, LogFull}
use Rattle.edits.specs.Answer.{done}
use Rattle.std.specs.Prelude.{Err}
use Rattle.renumber.specs.declared.moves.Run.{Run}
use Rattle.renumber.specs.declared.resize.Change.{Change}

-- doubled, unless it is n or more
unfoldable pub grown_once : ℕ → ℕ → ℕ
grown_once n size = pick (ltb size n) (size * 2) size

-- 1, doubled so k times
unfoldable pub grown : ℕ → ℕ → ℕ
grown n zero = 1
grown n (suc k) = grown_once n (grown n k)

-- the least power of two that is n or more, and 1 for 0. No total is over 2 to the 15th
abbrev pub slab_size : ℕ → ℕ
slab_size n = grown n 15

-- the two counts stay
unfoldable pub is_idle : Change → Bool
is_idle ch = pick (eqb ch.meta.inlets ch.inlets) (eqb ch.meta.outlets ch.outlets) false

-- the new total is from 1 to capacity - 1
unfoldable pub is_in_place : Change → Bool
is_in_place ch = pick (eqb (ch.inlets + ch.outlets) 0) false (ltb (ch.inlets + ch.outlets) ch.meta.capacity)

abbrev pub inlets_kept : Change → ℕ
inlets_kept ch = min ch.meta.inlets ch.inlets

abbrev pub outlets_kept : Change → ℕ
outlets_kept ch = min ch.meta.outlets ch.outlets

abbrev pub inlets_removed : Change → ℕ
inlets_removed ch = ch.meta.inlets - ch.inlets

abbrev pub outlets_removed : Change → ℕ
outlets_removed ch = ch.meta.outlets - ch.outlets

-- how many records are needed
unfoldable pub records_needed : Change → ℕ
records_needed ch = pick (is_in_place ch) (inlets_removed ch + ch.meta.outlets) (ch.meta.inlets + ch.meta.outlets)

-- 7 where fewer remain
unfoldable pub log_answer : ℕ → Change → Answer
log_answer left ch = pick (ltb left (records_needed ch)) (Err LogFull) (done (records_needed ch) 0 0)

-- a live step: unchanged, then in place 7 alone, else 4, 6, 7
unfoldable pub change_answer : ℕ → List ℕ → ℕ → ℕ → Change → Answer
change_answer room heads mark left ch =
    pick (is_idle ch)
    (done 0 0 0)
    (pick (is_in_place ch)
    (log_answer left ch)
    (pick (ltb (length heads) (slab_size (ch.inlets + ch.outlets)))
    (Err SlabTooLarge)
    (pick (at_hand heads mark room (slab_size (ch.inlets + ch.outlets))) (log_answer left ch) (Err NoSlab))))

-- call 3: 3, 1, then as above
unfoldable pub resize_answer : List ℕ → ℕ → List ℕ → Counters → ℕ → ℕ → ℕ → ℕ → Answer
resize_answer slots room heads c left node inlets outlets =
    pick (ltb most inlets)
    (Err TooManyPorts)
    (pick (ltb most outlets)
    (Err TooManyPorts)
    (on_node (node_at slots c.nodemark node)
    (λ m. change_answer room heads c.portmark left (record { node = node; meta = m; inlets = inlets; outlets = outlets }))
    (Err (NoNode node))))

-- the first of the removed inlets, and of the removed outlets
abbrev pub inlets_from : Change → ℕ
inlets_from ch = ch.meta.first + inlets_kept ch

abbrev pub outlets_from : Change → ℕ
outlets_from ch = ch.meta.first + ch.meta.inlets + outlets_kept ch

-- the link words once the removed inlets are cut, and then the removed outlets
unfoldable pub cut_inlets : List ℕ → Change → List ℕ
cut_inlets links ch = cut_run links (inlets_from ch) (inlets_removed ch)

unfoldable pub cut_removed : List ℕ → Change → List ℕ
cut_removed links ch = cut_run (cut_inlets links ch) (outlets_from ch) (outlets_removed ch)

-- how many wires that cuts
unfoldable pub cut_wires : List ℕ → Change → ℕ
cut_wires links ch = wires_in links (inlets_from ch) (inlets_removed ch) + wires_in (cut_inlets links ch) (outlets_from ch) (outlets_removed ch)

-- its records
unfoldable pub cut_records : List ℕ → Change → List Rec
cut_records links ch =
    removed_records links (inlets_from ch) (inlets_removed ch) ++ removed_records (cut_inlets links ch) (outlets_from ch) (outlets_removed ch)

-- In place every kept outlet moves, the lowest first where inlets fall, else the highest first.
abbrev pub outlet_run : Change → Run
outlet_run ch = record { from = ch.meta.first + ch.meta.inlets; to = ch.meta.first + ch.inlets; n = outlets_kept ch; rising = ltb ch.inlets ch.meta.inlets }

-- Into a new slab that starts at first every kept inlet moves, then every kept outlet, by rising number.
abbrev pub inlets_into : Change → ℕ → Run
inlets_into ch first = record { from = ch.meta.first; to = first; n = inlets_kept ch; rising = true }

abbrev pub outlets_into : Change → ℕ → Run
outlets_into ch first = record { from = ch.meta.first + ch.meta.inlets; to = first + ch.inlets; n = outlets_kept ch; rising = true }

-- the slot of the changed step
unfoldable pub changed_slots : List ℕ → Change → ℕ → ℕ → List ℕ
changed_slots slots ch first capacity =
    set_entry slots ch.node (Node (record { first = first; inlets = ch.inlets; outlets = ch.outlets; capacity = capacity }))

-- the owner words of its ports, from first on
abbrev pub changed_owners : List ℕ → Change → ℕ → List ℕ
changed_owners owners ch first = owners_written owners ch.node first ch.inlets ch.outlets

-- in place, the ports of the old counts that are left over are nobody's
unfoldable pub in_place_owners : List ℕ → Change → List ℕ
in_place_owners owners ch =
    filled (changed_owners owners ch ch.meta.first) (ch.meta.first + (ch.inlets + ch.outlets)) (ch.meta.inlets + ch.meta.outlets - (ch.inlets + ch.outlets)) 0

-- both ways the wires of removed ports are uncounted, and the step's ports recounted
unfoldable pub recounted : Counters → List ℕ → Change → Counters
recounted c links ch = ports_recounted (links_uncounted c (cut_wires links ch)) (ch.meta.inlets + ch.meta.outlets) (ch.inlets + ch.outlets)

unfoldable pub resized_in_place : Store → Change → Store
resized_in_place s ch =
    record {
      slots = changed_slots s.slots ch ch.meta.first ch.meta.capacity;
      links = moved_run (cut_removed s.links ch) (outlet_run ch) (outlets_kept ch);
      owners = in_place_owners s.owners ch;
      heads = s.heads;
      counters = recounted s.counters s.links ch;
    }

-- the size of the new slab
abbrev pub new_size : Change → ℕ
new_size ch = slab_size (ch.inlets + ch.outlets)

-- the link words once the kept ports are moved into a slab that starts at first
unfoldable pub moved_into : List ℕ → Change → ℕ → List ℕ
moved_into links ch first = moved_run (moved_run links (inlets_into ch first) (inlets_kept ch)) (outlets_into ch first) (outlets_kept ch)

-- from link words in which the removed ports are cut: the new slab is taken, the kept ports move, and then the old slab, where there is
-- one, is freed
unfoldable pub reallocated_links : List ℕ → List ℕ → ℕ → Change → List ℕ
reallocated_links links heads mark ch =
    removed_links
    (moved_into (taken_links links heads (new_size ch)) ch (taken_first heads mark (new_size ch)))
    (taken_heads links heads (new_size ch))
    ch.meta

unfoldable pub reallocated_records : List ℕ → ℕ → Change → List Rec
reallocated_records heads mark ch =
    moved_records (inlets_into ch (taken_first heads mark (new_size ch))) ++ moved_records (outlets_into ch (taken_first heads mark (new_size ch)))

unfoldable pub resized_into : Store → Change → Store
resized_into s ch =
    let first : ℕ = taken_first s.heads s.counters.portmark (new_size ch) in
    record {
      slots = changed_slots s.slots ch first (new_size ch);
      links = reallocated_links (cut_removed s.links ch) s.heads s.counters.portmark ch;
      owners = removed_owners (changed_owners s.owners ch first) ch.meta;
      heads = removed_heads (taken_heads (cut_removed s.links ch) s.heads (new_size ch)) ch.meta;
      counters = taken_counters s.heads (recounted s.counters s.links ch) (new_size ch);
    }

unfoldable pub resized : Store → Change → Store
resized s ch = pick (is_in_place ch) (resized_in_place s ch) (resized_into s ch)

unfoldable pub resize_records : Store → Change → List Rec
resize_records s ch =
    cut_records s.links ch
    ++ pick (is_in_place ch) (moved_records (outlet_run ch)) (reallocated_records s.heads s.counters.portmark ch)
