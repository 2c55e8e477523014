-- What the code of resize and of the compactions needs beside a store that fits: room in the log, and that nothing refuses the change.
use Rattle.std.specs.Prelude.{ℕ, suc, ◌+◌, ◌*◌, ◌≤◌, ◌<◌, ◌≡◌, List, ◌++◌, true, false, length}
use Rattle.slabs.specs.NodeEntry.{width, node_entry}
use Rattle.slabs.specs.Links.{Inside, cut_run, wires_in}
use Rattle.slabs.specs.Slab.{head_of, at_hand, taken_first, taken_heads, taken_counters}
use Rattle.slabs.specs.declared.counters.Counters.{Counters}
use Rattle.slabs.specs.declared.node_entry.NodeMeta.{NodeMeta}
use Rattle.slabs.specs.declared.node_entry.NodeEntry.TheVariants.{Node}
use Rattle.edits.specs.Store.{Store}
use Rattle.edits.specs.Steps.{most, removed_links, removed_owners, removed_heads}
use Rattle.edits.specs.Fit.{SlotFits, StoreIs}
use Rattle.renumber.specs.Records.{record_width, logged}
use Rattle.renumber.specs.Moves.{removed_records, moved_run, moved_records}
use Rattle.renumber.specs.Resize.{is_in_place, new_size, records_needed, inlets_kept, outlets_kept, inlets_removed, outlets_removed, cut_removed, cut_wires, cut_records, outlet_run, inlets_into, outlets_into, changed_slots, changed_owners, in_place_owners, moved_into, reallocated_links, reallocated_records, resized, resize_records}
use Rattle.renumber.specs.declared.log.LogPlace.{LogPlace}
use Rattle.renumber.specs.declared.moves.Run.{Run}
use Rattle.renumber.specs.declared.resize.Change.{Change}

-- where the next record goes is in the log
pub record LogFits (log : List ℕ) (to : LogPlace) : Type 0 where
  pub at_inside : record_width * to.at ≤ length log
  pub few_records : length log ≤ record_width * 1048576

-- so many records have room
abbrev pub RecordRoom : List ℕ → LogPlace → ℕ → Type 0
RecordRoom log to records = (record_width * (to.at + records) ≤ length log) × (length log ≤ record_width * 1048576)

-- What cutting n removed ports from first on asks,
pub record CanCut (links log : List ℕ) (to : LogPlace) (first n : ℕ) : Type 0 where
  pub inside : first + n ≤ length links
  pub small : length links ≤ 1048576
  pub links_inside : Inside links
  pub recorded : RecordRoom log to n

-- and does.
pub record CutPorts (links log : List ℕ) (to : LogPlace) (first n : ℕ) (links' log' : List ℕ) (wires : ℕ) : Type 0 where
  pub cut : wires ≡ wires_in links first n
  pub links_after : links' ≡ cut_run links first n
  pub log_after : log' ≡ logged log to.at to.place (removed_records links first n)

-- What carrying a run of ports asks.
pub record CanMove (links : List ℕ) (run : Run) : Type 0 where
  pub from_inside : run.from + run.n ≤ length links
  pub to_inside : run.to + run.n ≤ length links
  pub small : length links ≤ 1048576
  pub links_inside : Inside links

-- A change of a step that fits to counts that a step may have: no sum of them wraps.
pub record SmallChange (ch : Change) : Type 0 where
  pub few_inlets : ch.inlets ≤ most
  pub few_outlets : ch.outlets ≤ most
  pub meta_fits : SlotFits 32768 1048576 ch.meta

-- nothing refuses this change of a live step
pub record CanChange (s : Store) (log : List ℕ) (to : LogPlace) (ch : Change) : Type 0 where
  pub below : ch.node < s.counters.nodemark
  pub is : node_entry s.slots ch.node ≡ Node ch.meta
  pub few_inlets : ch.inlets ≤ most
  pub few_outlets : ch.outlets ≤ most
  pub recorded : RecordRoom log to (records_needed ch)
  pub sized : is_in_place ch ≡ false → new_size ch ≤ length s.heads
  pub slab : is_in_place ch ≡ false → at_hand s.heads s.counters.portmark (length s.links) (new_size ch) ≡ true

-- The parts of a resize: what each asks, and what it does. First the removed ports are cut,
pub record CanCutRemoved (links log : List ℕ) (to : LogPlace) (ch : Change) : Type 0 where
  pub small_change : SmallChange ch
  pub ends : ch.meta.first + ch.meta.capacity ≤ length links
  pub small : length links ≤ 1048576
  pub links_inside : Inside links
  pub recorded : RecordRoom log to (inlets_removed ch + outlets_removed ch)

pub record CutRemoved (links log : List ℕ) (to : LogPlace) (ch : Change) (links' log' : List ℕ) (wires : ℕ) : Type 0 where
  pub cut : wires ≡ cut_wires links ch
  pub links_after : links' ≡ cut_removed links ch
  pub log_after : log' ≡ logged log to.at to.place (cut_records links ch)

-- then in place the kept outlets move,
pub record CanShift (links owners log : List ℕ) (to : LogPlace) (ch : Change) : Type 0 where
  pub small_change : SmallChange ch
  pub few : ch.node < 65536
  pub in_place : ch.inlets + ch.outlets ≤ ch.meta.capacity
  pub ends : ch.meta.first + ch.meta.capacity ≤ length links
  pub equal : length owners ≡ length links
  pub small : length links ≤ 1048576
  pub links_inside : Inside links
  pub recorded : RecordRoom log to (outlets_kept ch)

pub record Shifted (links owners log : List ℕ) (to : LogPlace) (ch : Change) (links' owners' log' : List ℕ) : Type 0 where
  pub links_after : links' ≡ moved_run links (outlet_run ch) (outlets_kept ch)
  pub owners_after : owners' ≡ in_place_owners owners ch
  pub log_after : log' ≡ logged log to.at to.place (moved_records (outlet_run ch))

-- or the kept ports move into the new slab that starts at first,
pub record CanMoveKept (links log : List ℕ) (to : LogPlace) (ch : Change) (first : ℕ) : Type 0 where
  pub small_change : SmallChange ch
  pub from_inside : ch.meta.first + ch.meta.capacity ≤ length links
  pub to_inside : first + ch.inlets + ch.outlets ≤ length links
  pub small : length links ≤ 1048576
  pub links_inside : Inside links
  pub recorded : RecordRoom log to (inlets_kept ch + outlets_kept ch)

pub record MovedKept (links log : List ℕ) (to : LogPlace) (ch : Change) (first : ℕ) (links' log' : List ℕ) : Type 0 where
  pub links_after : links' ≡ moved_into links ch first
  pub log_after : log' ≡ logged log to.at to.place (moved_records (inlets_into ch first) ++ moved_records (outlets_into ch first))

-- and the old slab, where there is one, is freed,
pub record CanFreeOld (links owners heads : List ℕ) (m : NodeMeta) : Type 0 where
  pub sized : m.capacity ≤ length heads
  pub inside : m.first + m.capacity ≤ length links
  pub owned : m.first + m.capacity ≤ length owners
  pub small : length links ≤ 1048576
  pub links_inside : Inside links

pub record FreedOld (links owners heads : List ℕ) (m : NodeMeta) (links' owners' heads' : List ℕ) : Type 0 where
  pub links_after : links' ≡ removed_links links heads m
  pub owners_after : owners' ≡ removed_owners owners m
  pub heads_after : heads' ≡ removed_heads heads m

-- after the new one is taken.
pub record CanReallocate (slots links owners heads log : List ℕ) (c : Counters) (to : LogPlace) (ch : Change) : Type 0 where
  pub small_change : SmallChange ch
  pub few : ch.node < 65536
  pub slot_inside : width * ch.node + width ≤ length slots
  pub ends : ch.meta.first + ch.meta.capacity ≤ length links
  pub equal : length owners ≡ length links
  pub small : length links ≤ 1048576
  pub links_inside : Inside links
  pub old_sized : ch.meta.capacity ≤ length heads
  pub sized : new_size ch ≤ length heads
  pub slab : at_hand heads c.portmark (length links) (new_size ch) ≡ true
  pub head_inside : (first : ℕ) → head_of heads (new_size ch) ≡ suc first → first + new_size ch ≤ length links
  pub recorded : RecordRoom log to (inlets_kept ch + outlets_kept ch)

pub record Reallocated (slots links owners heads log : List ℕ) (c : Counters) (to : LogPlace) (ch : Change) (slots' links' owners' heads' log' : List ℕ) (r : Counters) : Type 0 where
  pub counters_after : r ≡ taken_counters heads c (new_size ch)
  pub slots_after : slots' ≡ changed_slots slots ch (taken_first heads c.portmark (new_size ch)) (new_size ch)
  pub links_after : links' ≡ reallocated_links links heads c.portmark ch
  pub owners_after : owners' ≡ removed_owners (changed_owners owners ch (taken_first heads c.portmark (new_size ch))) ch.meta
  pub heads_after : heads' ≡ removed_heads (taken_heads links heads (new_size ch)) ch.meta
  pub log_after : log' ≡ logged log to.at to.place (reallocated_records heads c.portmark ch)

-- What a resize does, in every lent word.
pub record Resized (s : Store) (log : List ℕ) (to : LogPlace) (ch : Change) (slots links owners heads log' : List ℕ) (r : Counters) : Type 0 where
  pub store_after : StoreIs (resized s ch) slots links owners heads r
  pub log_after : log' ≡ logged log to.at to.place (resize_records s ch)
