-- What is known of a resize or a compaction that is answered with done: its records have room in the log, and how many they are.
use Prim.Native.Nat.{ℕ, ◌≤◌}
use mathlib.Core.Path.{◌≡◌, sym, ap}
use mathlib.Core.List.{List}
use mathlib.Core.Bool.{false}
use native.Mathlib.Omega.{arith}
use lib.ListN.{length}
use borrow.Author.Tests.{le-ltb}
use Rattle.slabs.specs.declared.counters.Counters.{Counters}
use Rattle.slabs.specs.declared.node_entry.NodeMeta.{NodeMeta}
use Rattle.slabs.specs.declared.node_entry.NodeEntry.TheVariants.{Node}
use Rattle.edits.specs.Store.{Store, store_of, node_at}
use Rattle.renumber.specs.Resize.{is_idle, resize_answer, resize_records, records_needed}
use Rattle.renumber.specs.declared.resize.Change.{Change}
use Rattle.renumber.proofs.AnswerLaws.{node_at_live, resize_done, change_done}
use Rattle.renumber.proofs.ResizeLaws.{resize_records-length}
use Rattle.edits.specs.Answer.{is_done}
use Rattle.edits.specs.Counts.{live_slots, live_ports}
use Rattle.edits.specs.Fit.{Fit}
use Rattle.std.specs.Prelude.{Ok}
use Rattle.renumber.specs.Compact.{compact_answer, node_records, port_records}
use Rattle.renumber.specs.Packing.{CanPackNodes}
use Rattle.renumber.specs.Room.{LogFits, RecordRoom, CanChange}
use Rattle.renumber.specs.declared.log.LogPlace.{LogPlace}
use Rattle.renumber.proofs.PackLaws.{fits_wider, node_records-length, port_records-length}
use Rattle.calls.specs.Call.{remaining}

-- No more records are written than remain,
enough : (count left : ℕ) {values : ℕ × ℕ × ℕ} → compact_answer count left ≡ Ok values → count ≤ left
unfolding compact_answer
enough count left d = grind arith

-- so they have room.
pub compact_room : {values : ℕ × ℕ × ℕ} (log : List ℕ) (to : LogPlace) (count : ℕ) → LogFits log to → compact_answer count (remaining log to) ≡ Ok values → RecordRoom log to count
compact_room log to count fits d =
    let e : count ≤ remaining log to = enough count (remaining log to) d in
    (omega arith, fits.few_records)

-- Live slots of a store that fits can be packed.
pub can_pack_nodes : {slots links owners heads log : List ℕ} {c : Counters} {to : LogPlace} {left : ℕ} {values : ℕ × ℕ × ℕ} → Fit (store_of slots links owners heads c)
    → LogFits log to → left ≡ remaining log to → compact_answer c.nodes left ≡ Ok values → CanPackNodes slots owners log c.nodemark to
can_pack_nodes {slots} {links} {owners} {heads} {log} {c} {to} fit fits remains d =
    record {
      inside = fit.node_room;
      few = omega arith;
      small = omega arith;
      slots_fit = fits_wider slots c.nodemark (length heads) (length links) 32768 (length owners) fit.few_heads (omega arith) fit.live;
      recorded = rw fit.true_nodes at (compact_room log to c.nodes fits (rw remains at d));
    }

-- A compaction writes a record of each live slot,
pub nodes_written : (slots : List ℕ) (mark : ℕ) → live_slots slots mark ≡ length (node_records slots mark)
nodes_written slots mark = sym (node_records-length slots mark)

-- or port,
pub ports_written : (owners : List ℕ) (mark : ℕ) → live_ports owners mark ≡ length (port_records owners mark)
ports_written owners mark = sym (port_records-length owners mark)

-- and a resize as many as it needs.
pub changes_written : (s : Store) (ch : Change) → records_needed ch ≡ length (resize_records s ch)
changes_written s ch = sym (resize_records-length s ch)

-- A resize of a live step can be done, where the step has other counts.
pub can_change : {slots links owners heads log : List ℕ} {c : Counters} {to : LogPlace} {left node inlets outlets : ℕ} {m : NodeMeta} {values : ℕ × ℕ × ℕ}
    → Fit (store_of slots links owners heads c) → LogFits log to → left ≡ remaining log to → node_at slots c.nodemark node ≡ Node m
    → is_idle (record { node = node; meta = m; inlets = inlets; outlets = outlets }) ≡ false
    → resize_answer slots (length links) heads c left node inlets outlets ≡ Ok values
    → CanChange (store_of slots links owners heads c) log to (record { node = node; meta = m; inlets = inlets; outlets = outlets })
unfolding resize_answer
can_change {slots} {links} {owners} {heads} {log} {c} {to} {left} {node} {inlets} {outlets} {m} fit fits remains live changes d =
    let z = resize_done slots (length links) heads c left node inlets outlets (ap is_done d) in
    change_done (store_of slots links owners heads c) log to (record { node = node; meta = m; inlets = inlets; outlets = outlets }) fits
    (node_at_live _ _ _ _ live).0 (node_at_live _ _ _ _ live).1 z.few_inlets z.few_outlets changes
    (rw (← remains) (ap is_done (simp (le-ltb _ _ z.few_inlets, le-ltb _ _ z.few_outlets, live) at d)))
