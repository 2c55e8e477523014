-- The parts of the compactions: what each asks of the words that it is lent, and what it does to every one of them.
use Rattle.std.specs.Prelude.{ℕ, ◌*◌, ◌≤◌, ◌<◌, ◌≡◌, List, length, get_or}
use Rattle.slabs.specs.PortEntry.{Live, node_of}
use Rattle.slabs.specs.NodeEntry.{width}
use Rattle.slabs.specs.Links.{Inside}
use Rattle.slabs.specs.Counters.{nodes_packed}
use Rattle.slabs.specs.declared.counters.Counters.{Counters}
use Rattle.edits.specs.Store.{Store}
use Rattle.edits.specs.Counts.{live_slots, live_ports}
use Rattle.edits.specs.Fit.{SlotsFit, StoreIs}
use Rattle.renumber.specs.Records.{logged}
use Rattle.renumber.specs.Compact.{packed_slots, renamed_owners, node_records, compacted_slots, packed_links, packed_owners, followed_slots, port_records, ports_compacted}
use Rattle.renumber.specs.Room.{RecordRoom}
use Rattle.renumber.specs.declared.log.LogPlace.{LogPlace}

-- Live slots below the mark move down: what that asks,
pub record CanPackNodes (slots owners log : List ℕ) (mark : ℕ) (to : LogPlace) : Type 0 where
  pub inside : width * mark ≤ length slots
  pub few : mark ≤ 65536
  pub small : length owners ≤ 1048576
  pub slots_fit : SlotsFit slots mark 32768 (length owners)
  pub recorded : RecordRoom log to (live_slots slots mark)

-- and does,
pub record PackedNodes (slots owners log : List ℕ) (mark : ℕ) (to : LogPlace) (slots' owners' log' : List ℕ) (live : ℕ) : Type 0 where
  pub counted : live ≡ live_slots slots mark
  pub slots_after : slots' ≡ packed_slots slots mark
  pub owners_after : owners' ≡ renamed_owners slots owners mark
  pub log_after : log' ≡ logged log to.at to.place (node_records slots mark)

-- and what call 7 does.
pub record CompactedNodes (slots owners log : List ℕ) (c : Counters) (to : LogPlace) (slots' owners' log' : List ℕ) (r : Counters) : Type 0 where
  pub counters_after : r ≡ nodes_packed c
  pub slots_after : slots' ≡ compacted_slots slots c.nodemark
  pub owners_after : owners' ≡ renamed_owners slots owners c.nodemark
  pub log_after : log' ≡ logged log to.at to.place (node_records slots c.nodemark)

-- Live ports below the mark move down: what that asks,
pub record CanPackPorts (slots links owners log : List ℕ) (mark : ℕ) (to : LogPlace) : Type 0 where
  pub inside : mark ≤ length links
  pub equal : length owners ≡ length links
  pub small : length links ≤ 1048576
  pub links_inside : Inside links
  pub nodes : ℕ
  pub slots_inside : width * nodes ≤ length slots
  pub slots_fit : SlotsFit slots nodes 32768 1048576
  pub owners_inside : (p : ℕ) → p < mark → Live owners p → node_of (get_or owners p 0) < nodes
  pub recorded : RecordRoom log to (live_ports owners mark)

-- and does,
pub record PackedPorts (slots links owners log : List ℕ) (mark : ℕ) (to : LogPlace) (slots' links' owners' log' : List ℕ) (live : ℕ) : Type 0 where
  pub counted : live ≡ live_ports owners mark
  pub slots_after : slots' ≡ followed_slots slots owners mark
  pub links_after : links' ≡ packed_links owners links mark
  pub owners_after : owners' ≡ packed_owners owners mark
  pub log_after : log' ≡ logged log to.at to.place (port_records owners mark)

-- and what call 8 does.
pub record CompactedPorts (s : Store) (log : List ℕ) (to : LogPlace) (slots links owners heads log' : List ℕ) (r : Counters) : Type 0 where
  pub store_after : StoreIs (ports_compacted s) slots links owners heads r
  pub log_after : log' ≡ logged log to.at to.place (port_records s.owners s.counters.portmark)
