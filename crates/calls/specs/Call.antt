-- A call's four words to its answer (document 01, "The calls"): the answer, the store after it, and its records. A refused call leaves
-- the store as it was, and has no records.
use Rattle.std.specs.Prelude.{ℕ, ◌+◌, ◌-◌, ◌/◌, ◌≡◌, List, [], length, eqb}
use Rattle.slabs.specs.Choice.{pick}
use Rattle.slabs.specs.Links.{cut_at, wired_at}
use Rattle.slabs.specs.Counters.{link_counted, links_uncounted}
use Rattle.slabs.specs.declared.counters.Counters.{Counters}
use Rattle.edits.specs.Store.{Store, node_at, on_node}
use Rattle.edits.specs.Answer.{is_done}
use Rattle.edits.specs.Questions.{ask_node, ask_port, ask_offset, ask_link, ask_counts}
use Rattle.edits.specs.Linking.{link_answer, joined, unlink_answer}
use Rattle.edits.specs.Steps.{add_answer, added, remove_answer, removed}
use Rattle.renumber.specs.Records.{Rec, logged, later, record_width}
use Rattle.renumber.specs.Resize.{resize_answer, is_idle, resized, resize_records}
use Rattle.renumber.specs.Compact.{compact_answer, nodes_compacted, node_records, ports_compacted, port_records}
use Rattle.edits.specs.Clear.{cleared}
use Rattle.edits.specs.Swap.{swap_answer, swapped}
use Rattle.edits.specs.Answer.{Answer}
use Rattle.edits.specs.declared.answer.Refusal.TheVariants.{NoSuchCall}
use Rattle.edits.specs.declared.answer.Refusal.{Refusal}
use Rattle.edits.specs.Answer.{done}
use Rattle.std.specs.Prelude.{Result, Ok, Err}
use Rattle.calls.specs.declared.Call.{Call}
use Rattle.calls.specs.declared.Outcome.{Outcome}
use Rattle.calls.specs.declared.Done.{Done}
use Rattle.edits.specs.declared.store.Tables.{Tables}
use Rattle.renumber.specs.declared.log.LogPlace.{LogPlace}
use Rattle.renumber.specs.declared.log.Log.{Log}
use Rattle.renumber.specs.declared.resize.Change.{Change}

pub record After : Type 0 where
  pub answer : Answer
  pub store : Store
  pub records : List Rec

-- done: this store and these records; refused: the store as it was and none
unfoldable pub decided : Answer → Store → Store → List Rec → After
decided answer before after records = pick (is_done answer) (record { answer = answer; store = after; records = records }) (record { answer = answer; store = before; records = [] })

abbrev pub clear_call : Store → After
clear_call s = record { answer = done 0 0 0; store = cleared s; records = [] }

unfoldable pub add_call : Store → ℕ → ℕ → After
add_call s inlets outlets = decided (add_answer s.slots (length s.links) s.heads s.counters inlets outlets) s (added s inlets outlets) []

unfoldable pub remove_call : Store → ℕ → After
remove_call s node =
    decided (remove_answer s.slots s.counters.nodemark node) s (on_node (node_at s.slots s.counters.nodemark node) (λ m. removed s node m) s) []

-- a resize of a live step to the counts that it has changes nothing
unfoldable pub change_call : Store → Change → Answer → After
change_call s ch answer = pick (is_idle ch) (decided answer s s []) (decided answer s (resized s ch) (resize_records s ch))

unfoldable pub resize_call : Store → ℕ → ℕ → ℕ → ℕ → After
resize_call s left node inlets outlets =
    let answer : Answer = resize_answer s.slots (length s.links) s.heads s.counters left node inlets outlets in
    on_node (node_at s.slots s.counters.nodemark node)
    (λ m. change_call s (record { node = node; meta = m; inlets = inlets; outlets = outlets }) answer)
    (decided answer s s [])

-- the same store with other link words and counters
abbrev pub rewired : Store → List ℕ → Counters → Store
rewired s links c = record { slots = s.slots; links = links; owners = s.owners; heads = s.heads; counters = c }

unfoldable pub link_call : Store → ℕ → ℕ → After
link_call s a b = decided (link_answer s.owners s.links s.counters.portmark a b) s (rewired s (joined s.links a b) (link_counted s.counters)) []

unfoldable pub unlink_call : Store → ℕ → After
unlink_call s port =
    decided (unlink_answer s.owners s.links s.counters.portmark port)
    s
    (rewired s (cut_at s.links port) (links_uncounted s.counters (wired_at s.links port)))
    []

unfoldable pub swap_call : Store → ℕ → ℕ → After
swap_call s a b = decided (swap_answer s.counters.nodemark a b) s (swapped s a b) []

unfoldable pub compact_nodes_call : Store → ℕ → After
compact_nodes_call s left =
    decided (compact_answer s.counters.nodes left) s (nodes_compacted s) (node_records s.slots s.counters.nodemark)

unfoldable pub compact_ports_call : Store → ℕ → After
compact_ports_call s left =
    decided (compact_answer s.counters.ports left) s (ports_compacted s) (port_records s.owners s.counters.portmark)

-- a question changes nothing
unfoldable pub question : Store → Call → Answer
question s call =
    pick (eqb call.n 9) (ask_node s.slots s.counters.nodemark call.a)
    (pick (eqb call.n 10) (ask_port s.slots s.owners s.counters call.a)
    (pick (eqb call.n 11) (ask_offset s.slots s.counters.nodemark call.a call.b call.c)
    (pick (eqb call.n 12) (ask_link s.owners s.links s.counters.portmark call.a)
    (pick (eqb call.n 13) (ask_counts s.counters) (Err NoSuchCall)))))

-- a call where so many records remain in the run's log
unfoldable pub call_of : Store → ℕ → Call → After
call_of s left call =
    pick (eqb call.n 0) (clear_call s)
    (pick (eqb call.n 1) (add_call s call.a call.b)
    (pick (eqb call.n 2) (remove_call s call.a)
    (pick (eqb call.n 3) (resize_call s left call.a call.b call.c)
    (pick (eqb call.n 4) (link_call s call.a call.b)
    (pick (eqb call.n 5) (unlink_call s call.a)
    (pick (eqb call.n 6) (swap_call s call.a call.b)
    (pick (eqb call.n 7) (compact_nodes_call s left)
    (pick (eqb call.n 8) (compact_ports_call s left)
    (record { answer = question s call; store = s; records = [] })))))))))

-- the records that remain
abbrev pub remaining : List ℕ → LogPlace → ℕ
remaining log to = length log / record_width - to.at

-- What a call leaves, in every lent word: the answer, the counters and the tables of its definition, and the log with its records, which
-- the next call's records follow.
pub record Became (after : After) (log : List ℕ) (to : LogPlace) (slots links owners heads log' : List ℕ) (to' : LogPlace) (r : Outcome) : Type 0 where
  pub answer : r.answer ≡ after.answer
  pub counters : r.counters ≡ after.store.counters
  pub next : to'.at ≡ to.at + length after.records
  pub place : to'.place ≡ to.place
  pub slots_after : slots ≡ after.store.slots
  pub links_after : links ≡ after.store.links
  pub owners_after : owners ≡ after.store.owners
  pub heads_after : heads ≡ after.store.heads
  pub log_after : log' ≡ logged log to.at to.place after.records

-- the same of tables that are lent together, and of a log with its place
abbrev pub BecameIn : After → Log → Tables → Log → Outcome → Type 0
BecameIn after log t log' r =
    Became after log.words.now log.to t.slots.now t.links.now t.owners.now t.heads.now log'.words.now log'.to r

-- What the part of one call hands back: the answer,
abbrev pub answer_of : Result Done Refusal → Answer
answer_of (Ok d) = Ok d.values
answer_of (Err refusal) = Err refusal

-- and the counters, which a refusal leaves
abbrev pub counters_of : Result Done Refusal → Counters → Counters
counters_of (Ok d) c = d.counters
counters_of (Err refusal) c = c

-- What it leaves in the tables, where c were the counters.
pub record Left (after : After) (c : Counters) (slots links owners heads : List ℕ) (r : Result Done Refusal) : Type 0 where
  pub answer : answer_of r ≡ after.answer
  pub counters : counters_of r c ≡ after.store.counters
  pub slots_after : slots ≡ after.store.slots
  pub links_after : links ≡ after.store.links
  pub owners_after : owners ≡ after.store.owners
  pub heads_after : heads ≡ after.store.heads

abbrev pub LeftIn : After → Counters → Tables → Result Done Refusal → Type 0
LeftIn after c t r = Left after c t.slots.now t.links.now t.owners.now t.heads.now r

-- What it leaves in the log: these records, and the place behind them.
pub record Logged (before after : Log) (rs : List Rec) : Type 0 where
  pub words : after.words.now ≡ logged before.words.now before.to.at before.to.place rs
  pub next : after.to ≡ later before.to (length rs)

-- what a question hands back
abbrev pub asked : Counters → Answer → Result Done Refusal
asked c (Ok values) = Ok (record { values = values; counters = c })
asked c (Err refusal) = Err refusal

abbrev pub question_call : Store → Call → Result Done Refusal
question_call s call = asked s.counters (question s call)
