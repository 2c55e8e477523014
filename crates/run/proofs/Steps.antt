-- What stands after each call of a run: a sound store of well-shaped tables, answers and a log of the lengths that were lent, and no more
-- records than the log has room for.
use Prim.Native.Nat.{ℕ, suc, zero, ◌+◌, ◌-◌, ◌*◌, ◌/◌, ◌≤◌}
use mathlib.Core.Path.{◌≡◌, refl, sym, ap, ◌∙◌}
use mathlib.Core.List.{List, []}
use mathlib.Core.Bool.{Bool, true, false}
use native.Mathlib.Omega.{arith}
use native.Mathlib.Numerals.{add-one}
use lib.ListN.{length, length-set}
use lib.Dec.{ltb}
use borrow.Author.Tests.{ltb-false}
use Rattle.slabs.specs.Choice.{pick}
use Rattle.slabs.specs.declared.node_entry.NodeMeta.{NodeMeta}
use Rattle.slabs.specs.declared.node_entry.NodeEntry.{NodeEntry}
use Rattle.slabs.specs.declared.node_entry.NodeEntry.TheVariants.{Free, Node}
use Rattle.edits.specs.Store.{Store, store_of, node_at, on_node}
use Rattle.edits.specs.Fit.{Fit}
use Rattle.edits.specs.Steps.{most}
use Rattle.edits.specs.Answer.{is_done, answer_words, Answer, done}
use Rattle.edits.specs.declared.answer.AnswerWords.{AnswerWords}
use Rattle.edits.specs.declared.answer.Refusal.TheVariants.{TooManyPorts, LogFull}
use Rattle.std.specs.Prelude.{Ok, Err}
use Rattle.renumber.specs.Records.{Rec, record_width}
use Rattle.renumber.specs.Resize.{is_idle, change_answer, resize_answer, resized, resize_records}
use Rattle.renumber.specs.Room.{LogFits}
use Rattle.renumber.specs.Compact.{compact_answer}
use Rattle.renumber.specs.declared.log.LogPlace.{LogPlace}
use Rattle.renumber.specs.declared.resize.Change.{Change}
use Rattle.calls.specs.Call.{After, decided, add_call, remove_call, change_call, resize_call, link_call, unlink_call, swap_call, compact_nodes_call, compact_ports_call, call_of, remaining, Became}
use Rattle.calls.specs.declared.Call.{Call}
use Rattle.calls.specs.declared.Outcome.{Outcome}
use Rattle.sound.specs.Sound.{Shaped, Sound}
use Rattle.run.specs.Run.{Midway, one_more, stepped, call_at, call_width, set_answer, CanAnswer, Answered}
use Rattle.run.specs.declared.RunAnswer.{RunAnswer}
use Rattle.renumber.proofs.RecordLaws.{logged-length}
use Rattle.renumber.proofs.PackLaws.{node_records-length, port_records-length}
use Rattle.renumber.proofs.ResizeLaws.{resize_records-length}
use Rattle.renumber.proofs.AnswerLaws.{change_granted}
use Rattle.sound.proofs.Fits.{sound_fit}
use Rattle.sound.proofs.Kept.{each_call}
use Rattle.sound.proofs.Shapes.{call_shaped}
use Rattle.sound.proofs.Calls.{call_sound}

-- A call writes no more records than remain where those of a call that is done are no more.
decided_fit : (answer : Answer) (before after : Store) (rs : List Rec) (left : ℕ) → (is_done answer ≡ true → length rs ≤ left)
    → length (decided answer before after rs).records ≤ left
unfolding decided
decided_fit answer before after rs left fits = go (is_done answer) fits
  where
    go : (t : Bool) → (t ≡ true → length rs ≤ left)
        → length (pick {A = After} t (record { answer = answer; store = after; records = rs }) (record { answer = answer; store = before; records = [] })).records ≤ left
    go true fits = fits refl
    go false fits = omega arith

-- A compaction that is done has room for its records.
compact_enough : (count left : ℕ) → is_done (compact_answer count left) ≡ true → count ≤ left
unfolding compact_answer
compact_enough count left d = go (ltb left count) refl d
  where
    go : (t : Bool) → ltb left count ≡ t → is_done (pick t (Err LogFull) (done count 0 0)) ≡ true → count ≤ left
    go true e d = absurd (let z : ◌≡◌ {A = ℕ} 0 1 = cc in omega arith)
    go false e d = ltb-false left count e

-- A resize of a live step that is done is one of which the change is done.
resize_change : (s : Store) (left node inlets outlets : ℕ) (m : NodeMeta) → node_at s.slots s.counters.nodemark node ≡ Node m
    → is_done (resize_answer s.slots (length s.links) s.heads s.counters left node inlets outlets) ≡ true
    → is_done (change_answer (length s.links) s.heads s.counters.portmark left (record { node = node; meta = m; inlets = inlets; outlets = outlets })) ≡ true
unfolding resize_answer
resize_change s left node inlets outlets m e d = go (ltb most inlets) (ltb most outlets) (rw e at d)
  where
    change : Answer
    change = change_answer (length s.links) s.heads s.counters.portmark left (record { node = node; meta = m; inlets = inlets; outlets = outlets })

    go : (t u : Bool) → is_done (pick t (Err TooManyPorts) (pick u (Err TooManyPorts) change)) ≡ true → is_done change ≡ true
    go true u d = absurd (let z : ◌≡◌ {A = ℕ} 0 1 = cc in omega arith)
    go false true d = absurd (let z : ◌≡◌ {A = ℕ} 0 1 = cc in omega arith)
    go false false d = d

-- So a resize writes no more records than remain.
resize_fit : (s : Store) (left node inlets outlets : ℕ) → length (resize_call s left node inlets outlets).records ≤ left
unfolding resize_call change_call
resize_fit s left node inlets outlets = go (node_at s.slots s.counters.nodemark node) refl
  where
    answer : Answer
    answer = resize_answer s.slots (length s.links) s.heads s.counters left node inlets outlets

    ch : NodeMeta → Change
    ch m = record { node = node; meta = m; inlets = inlets; outlets = outlets }

    at : (m : NodeMeta) → node_at s.slots s.counters.nodemark node ≡ Node m → (t : Bool) → is_idle (ch m) ≡ t
        → length (pick t (decided answer s s []) (decided answer s (resized s (ch m)) (resize_records s (ch m)))).records ≤ left
    at m e true idle = decided_fit answer s s [] left (λ d. omega arith)
    at m e false idle =
        decided_fit answer s (resized s (ch m)) (resize_records s (ch m)) left
        (λ d. rw resize_records-length (change_granted _ _ _ left (ch m) idle (resize_change s left node inlets outlets m e d)).enough)

    go : (e : NodeEntry) → node_at s.slots s.counters.nodemark node ≡ e
        → length (on_node e (λ m. change_call s (ch m) answer) (decided answer s s [])).records ≤ left
    go (Node m) e = at m e (is_idle (ch m)) refl
    go (Free previous next) e = decided_fit answer s s [] left (λ d. omega arith)

-- No call writes more records than remain.
pub records_fit : (s : Store) → Sound s → (left : ℕ) (call : Call) → length (call_of s left call).records ≤ left
unfolding add_call remove_call link_call unlink_call swap_call compact_nodes_call compact_ports_call
records_fit s sound left call =
    each_call
    (λ after. length after.records ≤ left)
    s
    left
    call
    (record {
      clear = omega arith;
      add = none _ _;
      remove = none _ _;
      resize = resize_fit s left call.a call.b call.c;
      link = none _ _;
      unlink = none _ _;
      swap = none _ _;
      compact_nodes =
          decided_fit _ s _ _ left (λ d. omega (arith, compact_enough _ left d, sound.counted.nodes, node_records-length s.slots s.counters.nodemark));
      compact_ports =
          decided_fit _ s _ _ left (λ d. omega (arith, compact_enough _ left d, sound.counted.ports, port_records-length s.owners s.counters.portmark));
      asks = omega arith;
    })
  where
    none : (answer : Answer) (after : Store) → length (decided answer s after []).records ≤ left
    none answer after = decided_fit answer s after [] left (λ d. omega arith)

-- After one call more the first n calls and it are answered.
pub stepped_next : (s : Store) (calls answers log : List ℕ) (n : ℕ)
    → stepped s calls answers log (suc n) ≡ one_more (stepped s calls answers log n) (call_at calls n) n
unfolding stepped
stepped_next s calls answers log n = refl

-- A call leaves the length of the answers,
pub stepped_answers : (s : Store) (calls answers log : List ℕ) (n : ℕ) → length (stepped s calls answers log n).answers ≡ length answers
unfolding stepped one_more
stepped_answers s calls answers log zero = refl
stepped_answers s calls answers log (suc n) = simp length-set (stepped_answers s calls answers log n)

-- and of the log.
pub stepped_log : (s : Store) (calls answers log : List ℕ) (n : ℕ) → length (stepped s calls answers log n).log ≡ length log
unfolding stepped one_more
stepped_log s calls answers log zero = refl
stepped_log s calls answers log (suc n) = logged-length _ _ _ _ ∙ stepped_log s calls answers log n

-- The tables stay well-shaped.
pub stepped_shaped : (s : Store) (calls answers log : List ℕ) → Shaped s → (n : ℕ) → Shaped (stepped s calls answers log n).store
unfolding stepped one_more
stepped_shaped s calls answers log shaped zero = shaped
stepped_shaped s calls answers log shaped (suc n) = call_shaped _ _ _ (stepped_shaped s calls answers log shaped n)

module _ (s : Store) (calls answers log : List ℕ) (shaped : Shaped s) (sound : Sound s) where
  -- The store stays sound,
  pub stepped_sound : (n : ℕ) → Sound (stepped s calls answers log n).store
  unfolding stepped one_more
  stepped_sound zero = sound
  stepped_sound (suc n) = call_sound _ (stepped_shaped s calls answers log shaped n) (stepped_sound n) _ _

  -- and the records have room in the log.
  pub stepped_room : (n : ℕ) → record_width * (stepped s calls answers log n).written ≤ length log
  unfolding stepped one_more
  stepped_room zero = omega arith
  stepped_room (suc n) =
      let w : Midway = stepped s calls answers log n in
      omega (arith, stepped_room n, stepped_log s calls answers log n, records_fit w.store (stepped_sound n) (length w.log / record_width - w.written) (call_at calls n))

-- The tables and the counters that a call leaves are a store: that of its definition.
pub became_store : {after : After} {log : List ℕ} {to : LogPlace} {slots links owners heads log' : List ℕ} {to' : LogPlace} {r : Outcome}
    → Became after log to slots links owners heads log' to' r → store_of slots links owners heads r.counters ≡ after.store
became_store b =
    λ j. record { slots = b.slots_after j; links = b.links_after j; owners = b.owners_after j; heads = b.heads_after j; counters = b.counters j }

-- The invariant of the loop over the calls: this store, these answers and this log stand after i calls, and so many records are written.
pub record Stands (s : Store) (calls answers log : List ℕ) (s' : Store) (answers' log' : List ℕ) (at i : ℕ) : Type 0 where
  pub begun : call_width * i ≤ length calls
  pub store_after : s' ≡ (stepped s calls answers log i).store
  pub answers_after : answers' ≡ (stepped s calls answers log i).answers
  pub log_after : log' ≡ (stepped s calls answers log i).log
  pub written : at ≡ (stepped s calls answers log i).written

-- It holds before the first call,
pub stands_first : (s : Store) (calls answers log : List ℕ) → Stands s calls answers log s answers log 0 0
unfolding stepped
stands_first s calls answers log =
    record { begun = omega arith; store_after = refl; answers_after = refl; log_after = refl; written = refl }

module _ {s : Store} {calls answers log : List ℕ} {s' : Store} {answers' log' : List ℕ} {at i : ℕ} (now : Stands s calls answers log s' answers' log' at i) where
  -- after the last it is what the run leaves,
  pub stands_last : {r : RunAnswer} → length calls ≤ call_width * i → r.records ≡ Ok at → Answered s calls answers log s' answers' log' r
  stands_last end records =
      record {
        count = i;
        counted = omega arith;
        records = records ∙ ap Ok now.written;
        store_after = now.store_after;
        answers_after = now.answers_after;
        log_after = now.log_after;
      }

  -- and one call more brings it to the next.
  pub stands_next : {call : Call} {slots links owners heads answers'' log'' : List ℕ} {to : LogPlace} {r : Outcome} {words : AnswerWords} → call_width * i + call_width ≤ length calls
      → call ≡ call_at calls i
      → Became (call_of s' (remaining log' (record { at = at; place = i })) call) log' (record { at = at; place = i }) slots links owners heads log'' to r
      → words ≡ answer_words r.answer
      → answers'' ≡ set_answer answers' i words
      → Stands s calls answers log (store_of slots links owners heads r.counters) answers'' log'' to.at (i + 1)
  unfolding one_more
  stands_next {call} more this became said wrote =
      let w : Midway = stepped s calls answers log i in
      let next : one_more w (call_at calls i) i ≡ stepped s calls answers log (i + 1) = rw (add-one i) (sym (stepped_next s calls answers log i)) in
      let same : call_of s' (length log' / record_width - at) call ≡ call_of w.store (length w.log / record_width - w.written) (call_at calls i) =
      rw (now.store_after, now.log_after, now.written, this) in
      record {
        begun = omega arith;
        store_after = rw (← next) (became_store became ∙ ap (λ (a : After). a.store) same);
        answers_after = rw (← next, wrote, said, became.answer, same, now.answers_after);
        log_after = rw (← next, became.log_after, same, now.log_after, now.written);
        written = rw (← next, became.next, same, now.written);
      }

  -- The answers,
  pub stands_answers : length answers' ≡ length answers
  stands_answers = ap length now.answers_after ∙ stepped_answers s calls answers log i

  -- and the log keep the lengths that were lent.
  pub stands_log : length log' ≡ length log
  stands_log = ap length now.log_after ∙ stepped_log s calls answers log i

  module _ (can : CanAnswer s calls answers log) where
    -- The store fits, so the next call can be made,
    pub stands_fit : Fit s'
    stands_fit =
        rw now.store_after (sound_fit _ (stepped_shaped s calls answers log can.shaped i) (stepped_sound s calls answers log can.shaped can.sound i))

    -- and its first record would be in the log, or right after it.
    pub stands_room : LogFits log' (record { at = at; place = i })
    stands_room =
        record {
          at_inside = omega (arith, now.written, stands_log, stepped_room s calls answers log can.shaped can.sound i);
          few_records = omega (arith, stands_log, can.few_records);
        }
