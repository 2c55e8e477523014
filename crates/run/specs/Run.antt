-- A run of calls over lent memory (document 01, "Lent memory", and what the whole run answers): 20, else 21, else every call in order.
use Rattle.std.specs.Prelude.{ℕ, suc, zero, ◌+◌, ◌-◌, ◌*◌, ◌/◌, ◌≤◌, ◌≡◌, List, Result, Ok, Err, length, get_or, set}
use Rattle.slabs.specs.NodeEntry.{width}
use Rattle.slabs.specs.Slab.{filled}
use Rattle.slabs.specs.declared.counters.Counters.{Counters}
use Rattle.edits.specs.Store.{Store, store_of, store_in}
use Rattle.edits.specs.declared.store.Tables.{Tables}
use Rattle.edits.specs.Answer.{answer_words}
use Rattle.edits.specs.declared.answer.AnswerWords.{AnswerWords}
use Rattle.renumber.specs.Records.{record_width, logged}
use Rattle.calls.specs.Call.{After, call_of}
use Rattle.calls.specs.declared.Call.{Call}
use Rattle.sound.specs.Sound.{Shaped, Sound}
use Rattle.run.specs.declared.RunAnswer.{RunAnswer}
use Rattle.run.specs.declared.RunRefusal.{RunRefusal}
use Rattle.run.specs.declared.RunRefusal.TheVariants.{Misshapen, Unsound}

-- everything that is lent to a run, and the counters
pub record Lent : Type 0 where
  pub store : Store
  pub scratch : List ℕ
  pub calls : List ℕ
  pub answers : List ℕ
  pub log : List ℕ

abbrev pub lent_of : List ℕ → List ℕ → List ℕ → List ℕ → Counters → List ℕ → List ℕ → List ℕ → List ℕ → Lent
lent_of slots links owners heads c scratch calls answers log =
    record { store = store_of slots links owners heads c; scratch = scratch; calls = calls; answers = answers; log = log }

-- the same of tables that are lent together
abbrev pub lent_in : Tables → Counters → List ℕ → List ℕ → List ℕ → List ℕ → Lent
lent_in t c scratch calls answers log = record { store = store_in t c; scratch = scratch; calls = calls; answers = answers; log = log }

-- the words of a call, and of an answer
abbrev pub call_width : ℕ
call_width = 4

-- a whole number of fours, at most so many
pub record WholeUpTo (n most : ℕ) : Type 0 where
  pub fours : ℕ
  pub whole : n ≡ 4 * fours
  pub few : fours ≤ most

-- "Lent memory", by the lengths of what is lent: whole slots, calls and records, each at most so many
pub record LengthsOf (slots links owners heads scratch calls answers log : ℕ) : Type 0 where
  pub room : ℕ
  pub whole : slots ≡ width * room
  pub few_slots : room ≤ 65536
  pub equal : owners ≡ links
  pub few_ports : links ≤ 1048576
  pub some_heads : 1 ≤ heads
  pub few_heads : heads ≤ 32768
  pub scratch_room : slots / width + links ≤ scratch
  pub count : ℕ
  pub whole_calls : calls ≡ call_width * count
  pub few_calls : count ≤ 256
  pub answer_room : calls ≤ answers
  pub records : ℕ
  pub whole_log : log ≡ record_width * records
  pub few_records : records ≤ 1048576

-- The lengths of "Lent memory". Where one is broken, the run answers 20.
abbrev pub Lengths : Lent → Type 0
Lengths m = LengthsOf (length m.store.slots) (length m.store.links) (length m.store.owners) (length m.store.heads) (length m.scratch) (length m.calls) (length m.answers) (length m.log)

-- call number i
abbrev pub call_at : List ℕ → ℕ → Call
call_at calls i = record { n = get_or calls (call_width * i + 0) 0; a = get_or calls (call_width * i + 1) 0; b = get_or calls (call_width * i + 2) 0; c = get_or calls (call_width * i + 3) 0 }

-- the answers once answer number i is written
abbrev pub set_answer : List ℕ → ℕ → AnswerWords → List ℕ
set_answer answers i w =
    set (set (set (set answers (call_width * i + 0) w.code) (call_width * i + 1) w.first) (call_width * i + 2) w.second) (call_width * i + 3) w.third

-- what stands after some calls of a run: the store, the answers, the log, and how many records it holds
pub record Midway : Type 0 where
  pub store : Store
  pub answers : List ℕ
  pub log : List ℕ
  pub written : ℕ

-- one call more, at this place of the run: it has what remains of the log
unfoldable pub one_more : Midway → Call → ℕ → Midway
one_more w call place =
    let after : After = call_of w.store (length w.log / record_width - w.written) call in
    record {
      store = after.store;
      answers = set_answer w.answers place (answer_words after.answer);
      log = logged w.log w.written place after.records;
      written = w.written + length after.records;
    }

-- the first n calls, in order
unfoldable pub stepped : Store → List ℕ → List ℕ → List ℕ → ℕ → Midway
stepped s calls answers log zero = record { store = s; answers = answers; log = log; written = 0 }
stepped s calls answers log (suc n) = one_more (stepped s calls answers log n) (call_at calls n) n

abbrev pub midway : Lent → ℕ → Midway
midway m n = stepped m.store m.calls m.answers m.log n

-- every scratch word is 0
abbrev pub scratch_zero : Lent → List ℕ
scratch_zero m = filled m.scratch 0 (length m.scratch) 0

-- the memory with the scratch zeroed
abbrev pub zeroed : Lent → Lent
zeroed m = record { store = m.store; scratch = scratch_zero m; calls = m.calls; answers = m.answers; log = m.log }

-- the memory once all calls are answered
abbrev pub answered : Lent → Midway → Lent
answered m w = record { store = w.store; scratch = scratch_zero m; calls = m.calls; answers = w.answers; log = w.log }

-- What answering the calls asks: a sound store of well-shaped tables, and room for whole calls, answers and records.
pub record CanAnswer (s : Store) (calls answers log : List ℕ) : Type 0 where
  pub shaped : Shaped s
  pub sound : Sound s
  pub count : ℕ
  pub whole_calls : length calls ≡ call_width * count
  pub few_calls : count ≤ 256
  pub answer_room : length calls ≤ length answers
  pub few_records : length log ≤ record_width * 1048576

-- What it does.
pub record Answered (s : Store) (calls answers log : List ℕ) (s' : Store) (answers' log' : List ℕ) (r : RunAnswer) : Type 0 where
  pub count : ℕ
  pub counted : length calls ≡ call_width * count
  pub records : r.records ≡ Ok (stepped s calls answers log count).written
  pub store_after : s' ≡ (stepped s calls answers log count).store
  pub answers_after : answers' ≡ (stepped s calls answers log count).answers
  pub log_after : log' ≡ (stepped s calls answers log count).log

-- the number of a refusal: of broken lengths, and of a store that is not sound
abbrev pub refusal_code : RunRefusal → ℕ
refusal_code Misshapen = 20
refusal_code Unsound = 21

-- the number that a run answers with,
abbrev pub code_of : Result ℕ RunRefusal → ℕ
code_of (Ok records) = 0
code_of (Err refusal) = refusal_code refusal

-- and the number of records that it reports
abbrev pub records_of : Result ℕ RunRefusal → ℕ
records_of (Ok records) = records
records_of (Err refusal) = 0

-- What a run does: the memory before and after, its answer, and how many records it reports.
pub data Ran (m : Lent) : Lent → ℕ → ℕ → Type 0 where
  misshapen : (Lengths m → ⊥) → Ran m m 20 0
  unsound : Lengths m → (Sound m.store → ⊥) → Ran m (zeroed m) 21 0
  done : (lengths : Lengths m) → Sound m.store → Ran m (answered m (midway m lengths.count)) 0 (midway m lengths.count).written
