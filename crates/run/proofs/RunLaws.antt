-- How a run comes to its answer: what the lengths give to the audit and to the calls, and what these leave is a run.
use Prim.Native.Nat.{ℕ, ◌≤◌}
use mathlib.Core.Path.{◌≡◌}
use mathlib.Core.List.{List}
use mathlib.Core.Bool.{Bool, true, false}
use native.Mathlib.Omega.{arith}
use lib.ListN.{length}
use Rattle.slabs.specs.declared.counters.Counters.{Counters}
use Rattle.edits.specs.Store.{Store, store_of}
use Rattle.audit.specs.Decides.{Decides}
use Rattle.audit.specs.Parts.{Audited}
use Rattle.audit.proofs.DecideLaws.{failed, passed}
use Rattle.sound.specs.Sound.{Shaped, Sound}
use Rattle.run.specs.Run.{Lent, lent_of, code_of, records_of, Lengths, CanAnswer, Answered, Ran, misshapen, unsound, done, scratch_zero}
use Rattle.run.specs.declared.RunAnswer.{RunAnswer}
use Rattle.run.proofs.OneAnswer.{count_one}

module _ (m : Lent) (lengths : Lengths m) where
  -- Memory of these lengths has well-shaped tables,
  pub lengths_shaped : Shaped m.store
  lengths_shaped =
      record {
        room = lengths.room;
        whole = lengths.whole;
        few_slots = lengths.few_slots;
        equal = lengths.equal;
        few_ports = lengths.few_ports;
        some_heads = lengths.some_heads;
        few_heads = lengths.few_heads;
      }

  -- and a scratch with a word for each port.
  pub lengths_scratch : length m.store.links ≤ length m.scratch
  lengths_scratch = omega arith

  -- Where the audit refuses, the run answers 21.
  pub audit_refused : {scratch : List ℕ} → (Sound m.store → ⊥) → scratch ≡ scratch_zero m
      → Ran m (record { store = m.store; scratch = scratch; calls = m.calls; answers = m.answers; log = m.log }) 21 0
  audit_refused not_sound zero = rw zero (unsound lengths not_sound)

  module _ (sound : Sound m.store) where
    -- Where it does not, the calls can be answered,
    pub lengths_answer : CanAnswer m.store m.calls m.answers m.log
    lengths_answer =
        record {
          shaped = lengths_shaped;
          sound = sound;
          count = lengths.count;
          whole_calls = lengths.whole_calls;
          few_calls = lengths.few_calls;
          answer_room = lengths.answer_room;
          few_records = omega arith;
        }

    -- and their answers are the run's.
    pub answered_ran : {s : Store} {scratch answers log : List ℕ} {r : RunAnswer} → scratch ≡ scratch_zero m
        → Answered m.store m.calls m.answers m.log s answers log r
        → Ran m (record { store = s; scratch = scratch; calls = m.calls; answers = answers; log = log }) (code_of r.records) (records_of r.records)
    answered_ran zero a =
        let e : a.count ≡ lengths.count = count_one a.counted lengths.whole_calls in
        rw (zero, a.records, a.store_after, a.answers_after, a.log_after, e) (done lengths sound)

-- The same, said of what the two tests answer and of the words that are lent.
module _
    (slots links owners heads : List ℕ)
    (c : Counters)
    (scratch calls answers log : List ℕ)
    (shaped : Bool)
    (tested : Decides shaped (Lengths (lent_of slots links owners heads c scratch calls answers log)))
  where
    -- Lengths that are broken refuse the run,
    pub ran_misshapen : shaped ≡ false
        → Ran (lent_of slots links owners heads c scratch calls answers log) (lent_of slots links owners heads c scratch calls answers log) 20 0
    ran_misshapen broken = misshapen (failed tested broken)

    module _ (whole : shaped ≡ true) where
      -- and any others can be audited.
      pub ran_shaped : Shaped (store_of slots links owners heads c) × (length links ≤ length scratch)
      ran_shaped =
          let m : Lent = lent_of slots links owners heads c scratch calls answers log in
          (lengths_shaped m (passed tested whole), lengths_scratch m (passed tested whole))

      module _ (scratch' : List ℕ) (sound : Bool) (audited : Audited (store_of slots links owners heads c) scratch scratch' sound) where
        -- A store that is not sound refuses the run,
        pub ran_unsound : sound ≡ false
            → Ran (lent_of slots links owners heads c scratch calls answers log) (lent_of slots links owners heads c scratch' calls answers log) 21 0
        ran_unsound not =
            audit_refused (lent_of slots links owners heads c scratch calls answers log) (passed tested whole) (failed audited.verdict not) audited.scratch_after

        -- in a sound one the calls can be answered,
        pub ran_sound : sound ≡ true → CanAnswer (store_of slots links owners heads c) calls answers log
        ran_sound is = lengths_answer (lent_of slots links owners heads c scratch calls answers log) (passed tested whole) (passed audited.verdict is)

        -- and their answers are the run's.
        pub ran_answered : (slots' links' owners' heads' answers' log' : List ℕ) (r : RunAnswer) → sound ≡ true
            → Answered (store_of slots links owners heads c) calls answers log (store_of slots' links' owners' heads' r.counters) answers' log' r
            → Ran (lent_of slots links owners heads c scratch calls answers log) (lent_of slots' links' owners' heads' r.counters scratch' calls answers' log') (code_of r.records) (records_of r.records)
        ran_answered slots' links' owners' heads' answers' log' r is said =
            answered_ran (lent_of slots links owners heads c scratch calls answers log) (passed tested whole) (passed audited.verdict is) audited.scratch_after said
