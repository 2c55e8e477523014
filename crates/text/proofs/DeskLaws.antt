-- Laws of the desk's run: its memory is well-shaped and its empty store is sound, so that every call is answered and the records fit.
use Prim.Native.Nat.{ℕ, ◌*◌, ◌≤◌}
use mathlib.Core.Path.{◌≡◌, refl, ap}
use mathlib.Core.List.{List}
use native.Mathlib.Omega.{arith}
use lib.ListN.{length, take, length-take}
use Rattle.edits.specs.Store.{Store}
use Rattle.sound.specs.Sound.{Shaped, Sound}
use Rattle.sound.proofs.Kept.{empty_sound}
use Rattle.std.specs.Prelude.{Result, Ok, Err}
use Rattle.std.specs.Result.{result_unwrap_or}
use Rattle.run.specs.declared.RunRefusal.{RunRefusal}
use Rattle.run.specs.Run.{records_of, Lent, Lengths, Ran, done, midway, answered}
use Rattle.run.proofs.OneAnswer.{ran_one}
use Rattle.run.proofs.Steps.{stepped_answers, stepped_log, stepped_room}
use Rattle.text.specs.Lines.{BadAt, call_words, desk_lent, run_lines, midway_lines, error_line, answers, refuses, Printed}
use Rattle.text.specs.Parts.{Written, CallsRead}
use Rattle.text.proofs.CallLaws.{words_length}
use Rattle.text.proofs.SizeLaws.{run_fits, error_fits}
use Rattle.text.proofs.PageLaws.{page_printed}
use Rattle.text.proofs.ZeroLaws.{blank, blank_length, blank_zero}

-- What the run leaves: room for what is printed of it, and the answers of every call.
pub record Left (words : List ℕ) (n : ℕ) (answers log : List ℕ) (records : ℕ) : Type 0 where
  pub answer_room : 4 * n ≤ length answers
  pub few_records : records ≤ 512
  pub log_room : 4 * records ≤ length log
  pub lines : run_lines answers log records n ≡ midway_lines (midway (desk_lent words) n) n

module _ (words : List ℕ) where
  -- The desk's store is sound,
  desk_sound : Sound (desk_lent words).store
  desk_sound = empty_sound (desk_lent words).store (blank_zero 256) (blank_zero 512) (blank_zero 512) (blank_zero 128) refl

  -- and its tables are well-shaped.
  desk_shaped : Shaped (desk_lent words).store
  desk_shaped =
      record {
        room = 64;
        whole = blank_length 256;
        few_slots = omega arith;
        equal = refl;
        few_ports = omega (arith, blank_length 512);
        some_heads = omega (arith, blank_length 128);
        few_heads = omega (arith, blank_length 128);
      }

  -- The log has room for 512 records.
  written_few : (n : ℕ) → (midway (desk_lent words) n).written ≤ 512
  written_few n =
      omega (arith, stepped_room (desk_lent words).store words (blank 1024) (blank 2048) desk_shaped desk_sound n, blank_length 2048)

  -- The lines of 256 calls fit the page.
  pub midway_fits : (n : ℕ) → n ≤ 256 → length (midway_lines (midway (desk_lent words) n) n) ≤ 32768
  midway_fits n few = run_fits _ _ _ n few (written_few n)

  module _ (n : ℕ) (whole : length words ≡ 4 * n) (few : n ≤ 256) where
    -- The lengths are those of lent memory.
    abbrev desk_lengths : Lengths (desk_lent words)
    desk_lengths =
        record {
          room = desk_shaped.room;
          whole = desk_shaped.whole;
          few_slots = desk_shaped.few_slots;
          equal = desk_shaped.equal;
          few_ports = desk_shaped.few_ports;
          some_heads = desk_shaped.some_heads;
          few_heads = desk_shaped.few_heads;
          scratch_room = omega (arith, blank_length 256, blank_length 512, blank_length 576);
          count = n;
          whole_calls = whole;
          few_calls = few;
          answer_room = omega (arith, blank_length 1024);
          records = 512;
          whole_log = blank_length 2048;
          few_records = omega arith;
        }

    -- Every call is answered, whatever a run may say.
    pub desk_left : {a : Lent} {c records : ℕ} → Ran (desk_lent words) a c records → Left words n a.answers a.log records
    desk_left {a} {c} {records} ran =
        record {
          answer_room = omega (arith, ap (λ (b : Lent). length b.answers) one.0, stepped_answers s words none empty n, blank_length 1024);
          few_records = omega (arith, one.2, written_few n);
          log_room = omega (arith, one.2, written_few n, ap (λ (b : Lent). length b.log) one.0, stepped_log s words none empty n, blank_length 2048);
          lines = rw (one.0, one.2);
        }
      where
        s : Store
        s = (desk_lent words).store

        none : List ℕ
        none = blank 1024

        empty : List ℕ
        empty = blank 2048

        one : (a ≡ answered (desk_lent words) (midway (desk_lent words) n)) × (c ≡ 0) × (records ≡ (midway (desk_lent words) n).written)
        one = ran_one ran (done desk_lengths desk_sound)

module _ {text words words' : List ℕ} {n : ℕ} (read : CallsRead text words words' n) where
  -- The words of the calls that are read are four for each,
  pub read_length : length (take (4 * n) words') ≡ 4 * n
  read_length = rw (read.counted, read.kept.front) (words_length read.calls)

  -- are within the array,
  pub read_within : 4 * n ≤ length words'
  read_within = omega (arith, read_length, length-take (4 * n) words')

  -- and what is written of their run is printed.
  pub read_printed : {bytes : List ℕ} {len : ℕ} → Written (midway_lines (midway (desk_lent (take (4 * n) words')) n) n) (blank 32768) bytes len
      → Printed text (record { bytes = bytes; len = len })
  read_printed written =
      page_printed (answers read.calls read.good) (midway_fits (call_words read.calls) (length read.calls) read.good.few) (rw (read.counted, read.kept.front) at written)

-- So is what is written of an error.
pub bad_printed : {text : List ℕ} {line : ℕ} → BadAt text line → {bytes : List ℕ} {len : ℕ} → Written (error_line line) (blank 32768) bytes len
    → Printed text (record { bytes = bytes; len = len })
bad_printed {text} {line} bad written = page_printed (refuses line bad) (error_fits line) written

-- What a run reports where it is not asked whether it was refused.
pub reported : (r : Result ℕ RunRefusal) → result_unwrap_or r 0 ≡ records_of r
reported (Ok records) = refl
reported (Err refusal) = refl
