-- Records (document 01, the record's rule of the edits): place of the call, kind, old, new; and the log after they are written.
use Rattle.std.specs.Prelude.{ℕ, suc, zero, ◌+◌, ◌*◌, ◌≡◌, List, [], ◌∷◌, ◌++◌, set}
use Rattle.renumber.specs.declared.log.LogPlace.{LogPlace}
use Rattle.renumber.specs.declared.log.Log.{Log}
use Rattle.renumber.specs.declared.log.Kind.{Kind}
use Rattle.renumber.specs.declared.log.Kind.TheVariants.{Removed, Unwired, PortMoved, NodeMoved}

-- the words of a record
abbrev pub record_width : ℕ
record_width = 4

-- A record's kind: 1 and 2 for a port that goes (under 1 the new number is 0, under 2 it is the partner that the port had), 3 for a port
-- that stays and 4 for a slot that does, each with its number after that, be it another or the same.
pub record Rec : Type 0 where
  pub kind : ℕ
  pub old : ℕ
  pub new : ℕ

abbrev pub rec : ℕ → ℕ → ℕ → Rec
rec kind old new = record { kind = kind; old = old; new = new }

-- the log once record number at holds r
abbrev pub set_record : List ℕ → ℕ → ℕ → Rec → List ℕ
set_record log at place r =
    set (set (set (set log (record_width * at + 0) place) (record_width * at + 1) r.kind) (record_width * at + 2) r.old) (record_width * at + 3) r.new

-- the log once these records stand from record number at on
unfoldable pub logged : List ℕ → ℕ → ℕ → List Rec → List ℕ
logged log at place [] = log
logged log at place (r ∷ rs) = logged (set_record log at place r) (at + 1) place rs

-- so many records later
abbrev pub later : LogPlace → ℕ → LogPlace
later to records = record { at = to.at + records; place = to.place }

-- a kind as a word
abbrev pub kind_word : Kind → ℕ
kind_word Removed = 1
kind_word Unwired = 2
kind_word PortMoved = 3
kind_word NodeMoved = 4

-- the log is the same lent memory after as before, whatever is written to it
abbrev pub SameLog : Log → Log → Type 0
SameLog before after = after.words.ghost_name ≡ before.words.ghost_name

-- f 0, f 1, .., f (n - 1)
unfoldable pub listed : (ℕ → Rec) → ℕ → List Rec
listed f zero = []
listed f (suc n) = listed f n ++ (f n ∷ [])
