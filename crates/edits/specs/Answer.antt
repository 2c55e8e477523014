-- The answers (document 01, "Answer numbers"): the number and the three values of each.
use Rattle.std.specs.Prelude.{ℕ, Bool, true, false, Result, Ok, Err}
use Rattle.edits.specs.declared.answer.Refusal.{Refusal}
use Rattle.edits.specs.declared.answer.Refusal.TheVariants.{NoNode, NoPort, TooManyPorts, SlabTooLarge, NoSlot, NoSlab, LogFull, SameDirection, AlreadyLinked, NoSuchCall, OwnerNotLive, NotLinked}
use Rattle.edits.specs.declared.answer.AnswerWords.{AnswerWords}

-- done with three values, or refused
abbrev pub Answer : Type 0
Answer = Result (ℕ × ℕ × ℕ) Refusal

abbrev pub done : ℕ → ℕ → ℕ → Answer
done first second third = Ok (first, second, third)

-- a code with its values
abbrev pub says : ℕ → ℕ → ℕ → ℕ → AnswerWords
says code first second third = record { code = code; first = first; second = second; third = third }

abbrev pub refusal_words : Refusal → AnswerWords
refusal_words (NoNode node) = says 1 node 0 0
refusal_words (NoPort port) = says 2 port 0 0
refusal_words TooManyPorts = says 3 0 0 0
refusal_words SlabTooLarge = says 4 0 0 0
refusal_words NoSlot = says 5 0 0 0
refusal_words NoSlab = says 6 0 0 0
refusal_words LogFull = says 7 0 0 0
refusal_words (SameDirection a b direction) = says 8 a b direction
refusal_words (AlreadyLinked port) = says 9 port 0 0
refusal_words NoSuchCall = says 10 0 0 0
refusal_words OwnerNotLive = says 11 0 0 0
refusal_words (NotLinked port) = says 12 port 0 0

abbrev pub answer_words : Answer → AnswerWords
answer_words (Ok values) = says 0 values.0 values.1 values.2
answer_words (Err refusal) = refusal_words refusal

abbrev pub is_done : Answer → Bool
is_done (Ok values) = true
is_done (Err refusal) = false
