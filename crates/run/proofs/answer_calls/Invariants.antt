-- After each call the tables, the answers and the log are those of its definition, and tables and log are the ones that were lent.
use Rattle.edits.specs.Store.{store_in, SameMemory}
use Rattle.renumber.specs.Records.{SameLog}
use Rattle.run.proofs.Steps.{Stands}
use Rattle.run.proofs.answer_calls.Given as goal

abbrev pub invariant-loop-place : goal.invariant-loop-place
invariant-loop-place l =
    record {
      memory : SameMemory l.initial.tables l.tables;
      recorded : SameLog l.initial.records l.records;
      stands :
          Stands (store_in l.initial.tables l.initial.after) l.calls l.initial.answers l.initial.records.words.now (store_in l.tables l.after) l.answers l.records.words.now l.records.to.at l.place;
    }
