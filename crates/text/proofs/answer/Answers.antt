-- The desk's run answers every call, and its records fit the log.
use Rattle.std.proofs.Common.{◌∙◌}
use Rattle.text.proofs.DeskLaws.{desk_left, reported}
use Rattle.text.proofs.answer.Goals as goal

pub put_run-requires-clause-records_bound : goal.put_run-requires-clause-records_bound
put_run-requires-clause-records_bound c =
    let l = desk_left c.args.calls.now c.args.n c.requires.0 c.requires.1 (rw c.none_counted.ensures at c.run-ran.ensures.run) in
    rw (c.unwrap_or.ensures ∙ reported c.run-ran.result.records) (l.few_records, l.log_room)

pub returns : goal.returns
returns c =
    let l = desk_left c.args.calls.now c.args.n c.requires.0 c.requires.1 (rw c.none_counted.ensures at c.run-ran.ensures.run) in
    rw (← l.lines, ← c.unwrap_or.ensures ∙ reported c.run-ran.result.records) c.put_run.ensures
