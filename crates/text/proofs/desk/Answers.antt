-- A good text is answered, and of another the first bad line is named.
use Rattle.text.proofs.DeskLaws.{read_printed, bad_printed}
use Rattle.text.proofs.desk.Goals as goal

pub returns-in-Ok : goal.returns-in-Ok
returns-in-Ok c = read_printed c.in-Ok.ensures c.answer-len.ensures

pub returns-in-Err : goal.returns-in-Err
returns-in-Err c = bad_printed c.in-Err.ensures.bad c.put_error-len.ensures
