-- Reply, answer and next reader packed, or the old reader.
use Rattle.istrolf.proofs.told.packed_heard.Goals as goal

pub returns-in-Ok : goal.returns-in-Ok
returns-in-Ok c = rw (c.in-Ok.is, c.from-in-Ok.ensures, c.from.ensures, c.from-own.ensures)

pub returns-in-Err : goal.returns-in-Err
returns-in-Err c = rw (c.in-Err.is, c.from-in-Err-2.ensures, c.from-in-Err.ensures, c.number.ensures, c.no_report.ensures)
