-- The old reader, no reply and no report.
use Rattle.istrolf.proofs.told.refused_heard.Goals as goal

pub returns : goal.returns
returns c = rw (c.no_report.ensures, c.from.ensures)
