-- By the answer.
use Rattle.istrolf.proofs.told.OwnFromAnswer.from.Goals as goal

pub returns-in-Nothing : goal.returns-in-Nothing
returns-in-Nothing c = rw (c.no_report.ensures, c.in-Nothing.is)

pub returns-in-Report : goal.returns-in-Report
returns-in-Report c = rw c.in-Report.is

pub returns-in-Dropped : goal.returns-in-Dropped
returns-in-Dropped c = rw (c.no_report-in-Dropped.ensures, c.in-Dropped.is)
