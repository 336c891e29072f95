-- By the answer.
use Rattle.istrolf.proofs.pucks.answered.Goals as goal

pub returns-in-Nothing : goal.returns-in-Nothing
returns-in-Nothing c = rw (c.no_test.ensures, c.no_report.ensures, c.in-Nothing.is)

pub returns-in-Movement : goal.returns-in-Movement
returns-in-Movement c = rw (c.no_test.ensures, c.in-Movement.is)

pub returns-in-Test : goal.returns-in-Test
returns-in-Test c = rw (c.no_report.ensures, c.in-Test.is)

pub returns-in-Dropped : goal.returns-in-Dropped
returns-in-Dropped c = rw (c.no_test.ensures, c.no_report.ensures, c.in-Dropped.is)
