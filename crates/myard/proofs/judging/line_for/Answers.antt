-- `line_for`: each verdict.
use Rattle.myard.proofs.judging.line_for.Goals as goal

pub returns-in-Yes : goal.returns-in-Yes
returns-in-Yes c = rw c.in-Yes.is c.yes.ensures

pub returns-in-No : goal.returns-in-No
returns-in-No c = rw c.in-No.is c.numbered.ensures

pub returns-in-Bad : goal.returns-in-Bad
returns-in-Bad c = rw c.in-Bad.is c.numbered-in-Bad.ensures

pub returns-in-Over : goal.returns-in-Over
returns-in-Over c = rw c.in-Over.is c.over.ensures
