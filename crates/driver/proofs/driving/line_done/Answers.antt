-- A line too many, the first, or a later one.
use borrow.Author.Tests.{eq-eqb, ne_eqb, le-leb, lt-leb}
use Rattle.driver.specs.Driving.{line_done}
use Rattle.driver.proofs.driving.line_done.Goals as goal

pub returns-then-n-ge-MOST_LINES : goal.returns-then-n-ge-MOST_LINES
unfolding line_done
returns-then-n-ge-MOST_LINES c = rw (le-leb _ _ c.if-n-ge-MOST_LINES.true)

pub returns-then-n-eq0 : goal.returns-then-n-eq0
unfolding line_done
returns-then-n-eq0 c = rw (lt-leb _ _ c.if-n-ge-MOST_LINES.false, eq-eqb _ _ c.if-n-eq0.true) c.first_line.ensures

pub returns-else-n-eq0 : goal.returns-else-n-eq0
unfolding line_done
returns-else-n-eq0 c = rw (lt-leb _ _ c.if-n-ge-MOST_LINES.false, ne_eqb _ _ c.if-n-eq0.false) c.later_line.ensures
