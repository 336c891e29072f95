-- A record and a newline, or nothing.
use native.Mathlib.Omega.{arith}
use Rattle.driver.proofs.Feeds.{one_line}
use Rattle.driver.proofs.recorded.line.Goals as goal

pub returns-in-None : goal.returns-in-None
returns-in-None c = rw c.in-None.is (c.none.ensures, omega arith)

pub returns-in-Some : goal.returns-in-Some
returns-in-Some c = rw c.in-Some.is (one_line _ _ _ c.with.ensures c.before.«record».ensures)
