-- The end of the input: no first line, or none is missing.
use native.Mathlib.Omega.{arith}
use Rattle.driver.specs.Feeding.{end_of}
use Rattle.driver.proofs.Feeds.{end_records}
use Rattle.driver.proofs.Driver.end.Goals as goal

pub returns-then-self : goal.returns-then-self
unfolding end_of
returns-then-self c = let m = c.args.self in
    rw (end_records m.ended m.line, c.if-self.true) (rw (c.at_line-last.ensures, c.line.ensures.0), c.line.ensures.1)

pub returns : goal.returns
unfolding end_of
returns c = let m = c.args.self in
    rw (end_records m.ended m.line, c.if-self.false) (rw (c.at_line-last.ensures, c.none.ensures), omega arith)
