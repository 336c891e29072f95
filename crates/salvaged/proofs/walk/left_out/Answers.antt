-- `left_out`: no line, or that of the last byte left out.
use Rattle.salvaged.proofs.Walking.{none_left, some_left}
use Rattle.salvaged.proofs.walk.left_out.Goals as goal

pub returns-then-left-eq0 : goal.returns-then-left-eq0
returns-then-left-eq0 c = let a = c.args in none_left a.at a.left a.told a.out.now c.if-left-eq0.true

pub returns : goal.returns
returns c = let a = c.args in some_left a.at a.left c.if-left-eq0.false c.item.ensures
