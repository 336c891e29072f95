-- A silence among the last thousand, or not.
use Rattle.mrecord.specs.Recording.{behind_line}
use Rattle.mrecord.proofs.behind_line.Goals as goal

pub returns-then-word-left : goal.returns-then-word-left
unfolding behind_line
returns-then-word-left c = rw c.if-word-left.true

pub returns : goal.returns
unfolding behind_line
returns c = rw c.if-word-left.false
