-- `broken`: nothing, where no reply is awaited.
use mathlib.Core.Bool.{true, false}
use Rattle.replies.proofs.Counted.{none_is}
use Rattle.replies.specs.Replying.{broken}
use Rattle.replies.proofs.Awaited.broken.Goals as goal

pub returns-then-is_none : goal.returns-then-is_none
unfolding broken
returns-then-is_none c = simp (none_is _ true (rw c.if-is_none.true at c.is_none.ensures))

pub returns : goal.returns
unfolding broken
returns c = simp (none_is _ false (rw c.if-is_none.false at c.is_none.ensures))
