-- `more`: the byte goes behind those that have come.
use borrow.Author.Tests.{ne_eqb}
use Rattle.replies.specs.Replying.{more}
use Rattle.replies.proofs.Awaited.more.Goals as goal

pub returns-then-self-eq0 : goal.returns-then-self-eq0
unfolding more
returns-then-self-eq0 c = rw c.if-self-eq0.true

pub returns : goal.returns
unfolding more
returns c = simp (ne_eqb _ 0 c.if-self-eq0.false)
