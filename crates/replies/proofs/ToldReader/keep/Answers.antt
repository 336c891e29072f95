-- `keep`: the last byte tells the reply.
use mathlib.Core.Path.{sym, ◌∙◌}
use Rattle.replies.specs.Rules.{keep}
use Rattle.replies.proofs.ToldReader.keep.Goals as goal

pub returns-then-finishes : goal.returns-then-finishes
unfolding keep
returns-then-finishes c = simp (sym c.finishes.ensures ∙ c.if-finishes.true) (rw (c.told.ensures, c.nothing.ensures))

pub returns : goal.returns
unfolding keep
returns c = simp (sym c.finishes.ensures ∙ c.if-finishes.false) (rw c.more.ensures)
