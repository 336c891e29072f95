-- `marked`: the test of the format.
use mathlib.Core.Path.{sym, ◌∙◌}
use Rattle.salvaged.specs.Log.{marked}
use Rattle.salvaged.proofs.log.marked.Goals as goal

pub returns-then-marked : goal.returns-then-marked
unfolding marked
returns-then-marked c = rw (sym c.marked.ensures ∙ c.if-marked.true)

pub returns : goal.returns
unfolding marked
returns c = rw (sym c.marked.ensures ∙ c.if-marked.false)
