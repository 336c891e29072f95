-- `after`: bytes are left behind the next, or none.
use mathlib.Core.Path.{sym, ◌∙◌}
use Rattle.ballbox.specs.Events.{after}
use Rattle.ballbox.proofs.Going.after.Goals as goal

pub returns-then-more_behind : goal.returns-then-more_behind
unfolding after
returns-then-more_behind c = simp (sym c.more_behind.ensures ∙ c.if-more_behind.true)

pub returns-else-more_behind : goal.returns-else-more_behind
unfolding after
returns-else-more_behind c = simp (sym c.more_behind.ensures ∙ c.if-more_behind.false, c.nothing.ensures)
