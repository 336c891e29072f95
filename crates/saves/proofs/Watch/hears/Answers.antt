-- By whether the buttons are known.
use borrow.Author.Tests.{eq-eqb, ne_eqb}
use Rattle.saves.specs.Rules.{hears}
use Rattle.saves.proofs.Watch.hears.Goals as goal

pub returns-then-self-eq0 : goal.returns-then-self-eq0
unfolding hears
returns-then-self-eq0 c = simp (eq-eqb _ _ c.if-self-eq0.true, c.knowing-next.ensures)

pub returns-else-self-eq0 : goal.returns-else-self-eq0
unfolding hears
returns-else-self-eq0 c = simp (ne_eqb _ _ c.if-self-eq0.false, c.knowing-next.ensures, c.new_in.ensures, c.new_in-else-self-eq0.ensures)
