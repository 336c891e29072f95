-- `dropping`: nothing where none is dropped.
use borrow.Author.Tests.{eq-eqb, ne_eqb}
use Rattle.reader.specs.Rules.{dropping}
use Rattle.reader.proofs.rules.dropping.Goals as goal

pub returns-then-k-eq0 : goal.returns-then-k-eq0
unfolding dropping
returns-then-k-eq0 c = simp (eq-eqb _ _ c.if-k-eq0.true)

pub returns-else-k-eq0 : goal.returns-else-k-eq0
unfolding dropping
returns-else-k-eq0 c = simp (ne_eqb _ _ c.if-k-eq0.false)
