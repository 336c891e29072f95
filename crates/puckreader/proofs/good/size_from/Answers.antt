-- `size_from`: four, or three.
use mathlib.Core.Path.{sym, ◌∙◌}
use Rattle.vsxxx.specs.Reports.{size_from}
use Rattle.puckreader.proofs.good.size_from.Goals as goal

pub returns-then-is_test : goal.returns-then-is_test
unfolding size_from
returns-then-is_test c = rw (sym c.is_test.ensures ∙ c.if-is_test.true)

pub returns : goal.returns
unfolding size_from
returns c = rw (sym c.is_test.ensures ∙ c.if-is_test.false)
