-- `keep`: by how many are kept.
use mathlib.Core.Path.{◌∙◌, sym}
use Rattle.puckreader.proofs.Kept.{held}
use Rattle.puckreader.proofs.Word.{kept_first, kept_second, kept_third, kept_move, kept_last}
use Rattle.puckreader.proofs.PuckReader.keep.Goals as goal

pub returns-then-count-eq0 : goal.returns-then-count-eq0
returns-then-count-eq0 c = rw (c.answering.ensures, c.holding.ensures) (kept_first _ _ (held _ c.requires) c.if-count-eq0.true)

pub returns-then-count-eq1 : goal.returns-then-count-eq1
returns-then-count-eq1 c = rw (c.answering-then-count-eq1.ensures, c.holding-then-count-eq1.ensures) (kept_second _ _ (held _ c.requires) c.if-count-eq1.true)

pub returns-then-count-eq3 : goal.returns-then-count-eq3
returns-then-count-eq3 c = rw (c.answering-then-count-eq3.ensures, c.holding-then-count-eq3.ensures, c.test_of-test.ensures) (kept_last _ _ (held _ c.requires) c.if-count-eq3.true)

pub returns-then-is_test : goal.returns-then-is_test
returns-then-is_test c = rw (c.answering-then-is_test.ensures, c.holding-then-is_test.ensures) (kept_third _ _ (held _ c.requires) c.if-count-eq0.false c.if-count-eq1.false c.if-count-eq3.false (sym c.is_test.ensures ∙ c.if-is_test.true))

pub returns : goal.returns
returns c = rw (c.answering-2.ensures, c.holding-2.ensures, c.report_of-report.ensures) (kept_move _ _ (held _ c.requires) c.if-count-eq0.false c.if-count-eq1.false c.if-count-eq3.false (sym c.is_test.ensures ∙ c.if-is_test.false))
