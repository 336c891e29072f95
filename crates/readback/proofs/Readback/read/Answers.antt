-- A good reader, or one that is refused.
use mathlib.Core.Path.{sym, ◌∙◌, ap}
use borrow.Author.Tests.{not-true, not-false}
use Rattle.readback.specs.Pieces.{whole, call_of}
use Rattle.readback.specs.declared.Back.{Back}
use Rattle.readback.proofs.Readback.read.Goals as goal

pub returns-then-not-good : goal.returns-then-not-good
unfolding call_of
returns-then-not-good c = rw (sym c.good.ensures ∙ not-true _ c.if-not-good.true-raw) (ap (λ (b : Back). whole b c.args.out.now) c.back.ensures)

pub lines-requires : goal.lines-requires
lines-requires c = sym c.good.ensures ∙ not-false _ c.if-not-good.false-raw

pub returns : goal.returns
unfolding call_of
returns c = rw (sym c.good.ensures ∙ not-false _ c.if-not-good.false-raw) c.lines.ensures
