-- A good reader, or one that is refused.
use mathlib.Core.Path.{sym, ◌∙◌, ap}
use borrow.Author.Tests.{not-true, not-false}
use Rattle.readback.specs.Rewriting.{rewriting}
use Rattle.readback.specs.Pieces.{call_of}
use Rattle.readback.specs.declared.Rewritten.{Rewritten}
use Rattle.readback.proofs.Readback.rewrite.Goals as goal

pub returns-then-not-good : goal.returns-then-not-good
unfolding call_of
returns-then-not-good c = rw (sym c.good.ensures ∙ not-true _ c.if-not-good.true-raw) (ap (λ (t : Rewritten). rewriting t c.args.out.now) c.rewritten.ensures)

pub rewrite_lines-requires : goal.rewrite_lines-requires
rewrite_lines-requires c = sym c.good.ensures ∙ not-false _ c.if-not-good.false-raw

pub returns : goal.returns
unfolding call_of
returns c = rw (sym c.good.ensures ∙ not-false _ c.if-not-good.false-raw) c.rewrite_lines.ensures
