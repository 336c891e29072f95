-- `read`: 6 for a reader that is not good, and then the line.
use mathlib.Core.Path.{sym, ◌∙◌, ap}
use borrow.Author.Tests.{not-true, not-false}
use Rattle.numbers.proofs.Tested.{left}
use Rattle.reader.specs.Good as readers
use Rattle.replies.specs.Replying as replying
use Rattle.replies.specs.Good.{good}
use Rattle.replies.specs.Promises as promises
use Rattle.fold.specs.Calls.{call}
use Rattle.replies.proofs.ToldReader.read.Goals as goal

pub returns-then-not-good : goal.returns-then-not-good
unfolding call
returns-then-not-good c = simp (sym c.good.ensures ∙ not-true _ c.if-not-good.true-raw)

pub line-requires : goal.line-requires
unfolding good
line-requires c = let s = c.args.self in
    left (readers.good s.reader) (replying.good s.awaited) (sym c.good.ensures ∙ not-false _ c.if-not-good.false-raw)

pub returns : goal.returns
unfolding call
returns c = simp (sym c.good.ensures ∙ not-false _ c.if-not-good.false-raw) (ap promises.left c.line.ensures)
