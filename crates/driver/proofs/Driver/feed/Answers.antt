-- 6 for a driver that is not good, and then the ticks.
use mathlib.Core.Path.{sym, ◌∙◌, ap}
use borrow.Author.Tests.{not-true, not-false}
use Rattle.driver.specs.Promises.{driven_in}
use Rattle.driver.proofs.Feeds.{feed_refused, feed_good}
use Rattle.driver.proofs.Driver.feed.Goals as goal

pub returns-then-not-good : goal.returns-then-not-good
returns-then-not-good c = let a = c.args in feed_refused a.self a.input.now a.out.now _ (sym c.good.ensures ∙ not-true _ c.if-not-good.true-raw) (ap driven_in c.answer.ensures)

pub ticks-requires : goal.ticks-requires
ticks-requires c = sym c.good.ensures ∙ not-false _ c.if-not-good.false-raw

pub returns : goal.returns
returns c = let a = c.args in feed_good a.self a.input.now a.out.now _ _ (sym c.good.ensures ∙ not-false _ c.if-not-good.false-raw) c.ticks.ensures
