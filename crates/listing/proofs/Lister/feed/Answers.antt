-- 6 for a lister that is not good, and then the bytes.
use mathlib.Core.Path.{sym, ◌∙◌, ap}
use borrow.Author.Tests.{not-true, not-false}
use Rattle.listing.specs.Promises.{listed_in}
use Rattle.listing.proofs.Feeds.{feed_refused, feed_good}
use Rattle.listing.proofs.Lister.feed.Goals as goal

pub returns-then-not-good : goal.returns-then-not-good
returns-then-not-good c = let a = c.args in feed_refused a.self a.input.now a.out.now _ (sym c.good.ensures ∙ not-true _ c.if-not-good.true-raw) (ap listed_in c.answer.ensures)

pub returns : goal.returns
returns c = let a = c.args in feed_good a.self a.input.now a.out.now _ _ (sym c.good.ensures ∙ not-false _ c.if-not-good.false-raw) c.bytes.ensures
