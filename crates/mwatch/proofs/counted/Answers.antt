-- More, or full.
use borrow.Author.Tests.{lt-ltb, le-ltb}
use Rattle.mwatch.specs.Watching.{counted}
use Rattle.mwatch.proofs.counted.Goals as goal

pub returns-then-n-lt4000000000 : goal.returns-then-n-lt4000000000
unfolding counted
returns-then-n-lt4000000000 c = rw (lt-ltb _ _ c.if-n-lt4000000000.true)

pub returns-else-n-lt4000000000 : goal.returns-else-n-lt4000000000
unfolding counted
returns-else-n-lt4000000000 c = rw (le-ltb _ _ c.if-n-lt4000000000.false)
