-- `remembering`: behind the newest, or in its place.
use borrow.Author.Tests.{le-leb, lt-leb}
use Rattle.ballbox.specs.Presses.{remembering}
use Rattle.ballbox.proofs.Memory.remembering.Goals as goal

pub returns-then-self-lt-PLACES : goal.returns-then-self-lt-PLACES
unfolding remembering
returns-then-self-lt-PLACES c = simp (lt-leb 8 _ c.if-self-lt-PLACES.true)

pub returns-else-self-lt-PLACES : goal.returns-else-self-lt-PLACES
unfolding remembering
returns-else-self-lt-PLACES c = simp (le-leb 8 _ c.if-self-lt-PLACES.false)
