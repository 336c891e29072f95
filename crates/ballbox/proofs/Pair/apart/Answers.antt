-- `apart`: the four tests.
use borrow.Author.Rules.{rules}
use Rattle.ballbox.specs.Motion.{apart}
use Rattle.ballbox.proofs.Pair.apart.Goals as goal

pub returns : goal.returns
unfolding apart
returns c = search rules
