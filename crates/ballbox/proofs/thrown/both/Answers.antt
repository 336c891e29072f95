-- `both`: part by part.
use borrow.Author.Rules.{rules}
use Rattle.ballbox.specs.Thrown.{both}
use Rattle.ballbox.proofs.thrown.both.Goals as goal

pub returns : goal.returns
unfolding both
returns c = search rules
