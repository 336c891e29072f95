-- `one_more`: fewer than five have gone.
use native.Mathlib.Omega.{arith}
use Rattle.wire.proofs.Letters.{at_most_five}
use Rattle.yard.specs.Rules.{one_more}
use Rattle.yard.proofs.Yard.one_more.Goals as goal

pub overflow_add-result : goal.overflow_add-result
overflow_add-result c = omega (arith, at_most_five c.args.self.format)

pub returns : goal.returns
unfolding one_more
returns c = rw c.first_with.ensures
