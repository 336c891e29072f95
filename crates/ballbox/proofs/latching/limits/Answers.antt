-- `limits`: in A, in B, and else.
use borrow.Author.Tests.{ne_eqb}
use Rattle.ballbox.specs.Latching.{limits}
use Rattle.ballbox.proofs.latching.limits.Goals as goal

pub returns-in-65 : goal.returns-in-65
unfolding limits
returns-in-65 c = rw c.in-65.is

pub returns-in-66 : goal.returns-in-66
unfolding limits
returns-in-66 c = rw c.in-66.is

pub returns-in_default : goal.returns-in_default
unfolding limits
returns-in_default c = simp (ne_eqb _ 65 c.in_default.in_default-own.rest.0.1, ne_eqb _ 66 c.in_default.in_default-own.rest.1)
