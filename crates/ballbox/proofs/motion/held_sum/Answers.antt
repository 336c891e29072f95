-- `held_sum`: the sum in 32 bits, held.
use lib.IntN.{◌+ℤ◌}
use mathlib.Core.Path.{ap, ◌∙◌}
use mir.Syntax.{w16, w32}
use Rattle.ballbox.specs.Thrown.{bounded}
use Rattle.numbers.proofs.Machine.{kept, passed}
use Rattle.numbers.specs.Signed.{held_sum, sum_excess}
use Rattle.ballbox.proofs.motion.held_sum.Goals as goal

pub returns : goal.returns
unfolding held_sum sum_excess bounded
returns c =
    let f = c.ranges in
    let e = passed ◌+ℤ◌ w16 f.a f.b c.total.ensures in
    c.held.ensures ∙ ap (bounded _ _) (kept w32 c.total.type_inv e)
