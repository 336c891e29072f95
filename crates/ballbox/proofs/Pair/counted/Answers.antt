-- `counted`: the two axes alike.
use borrow.Author.Rules.{rules}
use lib.IntN.{ℤ}
use mathlib.Core.Path.{ap₂, ◌∙◌}
use mir.Syntax.{w16}
use mir.Val.{SFits}
use Rattle.ballbox.specs.Motion.{counted, counted_over}
use Rattle.ballbox.specs.Thrown.{both}
use Rattle.ballbox.specs.declared.Bounded.{Bounded}
use Rattle.numbers.proofs.Machine.{passed}
use Rattle.numbers.specs.Signed.{held_sum, sum_excess}
use Rattle.ballbox.proofs.Pair.counted.Goals as goal

abbrev sum_of : ℤ → ℤ → Bounded
sum_of a b = record { value = held_sum a b; excess = sum_excess a b }

pub returns : goal.returns
unfolding counted counted_over both
returns c =
    let in_range : SFits w16 c.args.self.x × SFits w16 c.args.self.y = search rules in
    let y = c.held_sum-y in
    let x = c.held_sum-x in
    let h = in_range in
    c.both.ensures ∙ ap₂ both (passed sum_of w16 h.0 c.ranges.dx x.ensures) (passed sum_of w16 h.1 c.ranges.dy y.ensures)
