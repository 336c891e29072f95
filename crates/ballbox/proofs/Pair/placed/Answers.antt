-- `placed`: the two axes alike.
use borrow.Author.Rules.{rules}
use mir.Syntax.{w16}
use mir.Val.{SFits}
use Rattle.ballbox.specs.Motion.{placed_at, placed}
use Rattle.numbers.proofs.Machine.{kept, passed}
use Rattle.ballbox.proofs.Pair.placed.Goals as goal

pub returns : goal.returns
unfolding placed
returns c =
    let in_range : SFits w16 c.args.self.x × SFits w16 c.args.self.y = search rules in
    let h = in_range in
    simp (
      kept w16 c.placed_at-y.type_inv (passed placed_at w16 h.1 c.ranges.dy c.placed_at-y.ensures),
      kept w16 c.placed_at-x.type_inv (passed placed_at w16 h.0 c.ranges.dx c.placed_at-x.ensures),
    )
