-- `adding`: either axis.
use borrow.Author.Rules.{rules}
use mir.Syntax.{w64}
use mir.Val.{SFits}
use Rattle.ballbox.specs.Thrown.{added}
use Rattle.numbers.proofs.Machine.{kept, passed}
use Rattle.numbers.specs.Signed.{held_long}
use Rattle.ballbox.proofs.Excess.adding.Goals as goal

pub returns : goal.returns
unfolding added
returns c =
    let in_range : (SFits w64 c.args.self.x × SFits w64 c.args.self.y) × (SFits w64 c.args.excess.x × SFits w64 c.args.excess.y) = search rules in
    let x = c.held_long-x in
    let h = in_range in
    simp (
      kept w64 c.held_long-y.type_inv (passed held_long w64 h.0.1 h.1.1 c.held_long-y.ensures),
      kept w64 x.type_inv (passed held_long w64 h.0.0 h.1.0 x.ensures),
    )
