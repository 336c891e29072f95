-- The letter, and each number between its ends.
use borrow.Author.Rules.{rules}
use mir.Facts.{to_z-of_z}
use mir.Syntax.{w16}
use mir.Val.{SFits}
use Rattle.numbers.proofs.Machine.{kept}
use Rattle.bridge.specs.Remembered.{good_base}
use Rattle.bridge.proofs.Base.good.Goals as goal

pub returns : goal.returns
unfolding good_base
returns c =
    let x_fits : SFits w16 c.args.self.x = search rules in
    let y_fits : SFits w16 c.args.self.y = search rules in
    let m = c.most-most in
    simp (to_z-of_z x_fits, to_z-of_z y_fits, kept w16 m.type_inv m.ensures)
