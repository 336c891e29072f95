-- The marks as numbers.
use borrow.Author.Rules.{rules}
use mir.Facts.{to_z-of_z}
use mir.Syntax.{w16}
use mir.Val.{SFits}
use Rattle.ballbox.proofs.Marks.{as_number}
use Rattle.istrolf.proofs.bridges.HeldBridgeFromBridge.from.Goals as goal

pub returns : goal.returns
returns c =
    let x_fits : SFits w16 c.args.bridge.past.base.x = search rules in
    let y_fits : SFits w16 c.args.bridge.past.base.y = search rules in
    let b = c.args.bridge in
    simp (c.from.ensures, as_number b.past.base.set, as_number b.past.middle, to_z-of_z x_fits, to_z-of_z y_fits)
