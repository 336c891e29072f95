-- What is left on either axis.
use borrow.Author.Rules.{rules}
use mathlib.Core.Path.{◌≡◌, ◌∙◌, ap}
use mir.Facts.{to_z-of_z}
use mir.Syntax.{w32}
use mir.Val.{SFits, to_z, of_z}
use Rattle.numbers.proofs.Machine.{kept}
use Rattle.bridge.specs.Splitting.{leaves}
use Rattle.bridge.proofs.Move.rest.Goals as goal

pub returns : goal.returns
returns c =
    let x_fits : SFits w32 c.args.self.x = search rules in
    let x_is : to_z w32 (of_z w32 c.args.self.x) ≡ c.args.self.x = to_z-of_z x_fits in
    let y_fits : SFits w32 c.args.self.y = search rules in
    let y_is : to_z w32 (of_z w32 c.args.self.y) ≡ c.args.self.y = to_z-of_z y_fits in
    let x = c.left in
    let y = c.left-2 in
    rw (kept w32 x.type_inv (x.ensures ∙ ap leaves x_is), kept w32 y.type_inv (y.ensures ∙ ap leaves y_is))
