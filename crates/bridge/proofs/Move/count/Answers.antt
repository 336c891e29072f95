-- The larger of 1 and what either axis needs.
use borrow.Author.Rules.{rules}
use mathlib.Core.Path.{◌≡◌, ◌∙◌, ap}
use mir.Facts.{to_z-of_z}
use mir.Syntax.{w32}
use mir.Val.{SFits, to_z, of_z}
use Rattle.std.proofs.Math.Nat.{max_comm}
use Rattle.bridge.specs.Splitting.{needs as needs_of, count_of}
use Rattle.bridge.proofs.Move.count.Goals as goal

pub returns : goal.returns
unfolding count_of
returns c =
    let x_fits : SFits w32 c.args.self.x = search rules in
    let x_is : to_z w32 (of_z w32 c.args.self.x) ≡ c.args.self.x = to_z-of_z x_fits in
    let y_fits : SFits w32 c.args.self.y = search rules in
    let y_is : to_z w32 (of_z w32 c.args.self.y) ≡ c.args.self.y = to_z-of_z y_fits in
    rw (c.max-2.ensures, c.max.ensures, c.needed-2.ensures ∙ ap needs_of y_is, c.needed.ensures ∙ ap needs_of x_is) (max_comm _ 1)
