-- `put_movement`: its numbers.
use borrow.Author.Rules.{rules}
use mathlib.Core.Path.{◌≡◌, ◌∙◌}
use native.Mathlib.Omega.{arith}
use mir.Syntax.{w16}
use mir.Val.{to_z, of_z}
use mir.ValLaws.{to_z_pos}
use Rattle.puckreader.proofs.line.put_movement.Goals as goal

pub returns : goal.returns
returns c =
    let r = c.args.r in
    let x1 : to_z w16 (of_z w16 r.x1) ≡ r.x1 = search rules in
    let y1 : to_z w16 (of_z w16 r.y1) ≡ r.y1 = search rules in
    let x2 : to_z w16 (of_z w16 r.x2) ≡ r.x2 = search rules in
    let y2 : to_z w16 (of_z w16 r.y2) ≡ r.y2 = search rules in
    c.put.ensures ∙ rw (to_z_pos w16 r.buttons (omega arith), x1, y1, x2, y2)
