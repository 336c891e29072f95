-- `put_test`: its numbers.
use borrow.Author.Rules.{rules}
use mathlib.Core.Path.{◌≡◌, ◌∙◌}
use native.Mathlib.Omega.{arith}
use mir.Syntax.{w16}
use mir.Val.{to_z, of_z}
use mir.ValLaws.{to_z_pos}
use Rattle.puckreader.proofs.line.put_test.Goals as goal

pub returns : goal.returns
returns c =
    let t = c.args.t in
    let k = c.kind_of-kind in
    let kind : to_z w16 (of_z w16 k.result) ≡ k.result = search rules in
    c.put.ensures
    ∙ rw (kind, c.kind_of-kind.ensures, to_z_pos w16 t.revision (omega arith), to_z_pos w16 t.maker (omega arith), to_z_pos w16 t.device (omega arith), to_z_pos w16 t.error (omega arith), to_z_pos w16 t.buttons (omega arith))
