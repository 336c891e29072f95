-- `decimal_to`: by the sign.
use borrow.Author.Rules.{rules}
use mathlib.Core.Path.{◌≡◌, ◌∙◌}
use mir.Syntax.{w64}
use mir.Val.{to_z, of_z}
use Rattle.text.proofs.Digits.{minus_sign, no_sign}
use Rattle.text.proofs.Text.decimal_to.Goals.{then-x-lt0, else-x-lt0}
use Rattle.text.proofs.Text.decimal_to.Goals as goal

pub returns : goal.returns
returns c = let a = c.args in
    let same : to_z w64 (of_z w64 a.x) ≡ a.x = search rules in
    elim c.if-x-lt0.branch [
      | then-x-lt0 w ↦ c.unsigned_to.ensures ∙ rw (w.out-is, w.start-is, w.byte_to-start.ensures, c.unsigned_abs.ensures.value, same, minus_sign a.width a.x (rw same at w.if-x-lt0.true))
      | else-x-lt0 w ↦ c.unsigned_to.ensures ∙ rw (w.out-is, w.start-is, c.unsigned_abs.ensures.value, same, no_sign a.width a.x (rw same at w.if-x-lt0.false))
    ]
