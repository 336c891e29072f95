-- `decimal`: in the places of the text.
use borrow.Author.Rules.{rules}
use mathlib.Core.Path.{◌≡◌, ◌∙◌}
use lib.ListN.{length}
use mir.Syntax.{w64}
use mir.Val.{to_z, of_z}
use Rattle.text.specs.Decimals.{decimal_of}
use Rattle.text.proofs.Filled.{filled_text}
use Rattle.text.proofs.Text.decimal.Goals as goal

pub returns : goal.returns
returns c =
    let forty : length c.args.self.bytes ≡ 40 = search rules in
    let a = c.args in
    let same : to_z w64 (of_z w64 a.x) ≡ a.x = search rules in
    c.decimal_to.ensures ∙ rw same (filled_text (decimal_of a.width a.x) a.self forty)
