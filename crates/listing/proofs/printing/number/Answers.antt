-- A tab, and the number behind it.
use borrow.Author.Rules.{rules}
use mathlib.Core.Path.{◌≡◌, ◌∙◌}
use mir.Syntax.{w64}
use mir.Val.{to_z, of_z}
use Rattle.listing.proofs.printing.number.Goals as goal

pub returns : goal.returns
returns c = let a = c.args in
    let same : to_z w64 (of_z w64 a.x) ≡ a.x = search rules in
    c.decimal_to.ensures ∙ rw (c.byte_to-behind.ensures, same)
