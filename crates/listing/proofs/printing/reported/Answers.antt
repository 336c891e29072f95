-- `reported`: the letter and the fields, one behind the other.
use borrow.Author.Rules.{rules}
use native.Mathlib.Omega.{arith}
use mathlib.Core.Path.{◌≡◌, ◌∙◌}
use mathlib.Core.List.{◌∷◌}
use lib.IntN.{pos}
use mir.Syntax.{w64}
use mir.Val.{to_z, of_z}
use mir.Facts.{to_z_pos}
use Rattle.text.specs.Decimals.{decimal_of}
use Rattle.listing.specs.Printing.{three}
use Rattle.listing.proofs.Grown.{four_filled}
use Rattle.listing.proofs.printing.reported.Goals as goal

pub returns : goal.returns
returns c = let a = c.args in
    let x : to_z w64 (of_z w64 a.x) ≡ a.x = search rules in
    let y : to_z w64 (of_z w64 a.y) ≡ a.y = search rules in
    c.number.ensures ∙ rw (c.number-fourth.ensures, c.three-third.ensures, c.number-second.ensures, c.byte_to-first.ensures, x, y, to_z_pos w64 {n = a.n} (omega arith))
    (four_filled _ (9 ∷ decimal_of a.width (pos a.n)) (9 ∷ three a.buttons) (9 ∷ decimal_of 1 a.x) (9 ∷ decimal_of 1 a.y))
