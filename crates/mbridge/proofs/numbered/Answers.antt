-- `numbered`: a letter, a tab, a decimal and a newline, one behind the other.
use native.Mathlib.Omega.{arith}
use mathlib.Core.Path.{◌≡◌, ◌∙◌, ap}
use mathlib.Core.List.{[], ◌∷◌}
use lib.IntN.{ℤ, pos}
use mir.Syntax.{w64}
use mir.Facts.{to_z_pos}
use Rattle.text.specs.Growth.{slice, filled, filled_by}
use Rattle.text.specs.Decimals.{plain, decimal_of}
use Rattle.text.specs.declared.Text.{Text}
use Rattle.text.proofs.Filled.{both_filled}
use Rattle.mbridge.proofs.numbered.Goals as goal

pub returns : goal.returns
returns c =
    let n = c.args.n in
    let letter = c.byte_to-tab in
    let tab = c.byte_to-number in
    let number = c.decimal_to-newline in
    let t = filled (filled (slice c.args.out.now c.args.at) c.args.letter) 9 in
    let first : slice tab.new.out tab.result ≡ t = tab.ensures ∙ ap (λ (u : Text). filled u 9) letter.ensures in
    let next : slice number.new.out number.result ≡ filled_by t (decimal_of plain (pos n)) =
    number.ensures
    ∙ ap (λ (x : ℤ). filled_by (slice tab.new.out tab.result) (decimal_of plain x)) (to_z_pos w64 {n = n} (omega arith))
    ∙ ap (λ (u : Text). filled_by u (decimal_of plain (pos n))) first in
    c.byte_to.ensures ∙ ap (λ (u : Text). filled u 10) next ∙ both_filled t (decimal_of plain (pos n)) (10 ∷ [])
