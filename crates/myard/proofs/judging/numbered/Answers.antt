-- `numbered`: a letter, a tab and a decimal, all of which a text holds.
use native.Mathlib.Omega.{arith}
use mathlib.Core.Path.{◌∙◌}
use mathlib.Core.List.{[], ◌∷◌}
use lib.IntN.{pos}
use lib.ListN.{length-append}
use mir.Syntax.{w64}
use mir.Facts.{to_z_pos}
use Rattle.text.specs.Growth.{grown, none}
use Rattle.text.specs.Decimals.{plain, decimal_of}
use Rattle.text.proofs.Laws.{both}
use Rattle.text.proofs.Digits.{decimal_few}
use Rattle.myard.proofs.judging.numbered.Goals as goal

pub returns : goal.returns
returns c = let n = c.args.n in (
  c.with-3.ensures
      ∙ rw (c.decimal.ensures, c.with-2.ensures, c.with.ensures, c.none.ensures, to_z_pos w64 {n = n} (omega arith))
      (both (grown (grown none c.args.letter) 9) (decimal_of plain (pos n)) (10 ∷ [])),
  omega (arith, decimal_few plain 9 (pos n) (omega arith) (omega arith), length-append (decimal_of plain (pos n)) (10 ∷ [])),
)
