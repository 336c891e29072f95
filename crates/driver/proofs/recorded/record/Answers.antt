-- The format, a word, or how it ended.
use native.Mathlib.Omega.{arith}
use mathlib.Core.Path.{◌∙◌}
use lib.IntN.{pos}
use mir.Syntax.{w64}
use mir.Facts.{to_z_pos}
use Rattle.text.specs.Decimals.{plain}
use Rattle.text.proofs.Digits.{decimal_few}
use Rattle.driver.proofs.recorded.record.Goals as goal

pub returns-in-Format : goal.returns-in-Format
returns-in-Format c = rw c.in-Format.is (c.with-in-Format-2.ensures ∙ rw (c.with-in-Format.ensures, c.with.ensures, c.none.ensures), omega arith)

pub returns-in-Word : goal.returns-in-Word
returns-in-Word c = rw c.in-Word.is c.word.ensures

pub returns-in-Bad : goal.returns-in-Bad
returns-in-Bad c = let n = c.in-Bad.n in
    rw c.in-Bad.is
    (c.decimal.ensures ∙ rw (c.with-in-Bad-2.ensures, c.with-in-Bad.ensures, c.none-in-Bad.ensures, to_z_pos w64 {n = n} (omega arith)), omega (arith, decimal_few plain 9 (pos n) (omega arith) (omega arith)))

pub returns-in-Over : goal.returns-in-Over
returns-in-Over c = rw c.in-Over.is
    (simp (c.with-in-Over-6.ensures, c.with-in-Over-5.ensures, c.with-in-Over-4.ensures, c.with-in-Over-3.ensures, c.with-in-Over-2.ensures, c.with-in-Over.ensures, c.none-in-Over.ensures), omega arith)
