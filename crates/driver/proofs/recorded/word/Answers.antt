-- A break, a silence, or a byte.
use native.Mathlib.Omega.{arith}
use mathlib.Core.Path.{◌∙◌}
use borrow.Author.Tests.{eq-eqb, ne_eqb}
use lib.IntN.{pos}
use mir.Syntax.{w64}
use mir.Facts.{to_z_pos}
use Rattle.text.specs.Decimals.{plain}
use Rattle.text.proofs.Digits.{decimal_few}
use Rattle.driver.specs.Recorded.{word_bytes}
use Rattle.driver.proofs.recorded.word.Goals as goal

pub returns-then-w-eq-BREAK : goal.returns-then-w-eq-BREAK
unfolding word_bytes
returns-then-w-eq-BREAK c = rw (eq-eqb _ _ c.if-w-eq-BREAK.true) (c.with.ensures ∙ rw c.none.ensures, omega arith)

pub returns-then-w-eq-SILENCE : goal.returns-then-w-eq-SILENCE
unfolding word_bytes
returns-then-w-eq-SILENCE c = rw (ne_eqb _ _ c.if-w-eq-BREAK.false, eq-eqb _ _ c.if-w-eq-SILENCE.true) (c.with-then-w-eq-SILENCE.ensures ∙ rw c.none-then-w-eq-SILENCE.ensures, omega arith)

pub returns : goal.returns
unfolding word_bytes
returns c = let n = c.args.w in
    rw (ne_eqb _ _ c.if-w-eq-BREAK.false, ne_eqb _ _ c.if-w-eq-SILENCE.false)
    (c.decimal.ensures ∙ rw (c.with-3.ensures, c.with-2.ensures, c.none-2.ensures, to_z_pos w64 {n = n} (omega arith)), omega (arith, decimal_few plain 9 (pos n) (omega arith) (omega arith)))
