-- The base by the letter, the middle, and the presses.
use borrow.Author.Rules.{rules}
use borrow.Author.Tests.{eq-eqb, ne_eqb}
use mir.Facts.{to_z-of_z}
use mir.Syntax.{w16}
use mir.Val.{SFits}
use Rattle.numbers.specs.Bits.{bit}
use Rattle.bridge.specs.Remembered.{noted}
use Rattle.bridge.proofs.Past.noted.Goals as goal

pub returns-then-letter-eq-FORMAT_A : goal.returns-then-letter-eq-FORMAT_A
unfolding noted bit
returns-then-letter-eq-FORMAT_A c =
    let x1_fits : SFits w16 c.args.report.x1 = search rules in
    let y1_fits : SFits w16 c.args.report.y1 = search rules in
    simp (eq-eqb _ _ c.if-letter-eq-FORMAT_A.true, to_z-of_z x1_fits, to_z-of_z y1_fits, c.counted-presses.ensures)

pub returns-else-letter-eq-FORMAT_A : goal.returns-else-letter-eq-FORMAT_A
unfolding noted bit
returns-else-letter-eq-FORMAT_A c = simp (ne_eqb _ _ c.if-letter-eq-FORMAT_A.false, c.counted-presses.ensures)
