-- Byte behind byte.
use mathlib.Core.Path.{◌∙◌, ap}
use mathlib.Core.List.{[], ◌∷◌}
use native.Mathlib.Omega.{arith}
use lib.IntN.{pos}
use mir.Syntax.{w64}
use mir.Facts.{to_z_pos}
use Rattle.text.specs.Growth.{slice, filled, filled_by}
use Rattle.text.specs.Decimals.{plain, decimal_of}
use Rattle.text.specs.declared.Text.{Text}
use Rattle.text.proofs.Filled.{both_filled}
use Rattle.mrecord.proofs.Lines.{of_break, of_silence, of_byte}
use Rattle.mrecord.proofs.line_to.Goals as goal

pub returns-then-word-eq-BREAK : goal.returns-then-word-eq-BREAK
returns-then-word-eq-BREAK c =
    let e = of_break _ c.if-word-eq-BREAK.true in
    rw e (c.byte_to.ensures ∙ ap (λ (t : Text). filled t 10) c.byte_to-behind.ensures)

pub returns-then-word-eq-SILENCE : goal.returns-then-word-eq-SILENCE
returns-then-word-eq-SILENCE c =
    let e = of_silence _ c.if-word-eq-SILENCE.true in
    rw e (c.byte_to-then-word-eq-SILENCE.ensures ∙ ap (λ (t : Text). filled t 10) c.byte_to-behind-then-word-eq-SILENCE.ensures)

pub returns : goal.returns
returns c =
    let w = c.args.word in
    let start = slice c.args.out.now c.args.at in
    let e = of_byte w c.if-word-eq-BREAK.false c.if-word-eq-SILENCE.false in
    let d = rw (to_z_pos w64 {n = w} (omega arith)) at c.decimal_to-third.ensures in
    rw e
    (c.byte_to-2.ensures
    ∙ ap (λ (t : Text). filled t 10)
    (d ∙ ap (λ (t : Text). filled_by t (decimal_of plain (pos w))) (c.byte_to-second.ensures ∙ ap (λ (t : Text). filled t 9) c.byte_to-first.ensures))
    ∙ both_filled (filled (filled start 66) 9) (decimal_of plain (pos w)) (10 ∷ []))
