use mathlib.Core.Path.{sym, ◌∙◌}
use mathlib.Core.Bool.{true}
use native.Mathlib.Omega.{arith}
use lib.ListN.{take}
use lib.Seq.{length-take-le}
use Rattle.wire.proofs.Letters.{at_most_five}
use Rattle.salvage.proofs.Fitting.{fit_more, fit_end, starts_fits, starts_short}
use Rattle.salvage.proofs.run_starts.Goals as goal

pub returns-then-words-size : goal.returns-then-words-size
returns-then-words-size c = sym (starts_short c.args.letter c.args.words.now (omega (arith, c.requires.0)))

pub overflow_cast-place : goal.overflow_cast-place
overflow_cast-place c = omega (arith, c.requires.0, at_most_five c.args.letter, length-take-le c.args.size c.args.words.now c.if-words-size.false)

pub returns-then-not-fits_word : goal.returns-then-not-fits_word
returns-then-not-fits_word c =
    let a = c.args in
    let l = c.loop-place in
    sym (starts_fits a.letter a.words.now (omega (arith, c.requires.0, c.requires.1)) (omega (arith, c.requires.0, c.if-words-size.false))
    ∙ rw (← c.requires.0) (l.invariant ∙ fit_more (take a.size a.words.now) true l.place c.loop-place-test.true a.letter ∙ rw (← c.if-not-fits_word.ensures)))

pub loop-place-preserved : goal.loop-place-preserved
loop-place-preserved c =
    let a = c.args in
    let l = c.loop-place in
    l.invariant ∙ fit_more (take a.size a.words.now) true l.place c.loop-place-test.true a.letter ∙ rw (← c.if-not-fits_word.ensures)

pub returns : goal.returns
returns c =
    let a = c.args in
    let l = c.loop-place in
    sym (starts_fits a.letter a.words.now (omega (arith, c.requires.0, c.requires.1)) (omega (arith, c.requires.0, c.if-words-size.false))
    ∙ rw (← c.requires.0) (l.invariant ∙ fit_end a.letter (take a.size a.words.now) true l.place (omega arith)))
