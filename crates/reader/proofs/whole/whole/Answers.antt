-- `whole`: the first word, and then the others.
use Prim.Native.Nat.{ℕ}
use mathlib.Core.Path.{◌≡◌, sym, ◌∙◌}
use mathlib.Core.Bool.{true, false, ◌&&◌}
use mathlib.Core.Logic.{◌⊎◌, inl, inr}
use mathlib.Core.List.{List}
use native.Mathlib.Omega.{arith}
use lib.ListN.{get_or}
use borrow.Author.Tests.{not-true, not-false}
use Rattle.wire.specs.Line.{size_by}
use Rattle.reader.specs.Whole.{fits_word, whole_by}
use Rattle.reader.proofs.WholeReports.{three_or_more, either, five_bytes}
use Rattle.reader.proofs.whole.whole.Goals as goal

module _ (letter size : ℕ) (words : List ℕ) where
  none : (size ≡ 3) ⊎ (size ≡ 5) → fits_word letter 0 (get_or words 0 0) ≡ false → false ≡ whole_by letter size words
  none (inl e) f = rw (e, f)
  none (inr e) f = rw (e, f)

  three : size ≡ 3 → fits_word letter 0 (get_or words 0 0) ≡ true → fits_word letter 1 (get_or words 1 0) && fits_word letter 2 (get_or words 2 0) ≡ whole_by letter size words
  three e f = rw (e, f)

  five : size ≡ 5 → fits_word letter 0 (get_or words 0 0) ≡ true
      → fits_word letter 1 (get_or words 1 0) && fits_word letter 2 (get_or words 2 0) && fits_word letter 3 (get_or words 3 0) && fits_word letter 4 (get_or words 4 0) ≡ whole_by letter size words
  five e f = rw (e, f)

pub bounds-words-0 : goal.bounds-words-0
bounds-words-0 c = omega (arith, three_or_more (either c.args.letter c.requires.0))

pub returns-then-not-fits : goal.returns-then-not-fits
returns-then-not-fits c = none c.args.letter (size_by c.args.letter) c.args.words.now (either c.args.letter c.requires.0) (sym c.fits.ensures ∙ not-true _ c.if-not-fits.true-raw)

pub bounds-words-1 : goal.bounds-words-1
bounds-words-1 c = omega (arith, three_or_more (either c.args.letter c.requires.0))

pub bounds-words-2 : goal.bounds-words-2
bounds-words-2 c = omega (arith, three_or_more (either c.args.letter c.requires.0))

pub returns-then-size-eq3 : goal.returns-then-size-eq3
returns-then-size-eq3 c = rw (c.fits-2.ensures, c.fits-3.ensures)
    (three c.args.letter (size_by c.args.letter) c.args.words.now (sym c.size.ensures ∙ c.if-size-eq3.true) (sym c.fits.ensures ∙ not-false _ c.if-not-fits.false-raw))

pub bounds-words-3 : goal.bounds-words-3
bounds-words-3 c = omega (arith, five_bytes c.args.letter c.requires.0 (λ e. c.if-size-eq3.false (c.size.ensures ∙ e)), c.requires.1)

pub bounds-words-4 : goal.bounds-words-4
bounds-words-4 c = omega (arith, five_bytes c.args.letter c.requires.0 (λ e. c.if-size-eq3.false (c.size.ensures ∙ e)), c.requires.1)

pub returns : goal.returns
returns c = rw (c.fits-2.ensures, c.fits-3.ensures, c.fits-4.ensures, c.fits-5.ensures)
    (five c.args.letter (size_by c.args.letter) c.args.words.now (five_bytes c.args.letter c.requires.0 (λ e. c.if-size-eq3.false (c.size.ensures ∙ e))) (sym c.fits.ensures ∙ not-false _ c.if-not-fits.false-raw))
