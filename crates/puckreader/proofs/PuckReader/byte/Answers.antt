-- `byte`: by the rules.
use mathlib.Core.Path.{◌∙◌, sym}
use Rattle.puckreader.proofs.Word.{byte_is}
use Rattle.puckreader.proofs.PuckReader.byte.Goals as goal

pub returns-then-fits : goal.returns-then-fits
returns-then-fits c = c.keep.ensures ∙ sym (byte_is _ _ c.ranges.byte.fits ∙ rw (sym c.fits.ensures ∙ c.if-fits.true))

pub returns-then-fits_start : goal.returns-then-fits_start
returns-then-fits_start c = c.start.ensures ∙ sym (byte_is _ _ c.ranges.byte.fits ∙ rw (sym c.fits.ensures ∙ c.if-fits.false, sym c.fits_start.ensures ∙ c.if-fits_start.true))

pub returns : goal.returns
returns c = c.lose.ensures ∙ sym (byte_is _ _ c.ranges.byte.fits ∙ rw (sym c.fits.ensures ∙ c.if-fits.false, sym c.fits_start.ensures ∙ c.if-fits_start.false))
