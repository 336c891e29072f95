-- `fits_word`: a byte is tested at its place, and no other word fits.
use mathlib.Core.Path.{sym, ◌∙◌}
use native.Mathlib.Omega.{arith}
use borrow.Author.Tests.{leb-true}
use Rattle.salvage.specs.Picking.{fits_word}
use Rattle.salvage.proofs.fits_word.Goals as goal

pub overflow_cast-word : goal.overflow_cast-word
overflow_cast-word c = omega (arith, leb-true c.args.word 255 (sym c.is_byte.ensures ∙ c.if-is_byte.true))

pub returns-then-is_byte : goal.returns-then-is_byte
unfolding fits_word
returns-then-is_byte c = rw (sym c.is_byte.ensures ∙ c.if-is_byte.true) c.fits.ensures

pub returns-else-is_byte : goal.returns-else-is_byte
unfolding fits_word
returns-else-is_byte c = rw (sym c.if-is_byte.ensures) c.if-is_byte.false
