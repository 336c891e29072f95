-- `first_by`: of the format that the letter names, if it names one.
use mathlib.Core.Path.{sym, ◌∙◌}
use Rattle.wire.specs.Places.{fits_at, fits_by}
use Rattle.wire.proofs.places.first_by.Goals as goal

pub returns-in-Some : goal.returns-in-Some
unfolding fits_by fits_at
returns-in-Some c = rw (sym c.format_of.ensures ∙ c.in-Some.is) c.fits_first.ensures

pub returns-in-None : goal.returns-in-None
unfolding fits_by
returns-in-None c = rw (sym c.format_of.ensures ∙ c.in-None.is)
