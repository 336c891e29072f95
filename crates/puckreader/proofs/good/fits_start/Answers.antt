-- `fits_start`: a first byte of S, or of a self-test.
use Rattle.wire.specs.Line.{named_by}
use Rattle.wire.specs.Places.{fits_by, fits_at}
use Rattle.vsxxx.specs.Reports.{fits_start}
use Rattle.puckreader.proofs.good.fits_start.Goals as goal

pub returns : goal.returns
unfolding fits_start fits_by fits_at named_by
returns c = rw (c.is_test.ensures, c.fits.ensures)
