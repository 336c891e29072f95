-- `fits`: at the place that is next.
use Rattle.reader.proofs.Reader.fits.Goals as goal

pub returns : goal.returns
returns c = rw (← c.requires) c.fits.ensures
