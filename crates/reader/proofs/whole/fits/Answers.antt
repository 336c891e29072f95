-- `fits`: the test of the byte that the word brings.
use Rattle.reader.proofs.whole.fits.Goals as goal

pub returns : goal.returns
returns c = rw (c.fits.ensures, c.byte_of.ensures)
