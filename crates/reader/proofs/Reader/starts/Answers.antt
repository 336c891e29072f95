-- `starts`: a valid first byte, where the format is marked.
use Rattle.reader.proofs.Reader.starts.Goals as goal

pub returns : goal.returns
returns c = rw (c.marked.ensures, c.fits.ensures, c.requires)
