-- `pause`: what is kept is dropped.
use Rattle.reader.proofs.Reader.pause.Goals as goal

pub returns : goal.returns
returns c = rw (c.no_bytes.ensures, c.dropping.ensures, c.requires)
