-- What the scanner finds.
use Rattle.myard.specs.Hearing.{behind_byte}
use Rattle.myard.proofs.Judge.byte.Goals as goal

pub returns : goal.returns
unfolding behind_byte
returns c = rw (c.heard.ensures, c.byte-scan.ensures)
