-- The last line, and the end.
use Rattle.myard.specs.Hearing.{last_of}
use Rattle.myard.proofs.Judge.last.Goals as goal

pub returns : goal.returns
unfolding last_of
returns c = rw (c.heard-2.ensures, c.heard.ensures, c.end-end.ensures, c.closed-closed.ensures)
