-- `end`: the last line, and then the end.
use Rattle.salvaged.proofs.Hearing.{closed_numbered, end_numbered, then}
use Rattle.salvaged.proofs.log.end.Goals as goal

pub hear-behind-requires : goal.hear-behind-requires
hear-behind-requires c = (c.requires, rw c.closed-closed.ensures (closed_numbered c.args.scanner))

pub hear-requires : goal.hear-requires
hear-requires c = (c.hear-behind.ensures.fine, rw c.end.ensures (end_numbered _))

pub returns : goal.returns
returns c =
    let closed = c.closed-closed in
    let end = c.end in
    then _ (rw closed.ensures at c.hear-behind.ensures)
    (rw (end.ensures, closed.ensures) at c.hear.ensures)
