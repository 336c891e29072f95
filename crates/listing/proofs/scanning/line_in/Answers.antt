-- A line too many, or what a line gives.
use borrow.Author.Tests.{le-leb, lt-leb}
use Rattle.listing.specs.Scanning.{line_in}
use Rattle.listing.proofs.scanning.line_in.Goals as goal

pub returns-then-n-most_lines : goal.returns-then-n-most_lines
unfolding line_in
returns-then-n-most_lines c = rw (le-leb _ _ (rw c.most_lines.ensures at c.if-n-most_lines.true))

pub returns : goal.returns
unfolding line_in
returns c = rw (lt-leb _ _ (rw c.most_lines.ensures at c.if-n-most_lines.false)) c.on_line.ensures
