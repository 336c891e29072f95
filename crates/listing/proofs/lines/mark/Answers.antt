-- A line of one byte: X, Q or bad.
use borrow.Author.Tests.{ne_eqb}
use Rattle.listing.specs.Lines.{mark_in}
use Rattle.listing.proofs.lines.mark.Goals as goal

pub returns-in-88 : goal.returns-in-88
unfolding mark_in
returns-in-88 c = rw c.in-88.is

pub returns-in-81 : goal.returns-in-81
unfolding mark_in
returns-in-81 c = rw c.in-81.is

pub returns-in_default : goal.returns-in_default
unfolding mark_in
returns-in_default c = rw (ne_eqb _ _ c.in_default.in_default-own.rest.0.1, ne_eqb _ _ c.in_default.in_default-own.rest.1)
