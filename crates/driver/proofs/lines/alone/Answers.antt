-- A line of one letter: P, T, S or bad.
use borrow.Author.Tests.{ne_eqb}
use Rattle.driver.specs.Lines.{alone_in}
use Rattle.driver.proofs.lines.alone.Goals as goal

pub returns-in-80 : goal.returns-in-80
unfolding alone_in
returns-in-80 c = rw c.in-80.is

pub returns-in-84 : goal.returns-in-84
unfolding alone_in
returns-in-84 c = rw c.in-84.is

pub returns-in-83 : goal.returns-in-83
unfolding alone_in
returns-in-83 c = rw c.in-83.is

pub returns-in_default : goal.returns-in_default
unfolding alone_in
returns-in_default c = rw (ne_eqb _ _ c.in_default.in_default-own.rest.0.0.1, ne_eqb _ _ c.in_default.in_default-own.rest.0.1, ne_eqb _ _ c.in_default.in_default-own.rest.1)
