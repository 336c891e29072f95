-- `code_byte`: the code of each format.
use borrow.Author.Tests.{ne_eqb}
use Rattle.ballbox.specs.Commands.{code_byte}
use Rattle.wire.specs.Line.{named_by}
use Rattle.ballbox.proofs.commands.code_byte.Goals as goal

pub returns-in-85 : goal.returns-in-85
unfolding code_byte named_by
returns-in-85 c = rw c.in-85.is

pub returns-in-84 : goal.returns-in-84
unfolding code_byte named_by
returns-in-84 c = rw c.in-84.is

pub returns-in-87 : goal.returns-in-87
unfolding code_byte named_by
returns-in-87 c = rw c.in-87.is

pub returns-in-66 : goal.returns-in-66
unfolding code_byte named_by
returns-in-66 c = rw c.in-66.is

pub returns-in-83 : goal.returns-in-83
unfolding code_byte named_by
returns-in-83 c = rw c.in-83.is

pub returns-in-65 : goal.returns-in-65
unfolding code_byte named_by
returns-in-65 c = rw c.in-65.is

pub returns-in-86 : goal.returns-in-86
unfolding code_byte named_by
returns-in-86 c = rw c.in-86.is

pub returns-in_default : goal.returns-in_default
unfolding code_byte named_by
returns-in_default c =
    simp (
      ne_eqb _ 85 c.in_default.in_default-own.rest.0.0.0.0.0.0.1,
      ne_eqb _ 84 c.in_default.in_default-own.rest.0.0.0.0.0.1,
      ne_eqb _ 87 c.in_default.in_default-own.rest.0.0.0.0.1,
      ne_eqb _ 66 c.in_default.in_default-own.rest.0.0.0.1,
      ne_eqb _ 83 c.in_default.in_default-own.rest.0.0.1,
      ne_eqb _ 65 c.in_default.in_default-own.rest.0.1,
      ne_eqb _ 86 c.in_default.in_default-own.rest.1,
    )
