-- `letter_of_code`: the format of each code.
use borrow.Author.Tests.{ne_eqb}
use Rattle.replies.specs.Replying.{letter_of_code}
use Rattle.replies.proofs.replying.letter_of_code.Goals as goal

pub returns-in-16-clause-some : goal.returns-in-16-clause-some
unfolding letter_of_code
returns-in-16-clause-some c = rw c.in-16.is

pub returns-in-16-clause-letter : goal.returns-in-16-clause-letter
unfolding letter_of_code
returns-in-16-clause-letter c = rw c.in-16.is

pub returns-in-18-clause-some : goal.returns-in-18-clause-some
unfolding letter_of_code
returns-in-18-clause-some c = rw c.in-18.is

pub returns-in-18-clause-letter : goal.returns-in-18-clause-letter
unfolding letter_of_code
returns-in-18-clause-letter c = rw c.in-18.is

pub returns-in-20-clause-some : goal.returns-in-20-clause-some
unfolding letter_of_code
returns-in-20-clause-some c = rw c.in-20.is

pub returns-in-20-clause-letter : goal.returns-in-20-clause-letter
unfolding letter_of_code
returns-in-20-clause-letter c = rw c.in-20.is

pub returns-in-22-clause-some : goal.returns-in-22-clause-some
unfolding letter_of_code
returns-in-22-clause-some c = rw c.in-22.is

pub returns-in-22-clause-letter : goal.returns-in-22-clause-letter
unfolding letter_of_code
returns-in-22-clause-letter c = rw c.in-22.is

pub returns-in-26-clause-some : goal.returns-in-26-clause-some
unfolding letter_of_code
returns-in-26-clause-some c = rw c.in-26.is

pub returns-in-26-clause-letter : goal.returns-in-26-clause-letter
unfolding letter_of_code
returns-in-26-clause-letter c = rw c.in-26.is

pub returns-in-28-clause-some : goal.returns-in-28-clause-some
unfolding letter_of_code
returns-in-28-clause-some c = rw c.in-28.is

pub returns-in-28-clause-letter : goal.returns-in-28-clause-letter
unfolding letter_of_code
returns-in-28-clause-letter c = rw c.in-28.is

pub returns-in-30-clause-some : goal.returns-in-30-clause-some
unfolding letter_of_code
returns-in-30-clause-some c = rw c.in-30.is

pub returns-in-30-clause-letter : goal.returns-in-30-clause-letter
unfolding letter_of_code
returns-in-30-clause-letter c = rw c.in-30.is

pub returns-in_default-clause-some : goal.returns-in_default-clause-some
unfolding letter_of_code
returns-in_default-clause-some c =
    simp (
      ne_eqb _ 0x10 c.in_default.in_default-own.rest.0.0.0.0.0.0.1,
      ne_eqb _ 0x12 c.in_default.in_default-own.rest.0.0.0.0.0.1,
      ne_eqb _ 0x14 c.in_default.in_default-own.rest.0.0.0.0.1,
      ne_eqb _ 0x16 c.in_default.in_default-own.rest.0.0.0.1,
      ne_eqb _ 0x1A c.in_default.in_default-own.rest.0.0.1,
      ne_eqb _ 0x1C c.in_default.in_default-own.rest.0.1,
      ne_eqb _ 0x1E c.in_default.in_default-own.rest.1,
    )

pub returns-in_default-clause-letter : goal.returns-in_default-clause-letter
unfolding letter_of_code
returns-in_default-clause-letter c =
    simp (
      ne_eqb _ 0x10 c.in_default.in_default-own.rest.0.0.0.0.0.0.1,
      ne_eqb _ 0x12 c.in_default.in_default-own.rest.0.0.0.0.0.1,
      ne_eqb _ 0x14 c.in_default.in_default-own.rest.0.0.0.0.1,
      ne_eqb _ 0x16 c.in_default.in_default-own.rest.0.0.0.1,
      ne_eqb _ 0x1A c.in_default.in_default-own.rest.0.0.1,
      ne_eqb _ 0x1C c.in_default.in_default-own.rest.0.1,
      ne_eqb _ 0x1E c.in_default.in_default-own.rest.1,
    )
