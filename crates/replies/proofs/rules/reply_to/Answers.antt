-- `reply_to`: each command that has one.
use borrow.Author.Tests.{ne_eqb}
use Rattle.replies.specs.Rules.{reply_to}
use Rattle.replies.proofs.rules.reply_to.Goals as goal

pub returns-in-32 : goal.returns-in-32
unfolding reply_to
returns-in-32 c = rw c.in-32.is

pub returns-in-102 : goal.returns-in-102
unfolding reply_to
returns-in-102 c = rw c.in-102.is

pub returns-in-116 : goal.returns-in-116
unfolding reply_to
returns-in-116 c = rw c.in-116.is

pub returns-in-5 : goal.returns-in-5
unfolding reply_to
returns-in-5 c = rw c.in-5.is

pub returns-in_default : goal.returns-in_default
unfolding reply_to
returns-in_default c = let r = c.in_default.in_default-own.rest in
    simp (ne_eqb _ 0x20 r.0.0.0.1, ne_eqb _ 0x66 r.0.0.1, ne_eqb _ 0x74 r.0.1, ne_eqb _ 0x05 r.1)
