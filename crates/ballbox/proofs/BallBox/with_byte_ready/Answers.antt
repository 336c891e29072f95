-- `with_byte_ready`: byte 4 of U is to be sent, or another.
use borrow.Author.Tests.{eqb-true}
use mathlib.Core.Path.{sym, ◌∙◌}
use Rattle.numbers.proofs.Tested.{left}
use Rattle.ballbox.proofs.Cases.{ready_plain, ready_second}
use Rattle.ballbox.proofs.BallBox.with_byte_ready.Goals as goal

pub second_latched-requires : goal.second_latched-requires
second_latched-requires c = eqb-true _ _ (left _ _ c.if-self.true)

pub returns-then-self : goal.returns-then-self
returns-then-self c = c.second_latched.ensures ∙ sym (ready_second c.args.self c.if-self.true)

pub returns-else-self : goal.returns-else-self
returns-else-self c = sym (ready_plain c.args.self c.if-self.false)
