-- `test_byte`: the byte, and one less to send.
use Rattle.puck.specs.Rules.{test_byte}
use Rattle.puck.proofs.Puck.test_byte.Goals as goal

pub returns : goal.returns
unfolding test_byte
returns c = rw (c.less_one-self.ensures, c.from.ensures, c.byte_of_test-byte.ensures) at c.gives.ensures
