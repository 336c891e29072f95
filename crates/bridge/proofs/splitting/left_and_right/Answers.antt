-- L and R, with M up.
use native.Mathlib.Omega.{arith}
use Rattle.numbers.specs.Bits.{number}
use Rattle.numbers.proofs.Rows.{value_bit}
use Rattle.bridge.proofs.splitting.left_and_right.Goals as goal

pub returns : goal.returns
unfolding number
returns c = omega (arith, value_bit 2 c.args.buttons, value_bit 0 c.args.buttons)
