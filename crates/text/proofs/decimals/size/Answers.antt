use mathlib.Core.Path.{sym}
use native.Mathlib.Omega.{arith}
use Rattle.text.proofs.Digits.{size_one, size_is}
use Rattle.text.proofs.decimals.size.Goals as goal

pub returns-then-n-lt10 : goal.returns-then-n-lt10
returns-then-n-lt10 c = sym (size_one c.args.n c.if-n-lt10.true)

pub returns-then-n-lt100 : goal.returns-then-n-lt100
returns-then-n-lt100 c = omega (arith, size_is 1 c.args.n (omega (arith, c.if-n-lt10.false)) (omega (arith, c.if-n-lt100.true)))

pub returns-then-n-lt1000 : goal.returns-then-n-lt1000
returns-then-n-lt1000 c = omega (arith, size_is 2 c.args.n (omega (arith, c.if-n-lt100.false)) (omega (arith, c.if-n-lt1000.true)))

pub returns-else-n-lt1000 : goal.returns-else-n-lt1000
returns-else-n-lt1000 c = let l = c.ilog10 in omega (arith, size_is l.result c.args.n l.ensures.power_le (omega (arith, l.ensures.next_power_gt)))
