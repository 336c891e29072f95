-- `next`: the last digit is one more, or all are told again.
use native.Mathlib.Omega.{arith}
use Rattle.listing.proofs.Carried.{stamp_next}
use Rattle.listing.proofs.stamped.next.Goals as goal

pub returns-then-stamp-lt57 : goal.returns-then-stamp-lt57
returns-then-stamp-lt57 c = stamp_next c.args.stamp c.args.n c.requires.0 c.requires.1 (omega (arith, c.if-stamp-lt57.true))
