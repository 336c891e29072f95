-- `yes`, byte by byte.
use native.Mathlib.Omega.{arith}
use Rattle.myard.proofs.judging.yes.Goals as goal

pub returns : goal.returns
returns c = (simp (c.with-2.ensures, c.with.ensures, c.none.ensures), omega arith)
