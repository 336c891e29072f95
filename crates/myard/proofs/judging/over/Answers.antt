-- `over`, byte by byte.
use native.Mathlib.Omega.{arith}
use Rattle.myard.proofs.judging.over.Goals as goal

pub returns : goal.returns
returns c = (simp (c.with-7.ensures, c.with-6.ensures, c.with-5.ensures, c.with-4.ensures, c.with-3.ensures, c.with-2.ensures, c.with.ensures, c.none.ensures), omega arith)
