-- `test_of`: the figure, read the other way.
use mathlib.Core.Path.{sym}
use Rattle.vsxxx.proofs.Bytes.{test_is}
use Rattle.puckreader.proofs.rules.test_of.Goals as goal

pub returns : goal.returns
returns c = sym (test_is _)
