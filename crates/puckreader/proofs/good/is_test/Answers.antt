-- `is_test`: at each byte.
use Rattle.vsxxx.proofs.Bytes.{test_tested}
use Rattle.puckreader.proofs.good.is_test.Goals as goal

pub returns : goal.returns
returns c = test_tested c.args.byte c.ranges.byte.fits
