-- `fits_behind`: byte 4 of a self-test, or another.
use Rattle.wire.specs.Line.{named_by}
use Rattle.wire.specs.Places.{fits_by, fits_at}
use Rattle.vsxxx.specs.Reports.{fits_behind}
use Rattle.vsxxx.proofs.Bytes.{buttons_tested}
use Rattle.puckreader.proofs.good.fits_behind.Goals as goal

pub returns-then-is_test-place : goal.returns-then-is_test-place
unfolding fits_behind
returns-then-is_test-place c = let h = rw c.is_test.ensures at c.if-is_test-place.true in rw h (buttons_tested c.args.byte c.ranges.byte.fits)

pub returns : goal.returns
unfolding fits_behind fits_by fits_at named_by
returns c = let h = rw c.is_test.ensures at c.if-is_test-place.false in rw h c.fits.ensures
