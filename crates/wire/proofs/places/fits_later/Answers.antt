-- `fits_later`: the test of each format.
use Prim.Native.Nat.{ℕ, ◌<◌}
use mathlib.Core.Path.{◌≡◌, ◌∙◌, ap, sym}
use Rattle.wire.proofs.FixedBits.{later_test, later_tested}
use Rattle.wire.specs.Places.{fits_later}
use Rattle.wire.specs.declared.Format.TheVariants.{Mm, Microsoft, Absolute, Relative, FiveByte, ThreeByte, Hexadecimal}
use Rattle.wire.specs.declared.Format.{Format}
use Rattle.wire.proofs.places.fits_later.Goals as goal

chosen : (f : Format) {g : Format} (b : ℕ) → b < 256 → g ≡ f → later_test f b ≡ fits_later g b
chosen f b h e = later_tested f b h ∙ ap (λ (k : Format). fits_later k b) (sym e)

pub returns-in-Mm : goal.returns-in-Mm
returns-in-Mm c = chosen Mm c.args.b c.ranges.b.fits c.in-Mm.is

pub returns-in-Microsoft : goal.returns-in-Microsoft
returns-in-Microsoft c = chosen Microsoft c.args.b c.ranges.b.fits c.in-Microsoft.is

pub returns-in-Absolute : goal.returns-in-Absolute
returns-in-Absolute c = rw c.is_even.ensures (chosen Absolute c.args.b c.ranges.b.fits c.in-Absolute.is)

pub returns-in-Relative : goal.returns-in-Relative
returns-in-Relative c = rw c.is_even-in-Relative.ensures (chosen Relative c.args.b c.ranges.b.fits c.in-Relative.is)

pub returns-in-FiveByte : goal.returns-in-FiveByte
returns-in-FiveByte c = chosen FiveByte c.args.b c.ranges.b.fits c.in-FiveByte.is

pub returns-in-ThreeByte : goal.returns-in-ThreeByte
returns-in-ThreeByte c = chosen ThreeByte c.args.b c.ranges.b.fits c.in-ThreeByte.is

pub returns-in-Hexadecimal : goal.returns-in-Hexadecimal
returns-in-Hexadecimal c = rw c.is_digit.ensures (chosen Hexadecimal c.args.b c.ranges.b.fits c.in-Hexadecimal.is)
