-- What fits the first place, and what fits a later one, is a byte.
use Prim.Native.Nat.{ℕ, ◌<◌}
use mathlib.Core.Path.{◌≡◌}
use mathlib.Core.Bool.{true}
use Rattle.numbers.specs.Parity.{even}
use Rattle.numbers.proofs.Tested.{left}
use Rattle.wire.specs.Places.{fits_first, fits_later}
use Rattle.wire.specs.declared.Format.{Format}
use Rattle.wire.specs.declared.Format.TheVariants.{Mm, Microsoft, Absolute, Relative, FiveByte, ThreeByte, Hexadecimal}
use Rattle.wire.proofs.Codec.Ranges.{byte_below}
use Rattle.wire.proofs.Codec.Cells.{like_byte}
use Rattle.wire.proofs.Codec.FormatW as W

pub first_byte : (f : Format) (b : ℕ) → fits_first f b ≡ true → b < 256
unfolding fits_first
first_byte Mm b l = like_byte _ b l
first_byte Microsoft b l = like_byte _ b l
first_byte Absolute b l = like_byte _ b (left _ (even b) l)
first_byte Relative b l = like_byte _ b (left _ (even b) l)
first_byte FiveByte b l = like_byte _ b l
first_byte ThreeByte b l = like_byte _ b l
first_byte Hexadecimal b l = W.first_byte b l

pub later_byte : (f : Format) (b : ℕ) → fits_later f b ≡ true → b < 256
unfolding fits_later
later_byte Mm b l = like_byte _ b l
later_byte Microsoft b l = like_byte _ b l
later_byte Absolute b l = like_byte _ b (left _ (even b) l)
later_byte Relative b l = like_byte _ b (left _ (even b) l)
later_byte FiveByte b l = byte_below b l
later_byte ThreeByte b l = byte_below b l
later_byte Hexadecimal b l = W.later_byte b l
