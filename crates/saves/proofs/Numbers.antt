-- A number's low three bits, and a bit shifted down to the lowest.
use Prim.Native.Nat.{ℕ, ◌%◌, ◌/◌, ◌^◌, ◌<◌}
use mathlib.Core.Path.{◌≡◌, refl, subst}
use mathlib.Core.Bool.{true, false}
use native.Mathlib.Nat.{div-one, not-suc-le-zero}
use lib.Dec.{T}
use lib.IntN.{ℤ, pos, negsuc, nat_abs}
use lib.Signed.{lt_z, mag}
use borrow.Author.Tests.{ltb-true}
use Rattle.numbers.specs.Bits.{bit}
use Rattle.saves.specs.Rules.{low_three}

pub low_below : (z : ℤ) → lt_z z (pos 0) ≡ true → 0 ≡ low_three z
low_below (pos n) t = absurd (not-suc-le-zero (ltb-true n 0 t))
low_below (negsuc n) t = refl

pub low_above : (z : ℤ) → lt_z z (pos 0) ≡ false → nat_abs z % 8 ≡ low_three z
low_above (pos n) t = refl
low_above (negsuc n) t = absurd (subst T t tt)

pub few_above : (m : ℕ) (z : ℤ) → lt_z z (pos 0) ≡ false → mag z < m → nat_abs z < m
few_above m (pos n) t h = h
few_above m (negsuc n) t h = absurd (subst T t tt)

pub shifted : (k n : ℕ) → bit 0 (n / 2 ^ k) ≡ bit k n
unfolding bit
shifted k n = rw (div-one (n / 2 ^ k))
