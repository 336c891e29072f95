-- Signed numbers in the machine: a signed local or field shows as what is read back from its bits, which is the number itself.
use Prim.Native.Nat.{zero, suc, ◌<◌, ◌≤◌, ◌^◌}
use mathlib.Core.Path.{◌≡◌, ◌∙◌, ap₂}
use native.Mathlib.Omega.{arith}
use lib.IntN.{ℤ, pos, negsuc, neg_ℤ, neg_ℤ-neg_ℤ, ◌-ℤ◌, +ℤ_idl}
use lib.Signed.{mag}
use mir.Syntax.{Width}
use mir.Val.{SFits, hbits, to_z, of_z}
use mir.Facts.{to_z-of_z}

-- a number that is kept in a signed local or field, or passed on
pub kept : (w : Width) {z y : ℤ} → mag z < 2 ^ hbits w → z ≡ y → to_z w (of_z w z) ≡ y
kept w {z} h e = to_z-of_z {w = w} {z = z} (record { sfits = h }) ∙ e

-- two signed arguments reach a callee as the machine reads them back
pub passed : {X : Type 0} (f : ℤ → ℤ → X) (w : Width) {a b : ℤ} {z : X} → SFits w a → SFits w b → z ≡ f (to_z w (of_z w a)) (to_z w (of_z w b)) → z ≡ f a b
passed f w h k e = e ∙ ap₂ f (to_z-of_z h) (to_z-of_z k)

-- a negation, which a program writes as 0 - z, fits and is what it says, but for the lowest number of the width
pub neg_near : (z : ℤ) → mag (neg_ℤ z) ≤ suc (mag z)
neg_near (pos zero) = omega arith
neg_near (pos (suc n)) = omega arith
neg_near (negsuc n) = omega arith

pub near_neg : (z : ℤ) → mag z ≤ suc (mag (neg_ℤ z))
near_neg z = rw neg_ℤ-neg_ℤ at (neg_near (neg_ℤ z))

pub minus_fits : (w : Width) (z : ℤ) → suc (mag z) < 2 ^ hbits w → SFits w (pos 0 -ℤ z)
minus_fits w z h = rw +ℤ_idl (record { sfits = omega (arith, neg_near z) })

pub minus_kept : (w : Width) (z : ℤ) → suc (mag z) < 2 ^ hbits w → to_z w (of_z w (pos 0 -ℤ z)) ≡ neg_ℤ z
minus_kept w z h = to_z-of_z (minus_fits w z h) ∙ +ℤ_idl (neg_ℤ z)
