-- Sums and differences of 16-bit numbers, and what is left of them, are numbers that 32 bits hold.
use Prim.Native.Nat.{ℕ, suc, ◌-◌}
use mathlib.Core.Path.{◌≡◌, ◌∙◌}
use native.Mathlib.Omega.{arith}
use lib.Dec.{ltb}
use lib.IntN.{ℤ, pos, negsuc, nat_abs, neg_ℤ, ◌+ℤ◌, ◌-ℤ◌}
use borrow.Author.Tests.{ltb-true, ltb-false}
use mir.Syntax.{w16, w32}
use mir.Facts.{to_z-of_z, sfits_widen}
use mir.Val.{SFits, to_z, of_z}
use Rattle.numbers.specs.Signed.{excess}
use Rattle.numbers.proofs.Choices.{cases}
use Rattle.numbers.proofs.Held.{mag_sum}
use Rattle.numbers.proofs.Machine.{neg_near}
use Rattle.numbers.proofs.Twos.{magnitude_near, mag_magnitude}
use Rattle.wire.specs.declared.Report.{Report}
use Rattle.bridge.specs.Remembered.{is_a, since_base, movement}
use Rattle.bridge.specs.Splitting.{Near, NearMove, leaves, rest}
use Rattle.bridge.specs.declared.Past.{Past}
use Rattle.bridge.specs.declared.Move.{Move}

pub difference_fits : {a b : ℤ} → SFits w16 a → SFits w16 b → SFits w32 (a -ℤ b)
difference_fits {a} {b} h k = record { sfits = omega (arith, mag_sum a (neg_ℤ b), neg_near b, h.sfits, k.sfits) }

-- the movement of a report
module _ {a b : ℤ} (h : SFits w16 a) (k : SFits w16 b) where
  near_sum : Near (a +ℤ b)
  near_sum = omega (arith, mag_sum a b, h.sfits, k.sfits)

  near_difference : Near (a -ℤ b)
  near_difference = omega (arith, mag_sum a (neg_ℤ b), neg_near b, h.sfits, k.sfits)

pub near_movement : (letter : ℕ) (past : Past) (p : Report) → SFits w16 past.base.x → SFits w16 past.base.y → SFits w16 p.x1 → SFits w16 p.y1 → SFits w16 p.x2 → SFits w16 p.y2
    → NearMove (movement letter past p)
unfolding movement since_base
near_movement letter past p x y x1 y1 x2 y2 =
    cases NearMove (is_a letter)
    (λ _. cases NearMove past.base.set (λ _. (near_difference x1 x, near_difference y1 y)) (λ _. (omega arith, omega arith)))
    (λ _. (near_sum x1 x2, near_sum y1 y2))

-- a V report takes 127 of what is left, or all
pub leaves_less : (d : ℤ) → nat_abs (leaves d) ≡ nat_abs d - 127
unfolding excess
leaves_less (pos n) =
    cases (λ (z : ℤ). nat_abs z ≡ n - 127) (ltb 127 n)
    (λ e. cases (λ (z : ℤ). nat_abs z ≡ n - 127) (ltb n 127) (λ f. absurd (omega (arith, ltb-true 127 n e, ltb-true n 127 f))) (λ _. omega arith))
    (λ e. omega (arith, ltb-false 127 n e))
leaves_less (negsuc n) =
    cases (λ (z : ℤ). nat_abs z ≡ suc n - 127) (ltb 126 n)
    (λ e. cases (λ (z : ℤ). nat_abs z ≡ suc n - 127) (ltb 127 (suc n)) (λ _. omega (arith, ltb-true 126 n e)) (λ f. absurd (omega (arith, ltb-true 126 n e, ltb-false 127 (suc n) f))))
    (λ e. omega (arith, ltb-false 126 n e))

near_leaves : (d : ℤ) → Near d → Near (leaves d)
near_leaves d h = omega (arith, leaves_less d, mag_magnitude (leaves d), magnitude_near d)

pub near_rest : (m : Move) → NearMove m → NearMove (rest m)
near_rest m h = (near_leaves m.x h.0, near_leaves m.y h.1)

-- two 16-bit numbers, widened, and what is made of them
pub widened : (op : ℤ → ℤ → ℤ) → ((a b : ℤ) → SFits w16 a → SFits w16 b → SFits w32 (op a b)) → (a b : ℤ) {f g : ℤ} → SFits w16 a → SFits w16 b
    → f ≡ to_z w16 (of_z w16 a)
    → g ≡ to_z w16 (of_z w16 b)
    → to_z w32 (of_z w32 (op (to_z w32 (of_z w32 f)) (to_z w32 (of_z w32 g)))) ≡ op a b
widened op fits a b h k e d =
    let a_is : to_z w32 (of_z w32 a) ≡ a = to_z-of_z {w = w32} (sfits_widen tt h) in
    let b_is : to_z w32 (of_z w32 b) ≡ b = to_z-of_z {w = w32} (sfits_widen tt k) in
    rw (e ∙ to_z-of_z h, d ∙ to_z-of_z k, a_is, b_is) (to_z-of_z (fits a b h k))
