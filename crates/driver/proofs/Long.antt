-- A line of events of more than fifteen bytes is bad.
use Rattle.std.proofs.Common.{Option, Some, None}
use Prim.Native.Nat.{ℕ, suc, ◌+◌, ◌^◌, ◌<◌, ◌≤◌}
use mathlib.Core.Path.{◌≡◌, refl, ap}
use mathlib.Core.Bool.{false, ◌||◌}
use mathlib.Core.List.{List, [], ◌∷◌}
use native.Mathlib.Omega.{arith}
use lib.Dec.{ltb, leb, eqb}
use lib.IntN.{ℤ, pos, negsuc, nat_abs}
use lib.ListN.{length, take, drop, length-take, length-drop}
use borrow.Author.Tests.{leb-true, ltb-false}
use Rattle.numbers.proofs.Choices.{cases, neither}
use Rattle.text.specs.Decimals.{plain, number_in}
use Rattle.text.proofs.Digits.{decimal_few, read_written}
use Rattle.text.specs.Lengths.{length_to}
use Rattle.listing.specs.Lines.{tab}
use Rattle.listing.specs.Scanning.{most_lines}
use Rattle.driver.specs.Lines.{letter_f, letter_m, letter_n, letter_c, letter_s, format_in, up_to, outside, motion_of, motion_in, with_fields, said_by}
use Rattle.driver.specs.Feeding.{longest}
use Rattle.driver.specs.declared.Order.{Order}
use Rattle.driver.specs.declared.Order.TheVariants as order

abbrev IsBad : Order → Type 0
IsBad o = o ≡ order.Bad

-- a number of few digits has few bytes
few_bytes : (ds : List ℕ) (p : ℕ) (x : ℤ) → number_in plain ds ≡ Some x → nat_abs x < 10 ^ suc p → length ds ≤ suc (suc p)
few_bytes ds p x e h = omega (arith, decimal_few plain p x (omega arith) h, ap length (read_written plain ds x e))

-- a number up to a bound
long_number : (bound p : ℕ) (says : ℕ → Order) (ds : List ℕ) → bound < 10 ^ suc p → suc (suc p) < length ds → IsBad (up_to bound says (number_in plain ds))
long_number bound p says ds b h = go (number_in plain ds) refl
  where
    go : (n : Option ℤ) → number_in plain ds ≡ n → IsBad (up_to bound says n)
    go None e = refl
    go (Some (pos n)) e = cases IsBad (leb n bound) (λ k. absurd (omega (arith, few_bytes ds p (pos n) e (omega (arith, leb-true n bound k))))) (λ _. refl)
    go (Some (negsuc n)) e = refl

-- a movement of 16 bits
within : (x : ℤ) → outside x ≡ false → nat_abs x ≤ 32768
within (pos n) h = omega (arith, ltb-false 32767 n h)
within (negsuc n) h = omega (arith, ltb-false 32767 n (neither (ltb 32767 n) false h).0)

long_motion : (bytes : List ℕ) → 14 ≤ length bytes → IsBad (motion_in bytes)
unfolding motion_in
long_motion bytes h = go (number_in plain (take n bytes)) refl (number_in plain (drop (n + 1) bytes)) refl
  where
    n : ℕ
    n = length_to tab bytes

    go : (x : Option ℤ) → number_in plain (take n bytes) ≡ x → (y : Option ℤ) → number_in plain (drop (n + 1) bytes) ≡ y → IsBad (motion_of x y)
    go None ex y ey = refl
    go (Some x) ex None ey = refl
    go (Some x) ex (Some y) ey =
        cases IsBad (outside x || outside y) (λ _. refl)
        (λ k.
        let each = neither (outside x) (outside y) k in
        absurd (omega (arith, few_bytes (take n bytes) 4 x ex (omega (arith, within x each.0)), few_bytes (drop (n + 1) bytes) 4 y ey (omega (arith, within y each.1)), length-take n bytes, length-drop (n + 1) bytes)))

-- a letter
long_format : (bytes : List ℕ) → 14 ≤ length bytes → IsBad (format_in bytes)
unfolding format_in
long_format [] k = refl
long_format (c ∷ []) k = absurd (omega arith)
long_format (c ∷ d ∷ ds) k = refl

long_fields : (a : ℕ) (bytes : List ℕ) → 14 ≤ length bytes → IsBad (with_fields a bytes)
unfolding with_fields
long_fields a bytes h =
    cases IsBad (eqb a letter_f) (λ _. long_format bytes h)
    (λ _. cases IsBad (eqb a letter_m) (λ _. long_motion bytes h)
    (λ _. cases IsBad (eqb a letter_n) (λ _. long_number 255 2 _ bytes (omega arith) (omega arith))
    (λ _. cases IsBad (eqb a letter_c) (λ _. long_number 255 2 _ bytes (omega arith) (omega arith))
    (λ _. cases IsBad (eqb a letter_s) (λ _. long_number most_lines 5 _ bytes (omega arith) (omega arith)) (λ _. refl)))))

pub long_bad : (l : List ℕ) → longest < length l → said_by l ≡ order.Bad
unfolding said_by
long_bad [] h = refl
long_bad (a ∷ []) h = absurd (omega arith)
long_bad (a ∷ b ∷ bytes) h = cases IsBad (eqb b tab) (λ _. long_fields a bytes (omega arith)) (λ _. refl)
