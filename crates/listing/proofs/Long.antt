-- A line of more than five bytes is bad.
use Rattle.std.proofs.Common.{Option, Some, None, ℤ}
use Prim.Native.Nat.{ℕ, zero, suc, ◌≤◌}
use mathlib.Core.Path.{◌≡◌, refl}
use mathlib.Core.Bool.{true, ◌&&◌}
use mathlib.Core.List.{List, ◌∷◌}
use native.Mathlib.Omega.{arith}
use lib.Dec.{ltb, leb, eqb}
use lib.IntN.{pos, negsuc}
use lib.ListN.{length, drop}
use borrow.Author.Tests.{eqb-true, leb-true}
use Rattle.numbers.proofs.Choices.{cases}
use Rattle.numbers.proofs.Tested.{right}
use Rattle.text.specs.Decimals.{plain, all_digits, value_of, most, places_of, readable, plus_in, minus, has_minus, number_in}
use Rattle.text.proofs.Digits.{places_few}
use Rattle.listing.specs.Lines.{byte_of, byte_in, format_in, said_by}
use Rattle.listing.specs.declared.Line.{Line}
use Rattle.listing.specs.declared.Line.TheVariants as line

-- no byte has a minus
minus_bad : (p : Option ℤ) → byte_of (minus p) ≡ line.Bad
minus_bad None = refl
minus_bad (Some (pos zero)) = refl
minus_bad (Some (pos (suc n))) = cases (λ (p : Option ℤ). byte_of p ≡ line.Bad) (ltb 0 (suc n)) (λ _. refl) (λ _. refl)
minus_bad (Some (negsuc n)) = refl

-- or more than three digits
plus_bad : (ds : List ℕ) → 4 ≤ length ds → byte_of (plus_in plain ds) ≡ line.Bad
unfolding plus_in readable
plus_bad ds h = cases (λ (p : Option ℤ). byte_of p ≡ line.Bad) (readable plain ds) (λ e. cases (λ (l : Line). l ≡ line.Bad) (leb (value_of 0 ds) 255) (λ k. absurd (few e k)) (λ _. refl)) (λ _. refl)
  where
    few : readable plain ds ≡ true → leb (value_of 0 ds) 255 ≡ true → ⊥
    few e k =
        let small = leb-true (value_of 0 ds) 255 k in
        let places = eqb-true (length ds) (places_of plain (value_of 0 ds)) (right (all_digits ds && leb (value_of 0 ds) most) (eqb (length ds) (places_of plain (value_of 0 ds))) e) in
        omega (arith, places, places_few plain (value_of 0 ds) 2 (omega arith) (omega arith))

long_decimal : (ds : List ℕ) → 4 ≤ length ds → byte_in ds ≡ line.Bad
unfolding number_in
long_decimal ds h = cases (λ (p : Option ℤ). byte_of p ≡ line.Bad) (has_minus ds) (λ _. minus_bad (plus_in plain (drop 1 ds))) (λ _. plus_bad ds h)

pub long_bad : (a b c d e f : ℕ) (ds : List ℕ) → said_by (a ∷ b ∷ c ∷ d ∷ e ∷ f ∷ ds) ≡ line.Bad
unfolding said_by format_in
long_bad a b c d e f ds =
    let P : Line → Type 0 = λ l. l ≡ line.Bad in
    cases P (eqb a 70 && eqb b 9) (λ _. refl) (λ _. cases P (eqb a 66 && eqb b 9) (λ _. long_decimal (c ∷ d ∷ e ∷ f ∷ ds) (omega arith)) (λ _. refl))
