-- Lines of a byte, by their digits.
use Prim.Native.Nat.{ℕ, suc, ◌+◌, ◌-◌, ◌*◌, ◌/◌, ◌≤◌}
use mathlib.Core.Path.{◌≡◌, refl, ◌∙◌, ap}
use mathlib.Core.Bool.{true, false}
use mathlib.Core.List.{List, [], ◌∷◌}
use native.Mathlib.Omega.{arith}
use lib.Dec.{leb, eqb}
use lib.ListN.{length}
use borrow.Author.Tests.{leb-true, le-leb, le-ltb, eq-eqb, ne_eqb}
use Rattle.numbers.proofs.Tested.{left, right}
use Rattle.text.specs.Decimals.{size_of, places_of, is_digit, all_digits, value_of, most, has_minus, readable, plus_in, number_in}
use Rattle.text.proofs.Digits.{size_one, size_more}
use Rattle.listing.specs.Lines.{tab, newline, byte_in, said_by, Tells}
use Rattle.listing.specs.declared.Told.{Told}
use Rattle.listing.specs.declared.Line.TheVariants.{Word}

-- no line is told
pub none_told : (t : Told) → t ≡ record { taken = 0; word = 0 } → (t.taken ≡ 0 → ⊥) → ⊥
none_told t e some = some (ap (λ (t : Told). t.taken) e)

-- a digit
pub a_digit : {c : ℕ} → (48 ≤ c) × (c ≤ 57) → is_digit c ≡ true
a_digit {c} h = rw (le-leb 48 c h.0, le-leb c 57 h.1)

pub digit_low : (c : ℕ) → is_digit c ≡ true → 48 ≤ c
digit_low c h = leb-true 48 c (left (leb 48 c) (leb c 57) h)

pub digit_high : (c : ℕ) → is_digit c ≡ true → c ≤ 57
digit_high c h = leb-true c 57 (right (leb 48 c) (leb c 57) h)

no_newline : (c : ℕ) → is_digit c ≡ true → eqb c newline ≡ false
no_newline c h = ne_eqb c newline (λ e. omega (arith, digit_low c h))

no_minus : (c : ℕ) → is_digit c ≡ true → eqb c 45 ≡ false
no_minus c h = ne_eqb c 45 (λ e. omega (arith, digit_low c h))

-- digits that are as many as their number needs
byte_is : (ds : List ℕ) (v : ℕ) → all_digits ds ≡ true → has_minus ds ≡ false → value_of 0 ds ≡ v → v ≤ 255 → size_of v ≡ length ds → 1 ≤ length ds → byte_in ds ≡ Word v
unfolding number_in plus_in readable places_of
byte_is ds v all plus e few long some =
    rw (plus, all, e, le-leb v most (omega arith), long, le-ltb (length ds) 1 some, eq-eqb (length ds) (length ds) refl, le-leb v 255 few)

module _ (c : ℕ) (h : is_digit c ≡ true) where
  pub tells_one : (d e f : ℕ) → d ≡ newline → Tells (0x42 ∷ tab ∷ c ∷ d ∷ e ∷ f ∷ []) (record { taken = 4; word = c - 48 })
  unfolding said_by
  tells_one d e f z =
      let high = digit_high c h in
      rw (z, no_newline c h) (λ _. (refl, omega arith, byte_is (c ∷ []) (c - 48) (rw h) (no_minus c h) (omega arith) (omega arith) (size_one (c - 48) (omega arith)) (omega arith)))

  module _ (lead : c ≡ 48 → ⊥) (d : ℕ) (k : is_digit d ≡ true) where
    two : (n : ℕ) → n ≡ 10 * (c - 48) + (d - 48) → (10 ≤ n) × (n ≤ 99)
    two n e = (omega (arith, digit_low c h, digit_high d k), omega (arith, digit_high c h, digit_high d k))

    pub tells_two : (e f : ℕ) → e ≡ newline → Tells (0x42 ∷ tab ∷ c ∷ d ∷ e ∷ f ∷ []) (record { taken = 5; word = 10 * (c - 48) + (d - 48) })
    unfolding said_by
    tells_two e f z =
        let n = 10 * (c - 48) + (d - 48) in
        let b = two n refl in
        let long : size_of n ≡ 2 = size_more n b.0 ∙ ap suc (size_one (n / 10) (omega (arith, b.1))) in
        rw (z, no_newline c h, no_newline d k)
        (λ _. (refl, omega arith, byte_is (c ∷ d ∷ []) n (rw (h, k)) (no_minus c h) (omega arith) (omega (arith, b.1)) long (omega arith)))

    pub tells_three : (e f : ℕ) → is_digit e ≡ true → f ≡ newline → 10 * (10 * (c - 48) + (d - 48)) + (e - 48) ≤ 255
        → Tells (0x42 ∷ tab ∷ c ∷ d ∷ e ∷ f ∷ []) (record { taken = 6; word = 10 * (10 * (c - 48) + (d - 48)) + (e - 48) })
    unfolding said_by
    tells_three e f j z few =
        let m = 10 * (c - 48) + (d - 48) in
        let n = 10 * m + (e - 48) in
        let b = two m refl in
        let high = digit_high e j in
        let long : size_of n ≡ 3 = size_more n (omega (arith, b.0)) ∙ ap suc (size_more (n / 10) (omega (arith, b.0)) ∙ ap suc (size_one (n / 10 / 10) (omega arith))) in
        rw (z, no_newline c h, no_newline d k, no_newline e j)
        (λ _. (refl, omega arith, byte_is (c ∷ d ∷ e ∷ []) n (rw (h, k, j)) (no_minus c h) (omega arith) few long (omega arith)))
