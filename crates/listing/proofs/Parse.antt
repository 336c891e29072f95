-- Numbers that are bytes, and what the first n of five bytes say, by n.
use Rattle.std.proofs.Common.{Some}
use mathlib.Core.Path.{◌≡◌, refl}
use mathlib.Core.Bool.{true, false, ◌&&◌, ◌||◌, true≢false}
use mathlib.Core.List.{List, [], ◌∷◌}
use Prim.Native.Nat.{ℕ, zero, suc, ◌-◌, ◌<◌, ◌≤◌}
use native.Mathlib.Omega.{arith}
use native.Mathlib.Nat.{not-suc-le-zero}
use lib.IntN.{ℤ, pos, negsuc, nat_abs}
use lib.Signed.{lt_z}
use lib.ListN.{take}
use borrow.Author.Tests.{ltb-true, ltb-false, le-leb, lt-leb}
use Rattle.numbers.proofs.Choices.{or_else, neither}
use lib.Dec.{eqb}
use Rattle.listing.specs.Lines.{byte_of, byte_in, mark_in, format_in, said_by}
use Rattle.listing.specs.declared.Line.TheVariants as line

-- a number that is none, and one that is
pub no_byte : (x : ℤ) → lt_z x (pos 0) || lt_z (pos 255) x ≡ true → line.Bad ≡ byte_of (Some x)
no_byte (pos n) h =
    or_else (lt_z (pos n) (pos 0)) (lt_z (pos 255) (pos n)) (λ e. absurd (not-suc-le-zero (ltb-true n 0 e))) (λ e. rw (lt-leb n 255 (ltb-true 255 n e))) h
no_byte (negsuc n) h = refl

pub a_byte : (x : ℤ) → lt_z x (pos 0) || lt_z (pos 255) x ≡ false → (x ≡ pos (nat_abs x)) × (nat_abs x ≤ 255) × (line.Word (nat_abs x) ≡ byte_of (Some x))
a_byte (pos n) h =
    let few = ltb-false 255 n (neither (lt_z (pos n) (pos 0)) (lt_z (pos 255) (pos n)) h).1 in (refl, few, rw (le-leb n 255 few))
a_byte (negsuc n) h = absurd (true≢false (neither true (lt_z (pos 255) (negsuc n)) h).0)

module _ (a b c d e : ℕ) where
  abbrev pub five : List ℕ
  five = a ∷ b ∷ c ∷ d ∷ e ∷ []

  pub single : (n : ℕ) → n ≡ 1 → mark_in a ≡ said_by (take n five)
  unfolding said_by
  single n h = rw h

  pub few : (n : ℕ) → (n ≡ 1 → ⊥) → n < 3 → line.Bad ≡ said_by (take n five)
  unfolding said_by
  few zero h k = refl
  few (suc zero) h k = absurd (h refl)
  few (suc (suc zero)) h k = refl
  few (suc (suc (suc n))) h k = absurd (omega arith)

  pub format : (n : ℕ) → n ≡ 3 → eqb a 70 && eqb b 9 ≡ true → format_in c [] ≡ said_by (take n five)
  unfolding said_by
  format n h t = rw (h, t)

  pub format_long : (n : ℕ) → 3 ≤ n → (n ≡ 3 → ⊥) → eqb a 70 && eqb b 9 ≡ true → line.Bad ≡ said_by (take n five)
  unfolding said_by format_in
  format_long zero h k t = absurd (omega arith)
  format_long (suc zero) h k t = absurd (omega arith)
  format_long (suc (suc zero)) h k t = absurd (omega arith)
  format_long (suc (suc (suc zero))) h k t = absurd (k refl)
  format_long (suc (suc (suc (suc n)))) h k t = rw t

  pub decimal : (n : ℕ) → 3 ≤ n → eqb a 70 && eqb b 9 ≡ false → eqb a 66 && eqb b 9 ≡ true → byte_in (take (n - 2) (c ∷ d ∷ e ∷ [])) ≡ said_by (take n five)
  unfolding said_by
  decimal zero h t u = absurd (omega arith)
  decimal (suc zero) h t u = absurd (omega arith)
  decimal (suc (suc zero)) h t u = absurd (omega arith)
  decimal (suc (suc (suc n))) h t u = let k : suc (suc (suc n)) - 2 ≡ suc n = omega arith in rw (k, t, u)

  pub other : (n : ℕ) → 3 ≤ n → eqb a 70 && eqb b 9 ≡ false → eqb a 66 && eqb b 9 ≡ false → line.Bad ≡ said_by (take n five)
  unfolding said_by
  other zero h t u = absurd (omega arith)
  other (suc zero) h t u = absurd (omega arith)
  other (suc (suc zero)) h t u = absurd (omega arith)
  other (suc (suc (suc n))) h t u = rw (t, u)
