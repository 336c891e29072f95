-- Numbers up to a bound, movements, and what a line says by its length.
use Rattle.std.proofs.Common.{Option, Some, None}
use mathlib.Core.Path.{◌≡◌, refl}
use mathlib.Core.Bool.{true, false, cond, ◌||◌, true≢false}
use mathlib.Core.List.{List, [], ◌∷◌}
use Prim.Native.Nat.{ℕ, ◌+◌, ◌≤◌}
use native.Mathlib.Omega.{arith}
use native.Mathlib.Nat.{not-suc-le-zero}
use lib.Dec.{eqb}
use lib.IntN.{ℤ, pos, negsuc, nat_abs}
use lib.Signed.{lt_z}
use lib.ListN.{length, get_or, take, drop, drop_of_length-le}
use borrow.Author.Tests.{ltb-true, ltb-false, le-leb, lt-leb}
use Rattle.numbers.proofs.Choices.{or_else, neither}
use Rattle.wire.specs.Line.{known}
use Rattle.text.specs.Decimals.{plain, readable, plus_in, places_of, size_in, number_in}
use Rattle.text.specs.Lengths.{length_to}
use Rattle.listing.specs.Lines.{tab}
use Rattle.driver.specs.Lines.{alone_in, format_in, up_to, motion_of, motion_in, with_fields, said_by}
use Rattle.driver.specs.declared.Order.{Order}
use Rattle.driver.specs.declared.Order.TheVariants as order

-- a number that is outside, and one that is not
module _ (bound : ℕ) (says : ℕ → Order) where
  pub not_up_to : (x : ℤ) → lt_z x (pos 0) || lt_z (pos bound) x ≡ true → order.Bad ≡ up_to bound says (Some x)
  not_up_to (pos n) h =
      or_else (lt_z (pos n) (pos 0)) (lt_z (pos bound) (pos n)) (λ e. absurd (not-suc-le-zero (ltb-true n 0 e))) (λ e. rw (lt-leb n bound (ltb-true bound n e))) h
  not_up_to (negsuc n) h = refl

  pub is_up_to : (x : ℤ) → lt_z x (pos 0) || lt_z (pos bound) x ≡ false → (x ≡ pos (nat_abs x)) × (nat_abs x ≤ bound) × (says (nat_abs x) ≡ up_to bound says (Some x))
  is_up_to (pos n) h =
      let few = ltb-false bound n (neither (lt_z (pos n) (pos 0)) (lt_z (pos bound) (pos n)) h).1 in (refl, few, rw (le-leb n bound few))
  is_up_to (negsuc n) h = absurd (true≢false (neither true (lt_z (pos bound) (negsuc n)) h).0)

-- a movement: no second number
no_number : number_in plain [] ≡ None
unfolding number_in plus_in readable places_of size_in
no_number = refl

no_second : (x : Option ℤ) → order.Bad ≡ motion_of x None
no_second None = refl
no_second (Some x) = refl

pub one_field : (bytes : List ℕ) (n : ℕ) → n ≡ length_to tab bytes → length bytes ≤ n → order.Bad ≡ motion_in bytes
unfolding motion_in
one_field bytes n is h =
    rw (← is, drop_of_length-le bytes {i = n + 1} (omega arith), no_number) (no_second (number_in plain (take n bytes)))

pub two_fields : (bytes : List ℕ) (n : ℕ) (x y : Option ℤ) (r : Order) → n ≡ length_to tab bytes → x ≡ number_in plain (take n bytes) → y ≡ number_in plain (drop (n + 1) bytes)
    → r ≡ motion_of x y → r ≡ motion_in bytes
unfolding motion_in
two_fields bytes n x y r is ex ey e = rw (← is, ← ex, ← ey) e

-- a format, by its length
pub one_letter : (bytes : List ℕ) → length bytes ≡ 1 → format_in bytes ≡ cond (known (get_or bytes 0 0)) (order.Format (get_or bytes 0 0)) order.Bad
unfolding format_in
one_letter [] h = absurd (omega arith)
one_letter (c ∷ []) h = refl
one_letter (c ∷ d ∷ l) h = absurd (omega arith)

pub no_letter : (bytes : List ℕ) → (length bytes ≡ 1 → ⊥) → order.Bad ≡ format_in bytes
unfolding format_in
no_letter [] h = refl
no_letter (c ∷ []) h = absurd (h refl)
no_letter (c ∷ d ∷ l) h = refl

-- and a line
pub blank : (l : List ℕ) → length l ≡ 0 → order.Bad ≡ said_by l
unfolding said_by
blank [] h = refl
blank (a ∷ l) h = absurd (omega arith)

pub lone : (l : List ℕ) → length l ≡ 1 → alone_in (get_or l 0 0) ≡ said_by l
unfolding said_by
lone [] h = absurd (omega arith)
lone (a ∷ []) h = refl
lone (a ∷ b ∷ l) h = absurd (omega arith)

pub longer : (l : List ℕ) → (length l ≡ 0 → ⊥) → (length l ≡ 1 → ⊥) → said_by l ≡ cond (eqb (get_or l 1 0) tab) (with_fields (get_or l 0 0) (drop 2 l)) order.Bad
unfolding said_by
longer [] h k = absurd (h refl)
longer (a ∷ []) h k = absurd (k refl)
longer (a ∷ b ∷ l) h k = refl
