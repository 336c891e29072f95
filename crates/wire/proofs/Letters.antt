-- Letters: that of a format names it; the size of a known one is 3 to 5, and of any other 0.
use Prim.Native.Nat.{ℕ, ◌<◌, ◌≤◌}
use mathlib.Core.Path.{◌≡◌, refl, sym, ◌∙◌}
use mathlib.Core.Bool.{true, false, not, ◌&&◌}
use native.Mathlib.Omega.{arith}
use lib.Dec.{eqb, ltb}
use borrow.Author.Tests.{le-ltb, ne_eqb, eqb-false, not-true}
use Rattle.wire.specs.Line.{letter_of, named_by, of_named, known, size_of, size_by, marked_of, marked_by}
use Rattle.wire.specs.Places.{fits_at, fits_by}
use Rattle.wire.specs.declared.Format.{Format}
use Rattle.wire.specs.declared.Format.TheVariants.{Mm, Microsoft, Absolute, Relative, FiveByte, ThreeByte, Hexadecimal}
use Rattle.std.proofs.Common.{Option, Some, None}
use Rattle.wire.proofs.Front.{size_between, size_small}

-- the letters of the table
pub letter_named : (f : Format) → named_by (letter_of f) ≡ Some f
unfolding named_by
letter_named Mm = refl
letter_named Microsoft = refl
letter_named Absolute = refl
letter_named Relative = refl
letter_named FiveByte = refl
letter_named ThreeByte = refl
letter_named Hexadecimal = refl

-- what a letter tells is what its format tells
module _ (letter : ℕ) {f : Format} (named : named_by letter ≡ Some f) where
  pub size_named : size_by letter ≡ size_of f
  unfolding size_by
  size_named = rw named

  pub marked_named : marked_by letter ≡ marked_of f
  unfolding marked_by
  marked_named = rw named

  pub fits_named : (place b : ℕ) → fits_by letter place b ≡ fits_at f place b
  unfolding fits_by
  fits_named place b = rw named

-- their sizes
pub at_most_five : (letter : ℕ) → size_by letter ≤ 5
unfolding size_by
at_most_five letter = go (named_by letter)
  where
    go : (n : Option Format) → of_named 0 size_of n ≤ 5
    go (Some f) = size_small f
    go None = omega arith

pub at_least_three : (letter n : ℕ) → n < size_by letter → 3 ≤ size_by letter
unfolding size_by
at_least_three letter n = go (named_by letter)
  where
    go : (m : Option Format) → n < of_named 0 size_of m → 3 ≤ of_named 0 size_of m
    go (Some f) h = (size_between f).0
    go None h = absurd (omega arith)

pub known_sized : (letter : ℕ) → known letter ≡ not (eqb (size_by letter) 0)
unfolding known size_by
known_sized letter = go (named_by letter)
  where
    go : (n : Option Format) → of_named false (λ f. true) n ≡ not (eqb (of_named 0 size_of n) 0)
    go (Some f) = rw (ne_eqb (size_of f) 0 (λ e. omega (arith, (size_between f).0)))
    go None = refl

pub size_positive : (letter : ℕ) → known letter ≡ true → 0 < size_by letter
size_positive letter k = let e = eqb-false (size_by letter) 0 (not-true _ (sym (known_sized letter) ∙ k)) in omega arith

-- so that what is below the size is below the size of a known format
pub known_below : (letter n : ℕ) → known letter && ltb n (size_by letter) ≡ ltb n (size_by letter)
unfolding known size_by
known_below letter n = go (named_by letter)
  where
    go : (m : Option Format) → of_named false (λ f. true) m && ltb n (of_named 0 size_of m) ≡ ltb n (of_named 0 size_of m)
    go (Some f) = refl
    go None = sym (le-ltb n 0 (omega arith))

-- a later place is as any other later place
pub later_place : (letter n b : ℕ) → (n ≡ 0 → ⊥) → fits_by letter 1 b ≡ fits_by letter n b
unfolding fits_by fits_at
later_place letter n b h = rw (ne_eqb n 0 h)
