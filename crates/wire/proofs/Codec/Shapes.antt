-- Valid bytes, three or five of them.
use Prim.Native.Nat.{ℕ, zero, suc, ◌<◌}
use mathlib.Core.Path.{◌≡◌, refl}
use mathlib.Core.Bool.{Bool, true, ◌&&◌}
use mathlib.Core.List.{List, [], ◌∷◌}
use native.Mathlib.Omega.{arith}
use lib.ListN.{length, get_or}
use lib.Dec.{eqb, eqb-suc-zero}
use borrow.Author.Tests.{eqb-true, eq-eqb}
use Rattle.numbers.proofs.Tested.{left, right, holds}
use Rattle.wire.specs.Line.{size_of}
use Rattle.wire.specs.Table.{bytes_of}
use Rattle.wire.specs.Reading.{report_of, settled}
use Rattle.wire.specs.Places.{fits_first, fits_later, fits_at, all_later, valid}
use Rattle.wire.specs.declared.Format.{Format}
use Rattle.wire.proofs.Codec.Accepted.{Parts}

-- of any three bytes that fit, and of any five
abbrev pub OfThree : Format → (List ℕ → Type 0) → Type 0
OfThree f P =
    (b1 b2 b3 : ℕ) → fits_first f b1 ≡ true → fits_later f b2 ≡ true → fits_later f b3 ≡ true → P (b1 ∷ b2 ∷ b3 ∷ [])

abbrev pub OfFive : Format → (List ℕ → Type 0) → Type 0
OfFive f P =
    (b1 b2 b3 b4 b5 : ℕ)
    → fits_first f b1 ≡ true
    → fits_later f b2 ≡ true
    → fits_later f b3 ≡ true
    → fits_later f b4 ≡ true
    → fits_later f b5 ≡ true
    → P (b1 ∷ b2 ∷ b3 ∷ b4 ∷ b5 ∷ [])

-- bytes that come back when their report is encoded, minus zeros settled
abbrev pub ComesBack : Format → List ℕ → Type 0
ComesBack f bs = bytes_of f (report_of f bs) ≡ settled f bs

-- bytes whose report is accepted, part by part
abbrev pub ReadParts : Format → List ℕ → Type 0
ReadParts f bs = Parts f (report_of f bs)

module _ (f : Format) where
  -- as many as the size, the first fitting the first place, the others the later ones
  record Fitting (b : ℕ) (bs : List ℕ) : Type 0 where
    size : suc (length bs) ≡ size_of f
    first : fits_first f b ≡ true
    later : all_later f bs ≡ true

  fitting : (b : ℕ) (bs : List ℕ) → valid f (b ∷ bs) ≡ true → Fitting b bs
  unfolding valid
  fitting b bs v =
      let s = eqb (suc (length bs)) (size_of f) in
      let both = left (s && fits_first f b) (all_later f bs) v in
      record {
        size = eqb-true (suc (length bs)) (size_of f) (left s (fits_first f b) both);
        first = right s (fits_first f b) both;
        later = right (s && fits_first f b) (all_later f bs) v;
      }

  later_fits : (bs : List ℕ) (i : ℕ) → all_later f bs ≡ true → i < length bs → fits_later f (get_or bs i 0) ≡ true
  unfolding all_later
  later_fits [] i v h = absurd (omega arith)
  later_fits (b ∷ bs) zero v h = left (fits_later f b) (all_later f bs) v
  later_fits (b ∷ bs) (suc i) v h = later_fits bs i (right (fits_later f b) (all_later f bs) v) (omega arith)

  -- each of valid bytes fits its place
  pub valid_fits : (bs : List ℕ) → valid f bs ≡ true → (i : ℕ) → i < size_of f → fits_at f i (get_or bs i 0) ≡ true
  unfolding valid fits_at
  valid_fits [] v i h = absurd (holds v)
  valid_fits (b ∷ bs) v zero h = (fitting b bs v).first
  valid_fits (b ∷ bs) v (suc i) h =
      let v = fitting b bs v in rw (eqb-suc-zero i) (later_fits bs i v.later (omega arith))

  -- what holds of three bytes that fit holds of all valid bytes of a format of three
  pub of_three : (P : List ℕ → Type 0) → size_of f ≡ 3 → OfThree f P → (bs : List ℕ) → valid f bs ≡ true → P bs
  unfolding valid fits_at
  of_three P size p [] v = absurd (holds v)
  of_three P size p (b1 ∷ []) v = absurd (omega (arith, (fitting b1 [] v).size))
  of_three P size p (b1 ∷ b2 ∷ []) v = absurd (omega (arith, (fitting b1 (b2 ∷ []) v).size))
  of_three P size p (b1 ∷ b2 ∷ b3 ∷ []) v =
      let fits = valid_fits (b1 ∷ b2 ∷ b3 ∷ []) v in
      p b1 b2 b3 (fits 0 (omega arith)) (fits 1 (omega arith)) (fits 2 (omega arith))
  of_three P size p (b1 ∷ b2 ∷ b3 ∷ b4 ∷ bs) v = absurd (omega (arith, (fitting b1 (b2 ∷ b3 ∷ b4 ∷ bs) v).size))

  -- and what holds of five, of those of a format of five
  pub of_five : (P : List ℕ → Type 0) → size_of f ≡ 5 → OfFive f P → (bs : List ℕ) → valid f bs ≡ true → P bs
  unfolding valid fits_at
  of_five P size p [] v = absurd (holds v)
  of_five P size p (b1 ∷ []) v = absurd (omega (arith, (fitting b1 [] v).size))
  of_five P size p (b1 ∷ b2 ∷ []) v = absurd (omega (arith, (fitting b1 (b2 ∷ []) v).size))
  of_five P size p (b1 ∷ b2 ∷ b3 ∷ []) v = absurd (omega (arith, (fitting b1 (b2 ∷ b3 ∷ []) v).size))
  of_five P size p (b1 ∷ b2 ∷ b3 ∷ b4 ∷ []) v = absurd (omega (arith, (fitting b1 (b2 ∷ b3 ∷ b4 ∷ []) v).size))
  of_five P size p (b1 ∷ b2 ∷ b3 ∷ b4 ∷ b5 ∷ []) v =
      let fits = valid_fits (b1 ∷ b2 ∷ b3 ∷ b4 ∷ b5 ∷ []) v in
      p b1 b2 b3 b4 b5 (fits 0 (omega arith)) (fits 1 (omega arith)) (fits 2 (omega arith)) (fits 3 (omega arith)) (fits 4 (omega arith))
  of_five P size p (b1 ∷ b2 ∷ b3 ∷ b4 ∷ b5 ∷ b6 ∷ bs) v = absurd (omega (arith, (fitting b1 (b2 ∷ b3 ∷ b4 ∷ b5 ∷ b6 ∷ bs) v).size))

-- the test of three bytes, each of which fits, and of five
pub three : {a b c : Bool} → a ≡ true → b ≡ true → c ≡ true → true && a && (b && (c && true)) ≡ true
three a b c = rw (a, b, c)

pub five : {a b c d e : Bool} → a ≡ true → b ≡ true → c ≡ true → d ≡ true → e ≡ true → true && a && (b && (c && (d && (e && true)))) ≡ true
five a b c d e = rw (a, b, c, d, e)

-- bytes that fit, place by place, are valid
later_valid : (f : Format) (bs : List ℕ) → ((i : ℕ) → i < length bs → fits_later f (get_or bs i 0) ≡ true) → all_later f bs ≡ true
unfolding all_later
later_valid f [] h = refl
later_valid f (b ∷ bs) h = rw (h 0 (omega arith), later_valid f bs (λ i l. h (suc i) (omega arith)))

pub fits_valid : (f : Format) (bs : List ℕ) → length bs ≡ size_of f → 0 < length bs → ((i : ℕ) → i < length bs → fits_at f i (get_or bs i 0) ≡ true) → valid f bs ≡ true
unfolding valid fits_at
fits_valid f [] size some h = absurd (omega arith)
fits_valid f (b ∷ bs) size some h =
    rw (eq-eqb (length (b ∷ bs)) (size_of f) size, h 0 (omega arith), later_valid f bs (λ i l. rw (eqb-suc-zero i) at (h (suc i) (omega arith))))
