-- A word leaves a good check good.
use Prim.Native.Nat.{ℕ, ◌+◌, ◌-◌, ◌<◌}
use mathlib.Core.Path.{◌≡◌, refl}
use mathlib.Core.Bool.{Bool, true, false, not, cond, ◌&&◌, ◌||◌, and-false}
use native.Mathlib.Omega.{arith}
use lib.Dec.{eqb, ltb, leb}
use borrow.Author.Tests.{lt-ltb, ltb-true, eqb-true, eqb-false, eq-eqb, ne_eqb}
use Rattle.numbers.proofs.Choices.{cases}
use Rattle.numbers.proofs.Tested.{left, right}
use Rattle.frames.specs.Words.{is_byte, break, silence}
use Rattle.wire.specs.Line.{named_by, of_named, known, size_by}
use Rattle.wire.specs.Places.{fits_by}
use Rattle.wire.specs.Numbers.{bad_word}
use Rattle.std.proofs.Common.{Option, Some, None}
use Rattle.wire.specs.declared.Format.{Format}
use Rattle.wire.specs.declared.Format.TheVariants.{Mm, Microsoft, Absolute, Relative, FiveByte, ThreeByte, Hexadecimal}
use Rattle.wire.proofs.Letters.{size_positive}
use Rattle.yard.specs.Stands.{least_w, barred, barred_by, stands_by}
use Rattle.yard.specs.State.{ended, none_gone, over}
use Rattle.yard.specs.Good.{gone_rightly, good}
use Rattle.yard.specs.Rules.{can, cannot, refusing, first_with, one_more, byte_can, silence_of, word_of}
use Rattle.yard.specs.declared.Yard.{Yard}
use Rattle.yard.specs.declared.Judged.{Judged}

-- what is told of a good check
module _ (y : Yard) (g : good y ≡ true) where
  abbrev begun : Bool
  begun = cond (eqb y.count 0) (eqb y.first 0 && eqb y.last 0) (not (ended y) && gone_rightly y)

  of_size : known y.format && ltb y.count (size_by y.format) ≡ true
  unfolding good
  of_size = left (known y.format && ltb y.count (size_by y.format)) (leb y.ended 1) (left (known y.format && ltb y.count (size_by y.format) && leb y.ended 1) begun g)

  pub of_known : known y.format ≡ true
  of_known = left (known y.format) (ltb y.count (size_by y.format)) of_size

  pub below_size_lem : y.count < size_by y.format
  below_size_lem = ltb-true y.count (size_by y.format) (right (known y.format) (ltb y.count (size_by y.format)) of_size)

  rightly : begun ≡ true
  unfolding good
  rightly = right (known y.format && ltb y.count (size_by y.format) && leb y.ended 1) begun g

  pub none_first : y.count ≡ 0 → (y.first ≡ 0) × (y.last ≡ 0)
  none_first e =
      let h : eqb y.first 0 && eqb y.last 0 ≡ true = rw (eq-eqb y.count 0 e) at rightly in
      (eqb-true y.first 0 (left (eqb y.first 0) (eqb y.last 0) h), eqb-true y.last 0 (right (eqb y.first 0) (eqb y.last 0) h))

  first_stands : (y.count ≡ 0 → ⊥) → stands_by y.format 0 0 0 y.first ≡ true
  unfolding gone_rightly
  first_stands ne =
      let h : not (ended y) && gone_rightly y ≡ true = rw (ne_eqb y.count 0 ne) at rightly in
      left (stands_by y.format 0 0 0 y.first) _ (right (not (ended y)) (gone_rightly y) h)

-- a word by cases: above 257; one that cannot be sent; one behind which nothing has gone; one byte more of a report
pub by_word : (P : Judged → Type 0) (y : Yard) (w : ℕ)
    → (leb w silence ≡ false → P (refusing bad_word y))
    → (leb w silence ≡ true → P (cannot y.format))
    → (leb w silence ≡ true → P (can (none_gone y.format)))
    → (leb w silence ≡ true → stands_by y.format y.count y.first y.last w ≡ true → eqb (y.count + 1) (size_by y.format) ≡ false → P (can (one_more y w)))
    → P (word_of y w)
unfolding word_of byte_can silence_of
by_word P y w bad stop none more =
    cases P (leb w silence)
    (λ l. cases P (ended y) (λ _. stop l)
    (λ _. cases P (is_byte w)
    (λ _. cases P (stands_by y.format y.count y.first y.last w) (λ s. cases P (eqb (y.count + 1) (size_by y.format)) (λ _. none l) (λ f. more l s f)) (λ _. stop l))
    (λ _. cases P (eqb w break) (λ _. none l) (λ _. cases P (eqb y.count 0) (λ _. none l) (λ _. stop l)))))
    bad

-- what stands behind a last byte stands behind none
behind : (letter place first last b : ℕ) → stands_by letter place first last b ≡ true → stands_by letter place first 0 b ≡ true
unfolding stands_by barred_by barred least_w
behind letter place first last b = go (named_by letter)
  where
    go : (n : Option Format) → fits_by letter place b && not (of_named false (λ f. barred f place first last b) n) ≡ true → fits_by letter place b && not (of_named false (λ f. barred f place first 0 b) n) ≡ true
    go (Some f) h = format f h
      where
        format : (f : Format) → fits_by letter place b && not (barred f place first last b) ≡ true → fits_by letter place b && not (barred f place first 0 b) ≡ true
        format Mm h = h
        format Microsoft h = h
        format Absolute h = h
        format Relative h = h
        format FiveByte h = h
        format ThreeByte h = h
        format Hexadecimal h = rw (left (fits_by letter place b) _ h, and-false (eqb place 2 || eqb place 4))
    go None h = h

pub none_good : (letter : ℕ) → known letter ≡ true → good (none_gone letter) ≡ true
unfolding good
none_good letter k = rw (k, lt-ltb 0 (size_by letter) (size_positive letter k))

pub over_good : (letter : ℕ) → known letter ≡ true → good (over letter) ≡ true
unfolding good
over_good letter k = rw (k, lt-ltb 0 (size_by letter) (size_positive letter k))

module _ (y : Yard) (g : good y ≡ true) where
  more_good : (b : ℕ) → stands_by y.format y.count y.first y.last b ≡ true → eqb (y.count + 1) (size_by y.format) ≡ false → good (one_more y b) ≡ true
  unfolding good one_more first_with gone_rightly
  more_good b s f = go (eqb y.count 0) refl
    where
      room : ltb (y.count + 1) (size_by y.format) ≡ true
      room = let d = eqb-false (y.count + 1) (size_by y.format) f in lt-ltb (y.count + 1) (size_by y.format) (omega (arith, below_size_lem y g))

      some : eqb (y.count + 1) 0 ≡ false
      some = ne_eqb (y.count + 1) 0 (λ e. omega arith)

      go : (t : Bool) → eqb y.count 0 ≡ t → good (one_more y b) ≡ true
      go true e =
          let z : y.count ≡ 0 = eqb-true y.count 0 e in
          let n = none_first y g z in
          let k : stands_by y.format 0 0 0 b ≡ true = rw (z, n.0, n.1) at s in
          rw (of_known y g, room, some, e, k, eq-eqb (y.count + 1) 1 (omega arith), eq-eqb b b refl)
      go false e =
          let d = eqb-false y.count 0 e in
          let less : y.count + 1 - 1 ≡ y.count = omega arith in
          rw (of_known y g, room, some, e, first_stands y g d, ne_eqb (y.count + 1) 1 (λ q. d (omega arith)), less, behind y.format y.count y.first y.last b s)

  pub word_good : (w : ℕ) → good (word_of y w).next ≡ true
  word_good w =
      let k = of_known y g in
      by_word (λ j. good j.next ≡ true) y w (λ _. g) (λ _. over_good y.format k) (λ _. none_good y.format k) (λ _ s f. more_good w s f)
