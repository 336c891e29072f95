-- Words that each fit the next place of a report: where they are as many as a report has, they are a valid one.
use Prim.Native.Nat.{ℕ, suc, ◌+◌, ◌<◌, ◌≤◌}
use mathlib.Core.Path.{◌≡◌, refl, sym, ap, ◌∙◌}
use mathlib.Core.Bool.{Bool, true, false, cond, ◌&&◌, and-true, and-false, and_assoc}
use mathlib.Core.List.{List, [], ◌∷◌}
use native.Mathlib.Omega.{arith}
use native.Mathlib.Numerals.{add-one}
use lib.ListN.{length, take, drop, get_or, drop_of_length-le}
use lib.Seq.{drop-cons, length-take-le}
use lib.Dec.{leb}
use borrow.Author.Tests.{le-leb, lt-leb, eq-eqb, ne_eqb}
use Rattle.frames.specs.Words.{is_byte, silence, line_words}
use Rattle.wire.specs.Line.{named_by, of_named, size_of, size_by}
use Rattle.wire.specs.Places.{fits_first, fits_later, fits_at, all_later, valid}
use Rattle.wire.specs.declared.Format.{Format}
use Rattle.std.proofs.Common.{Option, Some, None}
use Rattle.wire.proofs.Letters.{fits_named}
use Rattle.choosing.specs.Choice.{all_bytes}
use Rattle.choosing.specs.Earliest.{starts}
use Rattle.salvage.specs.Picking.{valid_by, starts_by, fits_word}

-- each word fits its place, the first being at this one
unfoldable pub fit_from : ℕ → ℕ → List ℕ → Bool
fit_from letter place [] = true
fit_from letter place (w ∷ words) = fits_word letter place w && fit_from letter (suc place) words

-- a word more, of those that are tested one by one
module _ (words : List ℕ) (ok : Bool) (i : ℕ) (h : i < length words) where
  pub fit_more : (letter : ℕ) → ok && fit_from letter i (drop i words) ≡ ok && fits_word letter i (get_or words i 0) && fit_from letter (i + 1) (drop (i + 1) words)
  unfolding fit_from
  fit_more letter = rw (add-one, drop-cons words i 0 h) (sym (and_assoc ok (fits_word letter i (get_or words i 0)) (fit_from letter (suc i) (drop (suc i) words))))

  pub line_more : ok && line_words (drop i words) ≡ ok && leb (get_or words i 0) silence && line_words (drop (i + 1) words)
  unfolding line_words
  line_more = rw (add-one, drop-cons words i 0 h) (sym (and_assoc ok (leb (get_or words i 0) silence) (line_words (drop (suc i) words))))

-- and the last
pub fit_end : (letter : ℕ) (words : List ℕ) (ok : Bool) (i : ℕ) → length words ≤ i → ok && fit_from letter i (drop i words) ≡ ok
unfolding fit_from
fit_end letter words ok i h = rw (drop_of_length-le words h) (and-true ok)

pub line_end : (words : List ℕ) (ok : Bool) (i : ℕ) → length words ≤ i → ok && line_words (drop i words) ≡ ok
unfolding line_words
line_end words ok i h = rw (drop_of_length-le words h) (and-true ok)

-- a byte in its place and the others in theirs
joined : (byte fits bytes others : Bool) → byte && bytes && (fits && others) ≡ cond byte fits false && (bytes && others)
joined false fits bytes others = refl
joined true false bytes others = and-false bytes
joined true true bytes others = refl

module _ (letter : ℕ) (f : Format) (named : named_by letter ≡ Some f) where
  later_fit : (place : ℕ) (words : List ℕ) → all_bytes words && all_later f words ≡ fit_from letter (suc place) words
  unfolding all_bytes all_later fit_from fits_word fits_at
  later_fit place [] = refl
  later_fit place (w ∷ words) =
      rw (fits_named letter named (suc place) w, ne_eqb (suc place) 0 (λ e. omega arith))
      (joined (is_byte w) (fits_later f w) (all_bytes words) (all_later f words) ∙ ap (λ (t : Bool). cond (is_byte w) (fits_later f w) false && t) (later_fit (suc place) words))

  all_fit : (words : List ℕ) → length words ≡ size_of f → 0 < length words → all_bytes words && valid f words ≡ fit_from letter 0 words
  unfolding all_bytes valid fit_from fits_word fits_at
  all_fit [] e h = absurd (omega arith)
  all_fit (w ∷ words) e h =
      rw (fits_named letter named 0 w, eq-eqb (length (w ∷ words)) (size_of f) e)
      (joined (is_byte w) (fits_first f w) (all_bytes words) (all_later f words) ∙ ap (λ (t : Bool). cond (is_byte w) (fits_first f w) false && t) (later_fit 0 words))

-- as many words as a report has
pub run_fits : (letter : ℕ) (words : List ℕ) → length words ≡ size_by letter → 0 < length words → all_bytes words && valid_by letter words ≡ fit_from letter 0 words
unfolding valid_by size_by
run_fits letter words e h = go (named_by letter) refl
  where
    go : (n : Option Format) → named_by letter ≡ n → all_bytes words && of_named false (λ f. valid f words) (named_by letter) ≡ fit_from letter 0 words
    go (Some f) named = rw named (all_fit letter f named words (rw named at e) h)
    go None named = absurd (omega (arith, rw named at e))

no_bytes : (f : Format) → valid f [] ≡ false
unfolding valid
no_bytes f = refl

-- a run of words, none where there are too few, and none of a letter that is not in the table
pub starts_fits : (letter : ℕ) (words : List ℕ) → 0 < size_by letter → size_by letter ≤ length words → starts_by letter words ≡ fit_from letter 0 (take (size_by letter) words)
unfolding starts
starts_fits letter words some h =
    let l = length-take-le (size_by letter) words h in
    rw (le-leb (size_by letter) (length words) h) (run_fits letter (take (size_by letter) words) l (omega arith))

pub starts_short : (letter : ℕ) (words : List ℕ) → length words < size_by letter → starts_by letter words ≡ false
unfolding starts
starts_short letter words h = rw (lt-leb (size_by letter) (length words) h)

pub starts_none : (letter : ℕ) (words : List ℕ) → size_by letter ≡ 0 → starts_by letter words ≡ false
unfolding starts valid_by
starts_none letter words e = rw e (ap (λ (t : Bool). leb 0 (length words) && all_bytes [] && t) (nothing (named_by letter)) ∙ and-false (leb 0 (length words) && all_bytes []))
  where
    nothing : (n : Option Format) → of_named false (λ f. valid f []) n ≡ false
    nothing (Some f) = no_bytes f
    nothing None = refl
