-- Words as they are sent: each is legal and enters as itself. Of a line on which a stretch was replaced the reader sees the new words as they enter.
use Prim.Native.Nat.{ℕ}
use mathlib.Core.Path.{◌≡◌, refl, ◌∙◌}
use mathlib.Core.Bool.{Bool, true, ◌&&◌}
use mathlib.Core.List.{List, [], ◌∷◌, ◌++◌, map-append}
use native.Mathlib.Omega.{arith}
use lib.Dec.{leb, eqb}
use borrow.Author.Tests.{le-leb, eq-eqb, eqb-true}
use Rattle.numbers.proofs.Choices.{both}
use Rattle.numbers.proofs.Tested.{left, right}
use Rattle.frames.specs.Words.{break, silence, line_words}
use Rattle.frames.proofs.Words.{passing, passing_left, passing_right}
use Rattle.wire.specs.Line.{letter_of}
use Rattle.wire.specs.Places.{fits_at}
use Rattle.wire.specs.declared.Format.{Format}
use Rattle.wire.proofs.Letters.{letter_named, fits_named}
use Rattle.wire.proofs.Codec.{fits_byte}
use Rattle.reader.proofs.Entered.{fit_enters, entered_word, entered_all}

legal_append : (u v : List ℕ) → line_words u ≡ true → line_words v ≡ true → line_words (u ++ v) ≡ true
unfolding line_words
legal_append [] v h k = k
legal_append (w ∷ u) v h k = rw (left (leb w silence) (line_words u) h) (legal_append u v (right (leb w silence) (line_words u) h) k)

module _ (f : Format) where
  abbrev pub plain : ℕ → Bool
  plain w = leb w silence && eqb (entered_word (letter_of f) w) w

  abbrev pub as_sent : List ℕ → Bool
  as_sent words = passing plain words

  pub sent_legal : (u : List ℕ) → as_sent u ≡ true → line_words u ≡ true
  unfolding passing line_words
  sent_legal [] h = refl
  sent_legal (w ∷ u) h = both (leb w silence) (line_words u) (left (leb w silence) _ (left (plain w) (as_sent u) h)) (sent_legal u (right (plain w) (as_sent u) h))

  pub sent_enters : (u : List ℕ) → as_sent u ≡ true → entered_all (letter_of f) u ≡ u
  unfolding passing
  sent_enters [] h = refl
  sent_enters (w ∷ u) h =
      let e = eqb-true (entered_word (letter_of f) w) w (right (leb w silence) _ (left (plain w) (as_sent u) h)) in
      let t = sent_enters u (right (plain w) (as_sent u) h) in
      cc

  -- a break, a silence, and a byte that fits its place
  pub break_plain : plain break ≡ true
  break_plain = refl

  pub silence_plain : plain silence ≡ true
  silence_plain = refl

  pub fit_plain : (place b : ℕ) → fits_at f place b ≡ true → plain b ≡ true
  fit_plain place b h =
      let byte = fits_byte f place b h in
      let same = fit_enters (letter_of f) place b (fits_named (letter_of f) (letter_named f) place b ∙ h) in
      rw (le-leb b silence (omega arith), le-leb b 255 (omega arith), same, eq-eqb b b refl)

  -- a stretch `old` of what was sent was replaced by `new`, and `given` stands in front
  module _ (given pre old post new : List ℕ) (g : as_sent given ≡ true) (s : as_sent (pre ++ (old ++ post)) ≡ true) where
    abbrev front : as_sent pre ≡ true
    front = passing_left plain pre (old ++ post) s

    abbrev behind : as_sent post ≡ true
    behind = passing_right plain old post (passing_right plain pre (old ++ post) s)

    pub replaced_legal : line_words new ≡ true → line_words (given ++ (pre ++ (new ++ post))) ≡ true
    replaced_legal n =
        legal_append given (pre ++ (new ++ post)) (sent_legal given g)
        (legal_append pre (new ++ post) (sent_legal pre front) (legal_append new post n (sent_legal post behind)))

    pub replaced_enters : entered_all (letter_of f) (given ++ (pre ++ (new ++ post))) ≡ given ++ (pre ++ (entered_all (letter_of f) new ++ post))
    replaced_enters = simp (map-append, sent_enters given g, sent_enters pre front, sent_enters post behind)
