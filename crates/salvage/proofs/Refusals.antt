-- The refusals in their order, and a log that is not refused.
use Prim.Native.Nat.{ℕ, ◌<◌, ◌≤◌}
use mathlib.Core.Path.{◌≡◌, refl, sym, ◌∙◌}
use mathlib.Core.Bool.{Bool, true, false, not, cond}
use mathlib.Core.List.Memᴰ.{head as here}
use mathlib.Core.List.Memᴰ.{tail as there}
use mathlib.Core.List.{List}
use native.Mathlib.Omega.{arith}
use lib.ListN.{length}
use lib.Dec.{ltb, eqb}
use borrow.Author.Tests.{ne_eqb, lt-ltb, le-ltb, ltb-false}
use Rattle.frames.specs.Words.{line_words}
use Rattle.numbers.proofs.Tested.{holds}
use Rattle.wire.specs.Line.{named_by, of_named, known, size_by, marked_of, marked_by}
use Rattle.wire.specs.declared.Format.TheVariants.{Mm, Microsoft, Absolute, Relative}
use Rattle.std.proofs.Common.{Option, Some, None}
use Rattle.wire.specs.declared.Format.{Format}
use Rattle.wire.specs.declared.refusal.Refusal.{Refusal}
use Rattle.wire.specs.declared.refusal.Refusal.TheVariants.{NoSuchLetter, ButtonsAboveSeven, BadWord, BufferTooShort, BadState, FaultyLine, FirstXNotHeld}
use Rattle.wire.specs.declared.refusal.Refusal.TheVariants.{FirstYNotHeld, SecondXNotHeld, SecondYNotHeld, NoReply, MarkedFormat, TooManyWords, NumberTooWide}
use Rattle.wire.specs.Refusals.{number_of}
use Rattle.wire.specs.Numbers.{success, bad_letter, bad_word, accepted, refusal}
use Rattle.salvage.specs.Picking.{most_words, marked_format, long_log, refusal_of, whole, refused, picking, pick_of}
use Rattle.salvage.specs.Promises.{PickPromise, PickRefusal}
use Rattle.salvage.specs.declared.Picked.{Picked}

module _ (letter : ℕ) (words : List ℕ) where
  pub unknown_first : known letter ≡ false → refusal_of letter words ≡ bad_letter
  unfolding refusal_of
  unknown_first k = rw k

  module _ (k : known letter ≡ true) where
    pub marked_second : marked_by letter ≡ true → refusal_of letter words ≡ marked_format
    unfolding refusal_of
    marked_second m = rw (k, m)

    module _ (m : marked_by letter ≡ false) where
      pub long_third : most_words < length words → refusal_of letter words ≡ long_log
      unfolding refusal_of
      long_third l = rw (k, m, lt-ltb most_words (length words) l)

      module _ (l : length words ≤ most_words) where
        pub word_fourth : line_words words ≡ false → refusal_of letter words ≡ bad_word
        unfolding refusal_of
        word_fourth w = rw (k, m, le-ltb most_words (length words) l, w)

        pub none_left : line_words words ≡ true → refusal_of letter words ≡ success
        unfolding refusal_of
        none_left w = rw (k, m, le-ltb most_words (length words) l, w)

  -- a log that is taken: a known unmarked format, and no more words than may be, all of a line
  pub record Taken : Type 0 where
    pub is_known : known letter ≡ true
    pub unmarked : marked_by letter ≡ false
    pub few : length words ≤ most_words
    pub line : line_words words ≡ true

  pub taken : refusal_of letter words ≡ success → Taken
  unfolding refusal_of
  taken e = go (known letter) refl (marked_by letter) refl (ltb most_words (length words)) refl (line_words words) refl e
    where
      go : (k : Bool) → known letter ≡ k → (m : Bool) → marked_by letter ≡ m → (l : Bool) → ltb most_words (length words) ≡ l → (w : Bool) → line_words words ≡ w
          → cond (not k) bad_letter (cond m marked_format (cond l long_log (cond (not w) bad_word success))) ≡ success → Taken
      go false p m q l r w s e = absurd (omega arith)
      go true p true q l r w s e = absurd (omega arith)
      go true p false q true r w s e = absurd (omega arith)
      go true p false q false r false s e = absurd (omega arith)
      go true p false q false r true s e = record { is_known = p; unmarked = q; few = ltb-false most_words (length words) r; line = s }

-- a refusal is no success
pub some_number : (r : Refusal) → eqb (number_of r) success ≡ false
some_number NoSuchLetter = refl
some_number ButtonsAboveSeven = refl
some_number BadWord = refl
some_number BufferTooShort = refl
some_number BadState = refl
some_number FaultyLine = refl
some_number FirstXNotHeld = refl
some_number FirstYNotHeld = refl
some_number SecondXNotHeld = refl
some_number SecondYNotHeld = refl
some_number NoReply = refl
some_number MarkedFormat = refl
some_number TooManyWords = refl
some_number NumberTooWide = refl

-- the letters of the unmarked formats with their sizes, and that there are no others
pub sizes : (size_by 0x55 ≡ 5) × (size_by 0x54 ≡ 3) × (size_by 0x57 ≡ 5)
unfolding size_by named_by
sizes = (refl, refl, refl)

pub one_of_three : (letter : ℕ) → known letter ≡ true → marked_by letter ≡ false → (letter ≡ 0x55 → ⊥) → (letter ≡ 0x54 → ⊥) → (letter ≡ 0x57 → ⊥) → ⊥
unfolding known marked_by named_by
one_of_three letter k m u t w =
    go (eqb letter 0x53) (eqb letter 0x56) (eqb letter 0x41) (eqb letter 0x42) (rw (ne_eqb _ _ u, ne_eqb _ _ t, ne_eqb _ _ w) at k) (rw (ne_eqb _ _ u, ne_eqb _ _ t, ne_eqb _ _ w) at m)
  where
    named : Bool → Bool → Bool → Bool → Option Format
    named s v a b = cond s (Some Mm) (cond v (Some Microsoft) (cond a (Some Absolute) (cond b (Some Relative) None)))

    go : (s v a b : Bool) → of_named false (λ f. true) (named s v a b) ≡ true → of_named false marked_of (named s v a b) ≡ false → ⊥
    go true v a b k m = holds (sym m)
    go false true a b k m = holds (sym m)
    go false false true b k m = holds (sym m)
    go false false false true k m = holds (sym m)
    go false false false false k m = holds k

done : (letter : ℕ) (words before : List ℕ) → (picking letter words before).picked.refusal ≡ success
unfolding picking
done letter words before = refl

rightly : (letter : ℕ) (words before : List ℕ) → PickRefusal before (pick_of letter words before)
unfolding pick_of refusal_of picking
rightly letter words before =
    go (known letter) (marked_by letter) (ltb most_words (length words)) (line_words words)
  where
    go : (k m l w : Bool)
        → let n = cond (not k) bad_letter (cond m marked_format (cond l long_log (cond (not w) bad_word success))) in
        PickRefusal before (cond (eqb n success) (picking letter words before) (refused n before))
    go false m l w = refusal (here refl)
    go true true l w = refusal (there (here refl))
    go true false true w = refusal (there (there (here refl)))
    go true false false false = refusal (there (there (there (here refl))))
    go true false false true = accepted (done letter words before)

-- whatever meets the promise is no refusal, or one of the four, which leaves the slice and counts nothing
pub refusals : (letter : ℕ) (words before after : List ℕ) (a : Picked) → PickPromise letter words before a after → PickRefusal before (whole a after)
refusals letter words before after a p = rw p (rightly letter words before)

-- which of them it is
pub refused_with : (letter : ℕ) (words before after : List ℕ) (a : Picked) (n : ℕ) → refusal_of letter words ≡ n → eqb n success ≡ false → PickPromise letter words before a after
    → whole a after ≡ refused n before
unfolding pick_of
refused_with letter words before after a n e some p = p ∙ rw (e, some)
