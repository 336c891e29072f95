-- Sentences of "The reader" that follow from its rules.
use Prim.Native.Nat.{ℕ, zero, suc, ◌+◌, ◌<◌, ◌≤◌}
use mathlib.Core.Path.{◌≡◌, refl, sym, ◌∙◌}
use mathlib.Core.Bool.{Bool, true, false, not, ◌&&◌, ◌||◌}
use mathlib.Core.List.{[], ◌∷◌}
use native.Mathlib.Omega.{arith}
use lib.ListN.{length}
use lib.Seq.{length-take-le}
use lib.Dec.{eqb, eqb-suc-zero}
use borrow.Author.Tests.{le-leb, eqb-true, ne_eqb}
use Rattle.numbers.proofs.Tested.{refused, holds}
use Rattle.wire.specs.Line.{named_by, of_named, size_by, marked_of, marked_by}
use Rattle.wire.specs.Places.{fits_at, fits_by}
use Rattle.std.proofs.Common.{Option, Some, None}
use Rattle.wire.specs.declared.Format.{Format}
use Rattle.wire.proofs.Letters.{at_most_five, at_least_three}
use Rattle.wire.proofs.Codec.{mark}
use Rattle.reader.specs.State.{reader, kept_in, fresh, Read}
use Rattle.reader.specs.Good.{good}
use Rattle.reader.specs.Rules.{entered, answered, dropping, keep, start, lose, byte_of, word_of}
use Rattle.reader.specs.Promises.{StepPromise}
use Rattle.reader.specs.declared.Reader.{Reader}
use Rattle.reader.specs.declared.Answer.TheVariants.{Dropped}
use Rattle.reader.proofs.Parts.{parts, zeros}
use Rattle.reader.proofs.Word.{lost_is}
use Rattle.reader.proofs.Permitted.{step_is}
use Rattle.reader.proofs.Goodness.{step_word}

-- "A reader has a format, up to size minus one bytes"
pub fewer_than_size : (r : Reader) → good r ≡ true → length (kept_in r) < size_by r.format
fewer_than_size r g =
    let p = parts r g in
    rw (length-take-le r.count r.kept (omega (arith, p.below, p.five, at_most_five r.format))) p.below

-- "and in U, T, W a mark that it awaits silence"
only_unmarked : (awaiting marked none : Bool) → not awaiting || (not marked && none) ≡ true → awaiting ≡ true → (marked ≡ false) × (none ≡ true)
only_unmarked true true none e w = absurd (holds e)
only_unmarked true false none e w = (refl, e)
only_unmarked false marked none e w = absurd (holds w)

pub awaits_only_unmarked : (r : Reader) → good r ≡ true → r.awaiting ≡ true → (marked_by r.format ≡ false) × (r.count ≡ 0)
awaits_only_unmarked r g w =
    let o = only_unmarked r.awaiting (marked_by r.format) (eqb r.count 0) (parts r g).awaits w in (o.0, eqb-true r.count 0 o.1)

-- so that a marked format never awaits
pub never_awaits : (r : Reader) → good r ≡ true → marked_by r.format ≡ true → r.awaiting ≡ false
never_awaits r g m = refused r.awaiting (λ w. holds (sym (awaits_only_unmarked r g w).0 ∙ m))

-- in a marked format no valid first byte is a valid later one
first_not_later : (letter place b : ℕ) → marked_by letter ≡ true → fits_by letter 0 b ≡ true → fits_by letter (suc place) b ≡ false
unfolding marked_by fits_by fits_at
first_not_later letter place b = go (named_by letter)
  where
    go : (n : Option Format) → of_named false marked_of n ≡ true → of_named false (λ f. fits_at f 0 b) n ≡ true → of_named false (λ f. fits_at f (suc place) b) n ≡ false
    go (Some f) m h = rw (eqb-suc-zero place) (mark f b m h)
    go None m h = absurd (holds m)

-- a byte b, as it enters, by the rule that takes it
module _ (r : Reader) (w : ℕ) (s : Read) (g : good r ≡ true) (byte : w ≤ 255) (e : StepPromise r w s) where
  abbrev b : ℕ
  b = entered r.format w

  byte_is : s ≡ byte_of r b
  unfolding word_of
  byte_is = step_is r w s e ∙ step_word r w g ∙ rw (le-leb w 255 byte)

  -- "A valid first byte of a marked format starts a report anywhere; k kept bytes are dropped."
  pub starts_anywhere : marked_by r.format ≡ true → fits_by r.format 0 b ≡ true → s ≡ answered (reader r.format (b ∷ 0 ∷ 0 ∷ 0 ∷ 0 ∷ []) 1 false) (dropping r.count)
  unfolding byte_of keep start dropping
  starts_anywhere m h = byte_is ∙ go r.count refl
    where
      go : (n : ℕ) → r.count ≡ n → byte_of r b ≡ answered (reader r.format (b ∷ 0 ∷ 0 ∷ 0 ∷ 0 ∷ []) 1 false) (dropping r.count)
      go zero z =
          let ne : 1 ≡ size_by r.format → ⊥ = λ q. omega (arith, at_least_three r.format r.count (parts r g).below) in
          rw (never_awaits r g m, z, h, zeros r g z, ne_eqb 1 (size_by r.format) ne)
      go (suc n) z = rw (never_awaits r g m, z, first_not_later r.format n b m h, m, h)

  -- "A byte that none of these rules takes [..] is dropped with the k kept, k+1; U, T, W then await silence"
  pub lost : r.awaiting ≡ false → fits_by r.format r.count b ≡ false → marked_by r.format && fits_by r.format 0 b ≡ false → s ≡ answered (fresh r.format) (Dropped (r.count + 1))
  unfolding lose
  lost waits f h = byte_is ∙ lost_is r b waits f h

  -- "In a marked format with none kept, a valid later byte is dropped alone": the reader is as it was
  pub later_alone : marked_by r.format ≡ true → r.count ≡ 0 → fits_by r.format 1 b ≡ true → s ≡ answered r (Dropped 1)
  later_alone m z h =
      let first : fits_by r.format 0 b ≡ false = refused (fits_by r.format 0 b) (λ f. holds (sym (first_not_later r.format 0 b m f) ∙ h)) in
      lost (never_awaits r g m) (rw (z, first)) (rw (m, first)) ∙ rw (never_awaits r g m, z, m, zeros r g z)

  -- "where each byte is dropped alone"
  pub awaiting_alone : r.awaiting ≡ true → s ≡ answered r (Dropped 1)
  unfolding byte_of
  awaiting_alone waits = byte_is ∙ rw waits
