-- The eighth bit of a Microsoft byte: turning it over in any bytes of a V line changes no answer, no count and no number written; and by bit 6 every
-- byte of V is a valid first byte or a valid later one.
use Prim.Native.Nat.{ℕ, ◌-◌, ◌≤◌}
use mathlib.Core.Path.{◌≡◌, refl, sym, ◌∙◌, ap}
use mathlib.Core.Bool.{true, not}
use mathlib.Core.List.{List, ◌∷◌, ◌++◌}
use native.Mathlib.Omega.{arith}
use lib.ListN.{length}
use lib.IntN.{ℤ}
use borrow.Author.Tests.{leb-true, lt-ltb}
use Rattle.numbers.specs.Bits.{number, bit, bits}
use Rattle.numbers.proofs.Choices.{cases}
use Rattle.numbers.proofs.Rows.{bits_below}
use Rattle.numbers.proofs.Tested.{agree, equal}
use Rattle.fold.specs.Fold.{run}
use Rattle.fold.specs.Calls.{line, call}
use Rattle.frames.specs.Words.{is_byte}
use Rattle.frames.specs.Passages.{Passage, UnderWay, passage_words, part_words}
use Rattle.frames.proofs.Words.{passing, line_passes}
use Rattle.wire.specs.Line.{letter_of, named_by}
use Rattle.wire.specs.Places.{like, fits_first, fits_later, fits_at, fits_by}
use Rattle.wire.specs.Messages.{Message, message_bytes, SoundIn, SoundEnd}
use Rattle.wire.specs.declared.Format.TheVariants.{Microsoft}
use Rattle.reader.specs.Rules.{entered, word_of}
use Rattle.reader.specs.Line.{Reading, Long, reading, reads}
use Rattle.reader.specs.Counts.{written_in}
use Rattle.reader.specs.Good.{good}
use Rattle.reader.specs.Promises.{ReadPromise, step_of, read_of}
use Rattle.reader.specs.Runs.{steps_of, StepsPromise}
use Rattle.reader.specs.EighthBit.{turned, seven_bits, TurnedOver, none, stays, turns}
use Rattle.reader.specs.declared.Reader.{Reader}
use Rattle.reader.specs.State.{Read}
use Rattle.reader.proofs.Entered.{enters_in_v, seven_bits_lem}
use Rattle.reader.proofs.Framed.{frame_of}
use Rattle.reader.proofs.Lines.{framed_line, framed_going}
use Rattle.reader.proofs.Word.{word_format}
use Rattle.reader.proofs.Permitted.{steps_are}

-- it enters as it would with the bit turned over
module _ (b : ℕ) (byte : is_byte b ≡ true) where
  small : b ≤ 255
  small = leb-true b 255 byte

  still_byte : is_byte (turned b) ≡ true
  unfolding turned bit bits number
  still_byte = agree (λ n. is_byte (turned n)) (λ n. true) 256 tt b (omega (arith, small))

  same_seven : number (bits 7 0 (turned b)) ≡ number (bits 7 0 b)
  unfolding turned bit bits number
  same_seven = equal (λ n. number (bits 7 0 (turned n))) (λ n. number (bits 7 0 n)) 256 tt b (omega (arith, small))

  word_turned : (r : Reader) → r.format ≡ letter_of Microsoft → word_of r (turned b) ≡ word_of r b
  unfolding word_of
  word_turned r v = rw (still_byte, byte, v, enters_in_v (turned b), enters_in_v b, same_seven)

-- and of V's words, by steps and in a long read
step_format : (r : Reader) (w : ℕ) → (step_of r w).next.format ≡ r.format
unfolding step_of
step_format r w = cases (λ (s : Read). s.next.format ≡ r.format) (good r) (λ _. word_format r w) (λ _. refl)

same_steps : {u v : List ℕ} → TurnedOver u v → (r : Reader) → r.format ≡ letter_of Microsoft → steps_of r u ≡ steps_of r v
unfolding steps_of step_of
same_steps none r f = refl
same_steps (stays {w} t) r f = ap (λ (l : List Read). step_of r w ∷ l) (same_steps t (step_of r w).next (step_format r w ∙ f))
same_steps (turns {w} byte t) r f = rw (word_turned w byte r f) (ap (λ (l : List Read). step_of r w ∷ l) (same_steps t (step_of r w).next (step_format r w ∙ f)))

same_run : {u v : List ℕ} → TurnedOver u v → (r : Reader) (room : ℕ) → r.format ≡ letter_of Microsoft → run reads r u room ≡ run reads r v room
unfolding run
same_run none r room f = refl
same_run (stays {w} t) r room f = rw (same_run t (word_of r w).next (room - length (written_in (word_of r w).answer)) (word_format r w ∙ f))
same_run (turns {w} byte t) r room f = rw (word_turned w byte r f, same_run t (word_of r w).next (room - length (written_in (word_of r w).answer)) (word_format r w ∙ f))

same_read : {u v : List ℕ} → TurnedOver u v → (r : Reader) (out : List ℤ) → r.format ≡ letter_of Microsoft → read_of r u out ≡ read_of r v out
unfolding call line
same_read t r out f = rw (same_run t r (length out) f)

-- the same answers, and the same readers after them
pub turned_steps : (r : Reader) {u v : List ℕ} (a b : List Read) → r.format ≡ letter_of Microsoft → TurnedOver u v → StepsPromise r u a → StepsPromise r v b → a ≡ b
turned_steps r {u} {v} a b f t p q = steps_are r u a p ∙ same_steps t r f ∙ sym (steps_are r v b q)

-- the same refusal, reader and counts, and the same number in each place of the slice
pub turned_read : (r : Reader) {u v : List ℕ} (out : List ℤ) (a b : Reading) (x y : List ℤ) → r.format ≡ letter_of Microsoft → TurnedOver u v
    → ReadPromise r u out a x → ReadPromise r v out b y → (a ≡ b) × (x ≡ y)
turned_read r out a b x y f t p q =
    let is = p ∙ same_read t r out f ∙ sym q in
    (ap reading is, ap (λ (l : Long). l.out) is)

-- "64 to 127 and 192 to 255": by bit 6 a byte of V, as it enters, is valid at the first place, or else at a later one
pub first_by_bit_6 : (b : ℕ) → b ≤ 255 → fits_by (letter_of Microsoft) 0 (entered (letter_of Microsoft) b) ≡ bit 6 b
unfolding entered fits_by named_by fits_at fits_first like bit bits number
first_by_bit_6 b h = agree (λ n. fits_by 0x56 0 (entered 0x56 n)) (bit 6) 256 tt b (omega arith)

pub later_by_bit_6 : (b : ℕ) → b ≤ 255 → fits_by (letter_of Microsoft) 1 (entered (letter_of Microsoft) b) ≡ not (bit 6 b)
unfolding entered fits_by named_by fits_at fits_later like bit bits number
later_by_bit_6 b h = agree (λ n. fits_by 0x56 1 (entered 0x56 n)) (λ n. not (bit 6 n)) 256 tt b (omega arith)

-- "The box still sends it as 0": every byte of a line of V, as a box sends it, is below 128
fit_small : (place b : ℕ) → fits_at Microsoft place b ≡ true → seven_bits b ≡ true
fit_small place b h = rw (lt-ltb b 128 (omega (arith, seven_bits_lem place b h, bits_below 7 0 b)))

pub line_seven_bits : (l : List (Passage Message)) (g : UnderWay Message) → SoundIn Microsoft l → SoundEnd Microsoft g
    → passing seven_bits (passage_words message_bytes l ++ part_words message_bytes g) ≡ true
line_seven_bits l g s e =
    line_passes seven_bits (frame_of Microsoft) message_bytes refl refl (λ k b h. fit_small (length k) b h) l g (framed_line Microsoft l s) (framed_going Microsoft g e)
