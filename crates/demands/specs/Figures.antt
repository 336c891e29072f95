-- The paper's figures, "Proved (p) in a single table", on the promises of the public functions.
use Rattle.std.specs.Prelude.{◌+◌, ◌≡◌, refl, true, false, List, [], ◌∷◌, pos}
use Rattle.std.proofs.Common.{◌∙◌, ap, lit≤}
use Rattle.numbers.specs.Signed.{minus}
use Rattle.numbers.specs.Parity.{even}
use Rattle.wire.specs.Line.{letter_of}
use Rattle.wire.specs.Places.{𝟏, 𝟎, ·, like}
use Rattle.wire.specs.Reading.{report}
use Rattle.wire.specs.declared.Format.TheVariants.{Mm, Microsoft, Relative, FiveByte, ThreeByte, Hexadecimal}
use Rattle.reader.specs.State.{fresh, NewReader, Read}
use Rattle.reader.specs.Good as readers
use Rattle.reader.specs.Rules.{answered}
use Rattle.reader.specs.Promises as reader
use Rattle.reader.specs.Runs.{StepsPromise, answers}
use Rattle.reader.specs.declared.Reader.{Reader}
use Rattle.reader.specs.declared.Answer.TheVariants.{Dropped}
use Rattle.reader.proofs.Permitted.{steps_are}
use Rattle.reader.proofs.Nowhere.{odd_in_b}
use Rattle.ballbox.specs.Box.{dormant}
use Rattle.ballbox.specs.Commands.{letterf, lettert}
use Rattle.ballbox.specs.Good.{good}
use Rattle.ballbox.specs.Promises.{sent_words, FreshPromise, StepPromise}
use Rattle.ballbox.specs.declared.BallBox.{BallBox}
use Rattle.ballbox.specs.declared.Event.TheVariants.{Host, Send}
use Rattle.ballbox.specs.declared.Stepped.{Stepped}
use Rattle.ballbox.proofs.Goodness.{step_stays_good}
use Rattle.ballbox.proofs.Obeying.{reply_to_f, awake_after_f}
use Rattle.ballbox.proofs.Latches.{first_sent}
use Rattle.history.specs.Runs.{RunPromise, words_given}
use Rattle.history.proofs.Bridge.{run_passages}
use Rattle.demands.specs.Said.{Encodes, Refuses, Reads, encodes, refuses, reads}
use Rattle.demands.specs.Computing.{computing}

pub record Figures : Type 0 where
  -- p1 `f` in S: 1A
  pub p1 : (b : BallBox) (r s : Stepped)
      → good b ≡ true
      → dormant b ≡ false
      → b.settings.format ≡ letter_of Mm
      → StepPromise b (Host letterf) r
      → StepPromise r.next Send s
      → sent_words s ≡ 0x1A ∷ []
  -- p2 `t` when fresh: 55 4F
  pub p2 : (b : BallBox) (run : List Stepped)
      → FreshPromise b
      → RunPromise b (Host lettert ∷ Send ∷ Send ∷ []) run
      → words_given run ≡ 0x55 ∷ 0x4F ∷ []
  -- p3 W 36 33 45 35 32: L and M, -29, 37 (000)
  pub p3 : Reads Hexadecimal (0x36 ∷ 0x33 ∷ 0x45 ∷ 0x35 ∷ 0x32 ∷ []) (report 6 (minus 29) (pos 37))
  pub p3_encoded : Encodes Hexadecimal (report 6 (minus 29) (pos 37)) (0x36 ∷ 0x33 ∷ 0x45 ∷ 0x35 ∷ 0x32 ∷ [])
  -- p4 V L, 5, 3: 6C 05 3D
  pub p4 : Encodes Microsoft (report 4 (pos 5) (pos 3)) (0x6C ∷ 0x05 ∷ 0x3D ∷ [])
  -- p5 V 0, y 128: 48 00 00; y -128 is refusal 2; "p5's refusal becomes 9"
  pub p5 : Encodes Microsoft (report 0 (pos 0) (pos 128)) (0x48 ∷ 0x00 ∷ 0x00 ∷ [])
  pub p5_refused : Refuses Microsoft (report 0 (pos 0) (minus 128)) 9
  -- p6 S L, 5, -3: 94 05 03
  pub p6 : Encodes Mm (report 4 (pos 5) (minus 3)) (0x94 ∷ 0x05 ∷ 0x03 ∷ [])
  -- p7 S zero: 98 00 00; 80 00 00 reads the same
  pub p7 : Encodes Mm (report 0 (pos 0) (pos 0)) (0x98 ∷ 0x00 ∷ 0x00 ∷ [])
  pub p7_read : Reads Mm (0x98 ∷ 0x00 ∷ 0x00 ∷ []) (report 0 (pos 0) (pos 0))
  pub p7_same : Reads Mm (0x80 ∷ 0x00 ∷ 0x00 ∷ []) (report 0 (pos 0) (pos 0))
  -- p8 B -1, 64: C0 3F 3F 00 81
  pub p8 : Encodes Relative (report 0 (minus 1) (pos 64)) (0xC0 ∷ 0x3F ∷ 0x3F ∷ 0x00 ∷ 0x81 ∷ [])
  -- p9 U M, 5, -3, -123, 0: 85 05 FD 85 00
  pub p9 : Encodes FiveByte (record { buttons = 2; x1 = pos 5; y1 = minus 3; x2 = minus 123; y2 = pos 0 }) (0x85 ∷ 0x05 ∷ 0xFD ∷ 0x85 ∷ 0x00 ∷ [])
  -- p10 T R, -128, 127: 01 80 7F
  pub p10 : Encodes ThreeByte (report 1 (minus 128) (pos 127)) (0x01 ∷ 0x80 ∷ 0x7F ∷ [])
  -- p11 B byte 40: dropped, odd ones. Its fixed bits are those of a first byte, but the count of its ones is odd: every good reader of B drops it,
  -- with what it had kept.
  pub p11 : (r : Reader) (s : Read)
      → readers.good r ≡ true
      → r.format ≡ letter_of Relative
      → reader.StepPromise r 0x40 s
      → s ≡ answered (fresh r.format) (Dropped (r.count + 1))
  pub p11_odd : (like (· ∷ 𝟏 ∷ 𝟎 ∷ · ∷ · ∷ · ∷ 𝟎 ∷ 𝟎 ∷ []) 0x40 ≡ true) × (even 0x40 ≡ false)
  -- p12 fresh U reader, 85 00: each dropped alone
  pub p12 : (a : NewReader) (steps : List Read)
      → reader.FreshPromise (letter_of FiveByte) a
      → StepsPromise a.reader (0x85 ∷ 0x00 ∷ []) steps
      → answers steps ≡ Dropped 1 ∷ Dropped 1 ∷ []

pub figures : Figures
unfolding computing
figures =
    record {
      p1 = λ b r s g d f p q. first_sent r.next s 0x1A [] (step_stays_good b (Host letterf) r p g) (awake_after_f b r g d p) (reply_to_f b r g d Mm f p) q;
      p2 = λ b run f p. run_passages b (Host lettert ∷ Send ∷ Send ∷ []) run (ap good f) (rw f) p ∙ rw f;
      p3 = reads refl;
      p3_encoded = encodes refl refl;
      p4 = encodes refl refl;
      p5 = encodes refl refl;
      p5_refused = refuses (lit≤ tt) refl;
      p6 = encodes refl refl;
      p7 = encodes refl refl;
      p7_read = reads refl;
      p7_same = reads refl;
      p8 = encodes refl refl;
      p9 = encodes refl refl;
      p10 = encodes refl refl;
      p11 = λ r s g f p. odd_in_b r 0x40 s g (lit≤ tt) p f refl;
      p11_odd = (refl, refl);
      p12 = λ a steps e p. rw (steps_are a.reader _ steps p, e);
    }
