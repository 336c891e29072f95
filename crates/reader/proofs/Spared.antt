-- A finished report of which every byte stays is handed out, whatever is damaged before and behind it: in a marked
-- format, and in an unmarked one behind a silence.
use Prim.Native.Nat.{ℕ, suc, ◌+◌}
use mathlib.Core.Path.{◌≡◌, refl}
use mathlib.Core.Bool.{true}
use mathlib.Core.List.{List, [], ◌∷◌, ◌++◌, append-nil}
use native.Mathlib.Omega.{arith}
use lib.ListN.{length}
use Rattle.numbers.proofs.Choices.{both}
use Rattle.frames.specs.Words.{silence}
use Rattle.frames.specs.Passages.{Passage, silent, finished, UnderWay, nothing, Unbroken, passage_words, part_words}
use Rattle.frames.specs.Damage.{Shown}
use Rattle.frames.proofs.Passages.{sound_left, sound_right}
use Rattle.frames.proofs.Words.{passing, passing_append}
use Rattle.frames.proofs.Replaced as replaced
use Rattle.wire.specs.Line.{size_of, marked_of}
use Rattle.wire.specs.Holds.{carried}
use Rattle.wire.specs.Reading.{report_of}
use Rattle.wire.specs.Messages.{Latched, Message, report, message_bytes, HeldBy, SoundIn, SoundEnd}
use Rattle.wire.specs.declared.Format.{Format}
use Rattle.wire.proofs.Codec.{bytes_length, there}
use Rattle.reader.specs.DamagedLines.{Given, HandsOutAt}
use Rattle.reader.proofs.Framed.{frame_of, laws, is_marked}
use Rattle.reader.proofs.AsSent.{plain, as_sent, sent_legal, sent_enters, silence_plain}
use Rattle.reader.proofs.Lines.{held_framed, framed_line, line_sent}
use Rattle.reader.proofs.Handed.{hands_out_at, given_sent}
use Rattle.reader.proofs.Shown.{shown_plain}

passages_sent : (f : Format) (l : List (Passage Message)) → SoundIn f l → as_sent f (passage_words message_bytes l) ≡ true
passages_sent f l s = rw append-nil at (line_sent f l nothing s tt)

module _ (f : Format) (r : Latched) (held : HeldBy f (report r)) where
  size_is : length (message_bytes (report r)) ≡ size_of f
  size_is = rw held.0 (bytes_length f r.report)

  carried_is : report_of f (message_bytes (report r)) ≡ carried f r.report
  carried_is = rw (held.0, there f r.report held.1)

  report_sent : as_sent f (message_bytes (report r)) ≡ true
  report_sent = simp append-nil at (passages_sent f (finished (report r) ∷ []) (held, tt))

  handed_at : (words : List ℕ) (i : ℕ) → as_sent f words ≡ true → replaced.Handed (frame_of f) words i (report_of f (message_bytes (report r)))
      → HandsOutAt f words i (carried f r.report)
  handed_at words i all h = hands_out_at f words words (sent_legal f words all) (sent_enters f words all) i (carried f r.report) (rw carried_is at h)

-- The line: `given` in front, `before`, the finished report r, `after` and then `going`; what is left before r and
-- behind it.
module _ (f : Format) (before : List (Passage Message)) (r : Latched) (after : List (Passage Message)) (going : UnderWay Message)
    (s : SoundIn f (before ++ (finished (report r) ∷ after))) (e : SoundEnd f going) {given : List ℕ} (in_front : Given given)
    {late : List ℕ} (behind : Shown (marked_of f) late (passage_words message_bytes after ++ part_words message_bytes going)) where
  held : HeldBy f (report r)
  held = (sound_right message_bytes (HeldBy f) before (finished (report r) ∷ after) s).0

  late_sent : as_sent f (message_bytes (report r) ++ late) ≡ true
  late_sent =
      passing_append (plain f) (message_bytes (report r)) late (report_sent f r held)
      (shown_plain f behind (line_sent f after going (sound_right message_bytes (HeldBy f) before (finished (report r) ∷ after) s).1 e))

  early_sent : {early : List ℕ} (l : List (Passage Message)) → SoundIn f l → Shown (marked_of f) early (given ++ passage_words message_bytes l) → as_sent f early ≡ true
  early_sent l t d = shown_plain f d (passing_append (plain f) given (passage_words message_bytes l) (given_sent f in_front) (passages_sent f l t))

  pub spared_marked : {early : List ℕ} → marked_of f ≡ true → Shown (marked_of f) early (given ++ passage_words message_bytes before) → (i : ℕ) → suc i ≡ length early + size_of f
      → HandsOutAt f (early ++ (message_bytes (report r) ++ late)) i (carried f r.report)
  spared_marked {early} m d i at =
      let all = passing_append (plain f) early (message_bytes (report r) ++ late) (early_sent before (sound_left message_bytes (HeldBy f) before (finished (report r) ∷ after) s) d) late_sent in
      handed_at f r held (early ++ (message_bytes (report r) ++ late)) i all
      (replaced.marked (frame_of f) message_bytes [] (report r) (held_framed f (report r) held) late [] [] (message_bytes (report r) ++ late) early refl i
      (omega (arith, size_is f r held)) (is_marked f m) (omega arith))

  pub spared_unmarked : {early : List ℕ} (ahead quietly : List (Passage Message)) → before ≡ ahead ++ (silent ∷ quietly) → Unbroken quietly
      → Shown (marked_of f) early (given ++ passage_words message_bytes ahead)
      → (i : ℕ) → suc i ≡ length early + suc (length (passage_words message_bytes quietly)) + size_of f
      → HandsOutAt f (early ++ (silence ∷ passage_words message_bytes quietly ++ (message_bytes (report r) ++ late))) i (carried f r.report)
  unfolding passing
  spared_unmarked {early} ahead quietly is u d i at =
      let sound : SoundIn f (ahead ++ (silent ∷ quietly)) = rw is at (sound_left message_bytes (HeldBy f) before (finished (report r) ∷ after) s) in
      let quiet = (sound_right message_bytes (HeldBy f) ahead (silent ∷ quietly) sound).1 in
      let mid = passage_words message_bytes quietly ++ (message_bytes (report r) ++ late) in
      let all = passing_append (plain f) early (silence ∷ mid) (early_sent ahead (sound_left message_bytes (HeldBy f) ahead (silent ∷ quietly) sound) d)
      (both (plain f silence) (as_sent f mid) (silence_plain f) (passing_append (plain f) (passage_words message_bytes quietly) (message_bytes (report r) ++ late) (passages_sent f quietly quiet) late_sent)) in
      handed_at f r held (early ++ (silence ∷ mid)) i all
      (replaced.unmarked (frame_of f) message_bytes (silent ∷ quietly) (report r) (held_framed f (report r) held) late [] [] (silence ∷ mid) early refl i
      (omega (arith, size_is f r held)) (laws f) [] quietly refl (framed_line f quietly quiet) u (omega arith))
