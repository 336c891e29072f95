-- Demand 3, as far as the reader goes: what a fresh reader hands out of a line of one format on which one stretch of words was replaced.
use Prim.Native.Nat.{ℕ, suc, ◌+◌, ◌-◌, ◌≤◌}
use mathlib.Core.Path.{◌≡◌, ◌∙◌}
use mathlib.Core.Bool.{true}
use mathlib.Core.List.{List, ◌∷◌, ◌++◌, append_assoc}
use native.Mathlib.Omega.{arith}
use lib.ListN.{length, length-append, length-map}
use Rattle.frames.specs.Passages.{Passage, silent, finished, UnderWay, Unbroken, passage_words, part_words, Lost}
use Rattle.frames.proofs.Passages.{passages_append, sound_left, sound_right, others_sound}
use Rattle.frames.proofs.Words.{passing_append}
use Rattle.frames.proofs.Replaced as replaced
use Rattle.wire.specs.Line.{letter_of, marked_of}
use Rattle.wire.specs.Table.{bytes_of}
use Rattle.wire.specs.Holds.{carried}
use Rattle.wire.specs.Reading.{report_of}
use Rattle.wire.specs.Messages.{Latched, Message, report, message_bytes, HeldBy, SoundIn, SoundEnd, finished_reports}
use Rattle.wire.specs.declared.Format.{Format}
use Rattle.wire.proofs.Front.{size_between}
use Rattle.wire.proofs.Codec.{bytes_length, there}
use Rattle.reader.specs.DamagedLines.{Given, HandsOut, HandsOutAt, Replaced, Within, EndsAt}
use Rattle.reader.proofs.Entered.{entered_all}
use Rattle.reader.proofs.Framed.{frame_of, laws, is_marked}
use Rattle.reader.proofs.AsSent.{plain, as_sent, sent_legal, sent_enters, replaced_legal, replaced_enters}
use Rattle.reader.proofs.Lines.{held_framed, framed_line, framed_going, carried_line, line_sent, lost_sent}
use Rattle.reader.proofs.Handed.{hands_out, hands_out_at, behind_given, read_given, given_sent}

-- The passages of the line are `before`, the finished report r, and `after`; i is the place of the word that ends r.
module _ (f : Format) (passages : List (Passage Message)) (going : UnderWay Message) (given pre old new post : List ℕ)
    (l : Replaced f passages going given pre old new post)
    (before : List (Passage Message)) (r : Latched) (after : List (Passage Message)) (is : passages ≡ before ++ (finished (report r) ∷ after))
    (i : ℕ) (place : EndsAt f before given old new i) where
  abbrev rest : List ℕ
  rest = passage_words message_bytes after ++ part_words message_bytes going

  as_sent_lem : passage_words message_bytes before ++ (message_bytes (report r) ++ rest) ≡ pre ++ (old ++ post)
  as_sent_lem = simp (is, passages_append, append_assoc) at l.as_sent_lem

  all_sound : SoundIn f (before ++ (finished (report r) ∷ after))
  all_sound = rw is at l.sound

  held : HeldBy f (report r)
  held = (sound_right message_bytes (HeldBy f) before (finished (report r) ∷ after) all_sound).0

  size_is : length (message_bytes (report r)) ≡ length (bytes_of f r.report)
  size_is = rw held.0

  all_sent : as_sent f (pre ++ (old ++ post)) ≡ true
  all_sent = rw l.as_sent_lem at (line_sent f passages going l.sound l.sound_going)

  -- the new words, as they enter
  abbrev entering : List ℕ
  entering = entered_all (letter_of f) new

  carried_is : report_of f (message_bytes (report r)) ≡ carried f r.report
  carried_is = rw (held.0, there f r.report held.1)

  handed : Within before pre old
      → ((j : ℕ) → suc j + length old ≡ length (passage_words message_bytes before) + length (message_bytes (report r)) + length entering
      → replaced.Handed (frame_of f) (pre ++ (entering ++ post)) j (report_of f (message_bytes (report r))))
      → HandsOutAt f (given ++ (pre ++ (new ++ post))) i (carried f r.report)
  handed h k =
      let size = (size_between f).0 in
      let j = i - length given in
      let split : length given + j ≡ i = omega arith in
      hands_out_at f (given ++ (pre ++ (new ++ post))) (given ++ (pre ++ (entering ++ post)))
      (replaced_legal f given pre old post new (given_sent f l.in_front) all_sent l.legal) (replaced_enters f given pre old post new (given_sent f l.in_front) all_sent)
      i (carried f r.report)
      (rw (split, carried_is) at
      (behind_given f l.in_front (pre ++ (entering ++ post)) j (report_of f (message_bytes (report r))) (k j (rw (size_is, bytes_length f r.report, length-map) (omega arith)))))

  -- "In the four formats with a marked first byte, each finished report that begins after the stretch is handed out as the box sent it."
  pub marked : marked_of f ≡ true → Within before pre old → HandsOutAt f (given ++ (pre ++ (new ++ post))) i (carried f r.report)
  marked m h =
      handed h (λ j at. replaced.marked (frame_of f) message_bytes before (report r) (held_framed f (report r) held) rest pre old post entering as_sent_lem j at (is_marked f m) h)

  -- "In the other three this holds for each finished report that begins after a silence following the stretch, with no broken-off report between."
  pub unmarked : (front quiet : List (Passage Message)) → before ≡ front ++ (silent ∷ quiet) → Unbroken quiet → Within front pre old
      → HandsOutAt f (given ++ (pre ++ (new ++ post))) i (carried f r.report)
  unmarked front quiet e u h =
      let before_sound : SoundIn f (front ++ (silent ∷ quiet)) = rw e at (sound_left message_bytes (HeldBy f) before (finished (report r) ∷ after) all_sound) in
      let quiet_sound = (sound_right message_bytes (HeldBy f) front (silent ∷ quiet) before_sound).1 in
      let longer : length (passage_words message_bytes front) ≤ length (passage_words message_bytes before) = rw (e, passages_append message_bytes, length-append) (omega arith) in
      handed (omega arith)
      (λ j at.
      replaced.unmarked (frame_of f) message_bytes before (report r) (held_framed f (report r) held) rest pre old post entering as_sent_lem j at (laws f)
      front quiet e (framed_line f quiet quiet_sound) u h)

-- "If the stretch only removed bytes of a single report of a marked format, exactly the finished reports other than that one are handed out, in
-- the order sent."
pub exactly : (f : Format) {passages others : List (Passage Message)} {going : UnderWay Message} {given words : List ℕ}
    → marked_of f ≡ true
    → SoundIn f passages
    → SoundEnd f going
    → Given given
    → Lost message_bytes passages going words others
    → HandsOut f (given ++ words) (finished_reports f others)
exactly f {passages} {others} {going} {given} {words} m s g v d =
    let all = passing_append (plain f) given words (given_sent f v) (lost_sent f s g d) in
    hands_out f (given ++ words) (given ++ words) (sent_legal f (given ++ words) all) (sent_enters f (given ++ words) all) (finished_reports f others)
    (read_given f v words ∙ (replaced.exactly (frame_of f) (is_marked f m) message_bytes (framed_line f passages s) (framed_going f going g) d ∙ carried_line f others (others_sound message_bytes (HeldBy f) s d)))
