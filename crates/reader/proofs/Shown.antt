-- The public reader of each format over a line on which all damage shows.
use Prim.Native.Nat.{ℕ}
use mathlib.Core.Path.{◌≡◌, refl}
use mathlib.Core.Bool.{true}
use mathlib.Core.List.{List, [], ◌++◌}
use Rattle.frames.specs.Passages.{Passage, UnderWay, Sub, passage_words, part_words}
use Rattle.frames.specs.Frame.{read}
use Rattle.frames.specs.Damage.{Shown}
use Rattle.frames.proofs.Sub.{sub_then}
use Rattle.frames.proofs.Scars.{shown_passes}
use Rattle.frames.proofs.InStep.{Line, breaks, skip, line_of_lem, in_step, out, follow}
use Rattle.frames.proofs.Words.{passing_append, passing_right}
use Rattle.wire.specs.Line.{letter_of, marked_of}
use Rattle.wire.specs.Messages.{Message, message_bytes, SoundIn, SoundEnd, finished_reports}
use Rattle.wire.specs.declared.Format.{Format}
use Rattle.reader.specs.State.{ready, NewReader}
use Rattle.reader.specs.Promises.{FreshPromise}
use Rattle.reader.specs.DamagedLines.{Given, no_word, a_break, TrueBy, AtStart, is_fresh, is_ready}
use Rattle.reader.specs.declared.Reader.{Reader}
use Rattle.reader.proofs.Framed.{frame_of, laws, is_marked, state_of, ReaderOf, fresh_of_lem, fresh_state, ready_of}
use Rattle.reader.proofs.AsSent.{plain, as_sent, sent_legal, sent_enters, break_plain, silence_plain}
use Rattle.reader.proofs.Lines.{framed_line, framed_going, carried_line, line_sent}
use Rattle.reader.proofs.Handed.{hands_out_by, given_sent}

-- what is left enters as it is
pub shown_plain : (f : Format) {rest words : List ℕ} → Shown (marked_of f) rest words → as_sent f words ≡ true → as_sent f rest ≡ true
shown_plain f = shown_passes (plain f) (break_plain f) (silence_plain f)

-- The line: `passages` and then `going`, with `given` in front.
module _ (f : Format) (passages : List (Passage Message)) (going : UnderWay Message) (s : SoundIn f passages) (e : SoundEnd f going)
    {given : List ℕ} (in_front : Given given) where
  abbrev line : List ℕ
  line = given ++ (passage_words message_bytes passages ++ part_words message_bytes going)

  as_line : Line (frame_of f) [] line (finished_reports f passages)
  as_line =
      go in_front
      (rw (carried_line f passages s) at (line_of_lem (frame_of f) (laws f) message_bytes passages going (framed_line f passages s) (framed_going f going e)))
    where
      go : {given : List ℕ} → Given given
          → Line (frame_of f) [] (passage_words message_bytes passages ++ part_words message_bytes going) (finished_reports f passages)
          → Line (frame_of f) [] (given ++ (passage_words message_bytes passages ++ part_words message_bytes going)) (finished_reports f passages)
      go no_word l = l
      go a_break l = breaks l

  all_sent : as_sent f line ≡ true
  all_sent = passing_append (plain f) given _ (given_sent f in_front) (line_sent f passages going s e)

  handed : (r : Reader) → ReaderOf f r → {left words : List ℕ} → Shown (marked_of f) left words → as_sent f words ≡ true
      → Sub (read (frame_of f) (state_of r) left) (finished_reports f passages)
      → TrueBy r left (finished_reports f passages)
  handed r o {left} d p among =
      let all = shown_plain f d p in
      record {
        found = read (frame_of f) (state_of r) left;
        hands_out = hands_out_by f left left (sent_legal f left all) (sent_enters f left all) r o (read (frame_of f) (state_of r) left) refl;
        among = among;
      }

  -- a fresh reader, which may come late: some words have gone before it
  pub late_true : {left : List ℕ} (missed words : List ℕ) → line ≡ missed ++ words → Shown (marked_of f) left words
      → (a : NewReader) → FreshPromise (letter_of f) a
      → TrueBy a.reader left (finished_reports f passages)
  late_true {left} missed words is d a p =
      let x = skip (frame_of f) missed words (rw is at as_line) in
      let sent : as_sent f (missed ++ words) ≡ true = rw is at all_sent in
      let found : Sub (read (frame_of f) (state_of a.reader) left) x.left = rw (fresh_state f a p) (follow (frame_of f) (laws f) (is_marked f) d x.line out) in
      handed a.reader (fresh_of_lem f a p) d (passing_right (plain f) missed words sent) (sub_then found x.among)

  -- a fresh one, and one that is ready, from the start
  pub shown_true : {r : Reader} {left : List ℕ} → AtStart f r → Shown (marked_of f) left line → TrueBy r left (finished_reports f passages)
  shown_true (is_fresh a p) d = late_true [] line refl d a p
  shown_true is_ready d = handed (ready (letter_of f)) (ready_of f) d all_sent (follow (frame_of f) (laws f) (is_marked f) d as_line in_step)
