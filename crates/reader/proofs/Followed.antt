-- What a reader hands out of a line of one format as it was sent: exactly its finished reports, each as the format carries it, in the order sent.
use mathlib.Core.Path.{◌≡◌, ◌∙◌}
use mathlib.Core.Bool.{true, false}
use mathlib.Core.List.{List, ◌∷◌, ◌++◌}
use Prim.Native.Nat.{ℕ}
use Rattle.frames.specs.Passages.{Passage, silent, UnderWay, Unbroken, Unpaused, passage_words, part_words}
use Rattle.frames.specs.Frame as frame
use Rattle.frames.proofs.Passages.{sound_right}
use Rattle.frames.proofs.Reading.{calm_read}
use Rattle.frames.proofs.Marks.{resync}
use Rattle.frames.proofs.Waiting.{from_silence}
use Rattle.wire.specs.Line.{letter_of, marked_of}
use Rattle.wire.specs.Messages.{Message, message_bytes, HeldBy, SoundIn, SoundEnd, finished_reports}
use Rattle.wire.specs.declared.Report.{Report}
use Rattle.wire.specs.declared.Format.{Format}
use Rattle.reader.specs.State.{ready}
use Rattle.reader.specs.DamagedLines.{HandsOutBy, HandsOut}
use Rattle.reader.specs.declared.Reader.{Reader}
use Rattle.reader.proofs.Framed.{frame_of, laws, is_marked, state_of, ReaderOf, fresh_of_lem, fresh_state, ready_of}
use Rattle.reader.proofs.AsSent.{sent_legal, sent_enters}
use Rattle.reader.proofs.Lines.{framed_line, framed_going, carried_line, line_sent}
use Rattle.reader.proofs.Handed.{hands_out_by}

-- The line: `passages`, and then `going`.
module _ (f : Format) (passages : List (Passage Message)) (going : UnderWay Message) (s : SoundIn f passages) (e : SoundEnd f going) where
  abbrev words : List ℕ
  words = passage_words message_bytes passages ++ part_words message_bytes going

  -- its words enter as they are: what the frame's reader reads of them is handed out
  as_read : (r : Reader) → ReaderOf f r → (found : List Report) → frame.read (frame_of f) (state_of r) words ≡ found → HandsOutBy r words found
  as_read = let all = line_sent f passages going s e in hands_out_by f words words (sent_legal f words all) (sent_enters f words all)

  -- in a marked format by any good reader of it, whatever is broken off
  followed : (r : Reader) → ReaderOf f r → marked_of f ≡ true → HandsOutBy r words (finished_reports f passages)
  followed r o m =
      as_read r o (finished_reports f passages)
      (resync (frame_of f) (is_marked f m) message_bytes (state_of r) passages going (framed_line f passages s) (framed_going f going e) ∙ carried_line f passages s)

  pub followed_marked : marked_of f ≡ true → HandsOutBy (ready (letter_of f)) words (finished_reports f passages)
  followed_marked = followed (ready (letter_of f)) (ready_of f)

  pub fresh_followed_marked : marked_of f ≡ true → HandsOut f words (finished_reports f passages)
  fresh_followed_marked m a p = followed a.reader (fresh_of_lem f a p) m

  -- in every format by a ready reader, where none is broken off
  pub followed_unbroken : Unbroken passages → HandsOutBy (ready (letter_of f)) words (finished_reports f passages)
  followed_unbroken u =
      as_read (ready (letter_of f)) (ready_of f) (finished_reports f passages)
      (calm_read (frame_of f) (laws f) message_bytes passages going (framed_line f passages s) u (framed_going f going e) ∙ carried_line f passages s)

  -- in an unmarked one by a fresh reader from the first silence on, and nothing before it, where none is broken off behind it
  pub fresh_followed : (front rest : List (Passage Message)) → passages ≡ front ++ (silent ∷ rest) → marked_of f ≡ false → Unpaused front → Unbroken rest
      → HandsOut f words (finished_reports f rest)
  fresh_followed front rest is m u b a p =
      let sound : SoundIn f (front ++ (silent ∷ rest)) = rw is at s in
      as_read a.reader (fresh_of_lem f a p) (finished_reports f rest)
      (rw (fresh_state f a p, is)
      (from_silence (frame_of f) (laws f) m message_bytes front rest going (framed_line f (front ++ (silent ∷ rest)) sound) (framed_going f going e) u b
      ∙ carried_line f rest (sound_right message_bytes (HeldBy f) front (silent ∷ rest) sound).1))
