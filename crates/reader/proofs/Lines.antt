-- A line of messages of one format is a line of its frame, and its words enter as they are sent.
use Prim.Native.Nat.{ℕ, suc, ◌+◌, ◌≤◌, ◌<◌}
use mathlib.Core.Path.{◌≡◌}
use mathlib.Core.Bool.{true}
use mathlib.Core.List.{List, [], ◌∷◌, ◌++◌}
use native.Mathlib.Nat.{add-zero, zero-add, add-suc, suc-add}
use native.Mathlib.Numerals.{add-one}
use native.Mathlib.Omega.{arith}
use lib.ListN.{length, get_or, length-append}
use Rattle.frames.specs.Passages.{Passage, UnderWay, finished_by, passage_words, part_words, Lost, Sound, SoundPart}
use Rattle.frames.specs.Frame.{Fits, Full, Whole, Framed, decoded}
use Rattle.frames.proofs.Passages.{sound_by, part_by, same_finished}
use Rattle.frames.proofs.Words.{line_passes, lost_passes}
use Rattle.wire.specs.Line.{size_of}
use Rattle.wire.specs.Table.{bytes_of}
use Rattle.wire.specs.Places.{fits_at}
use Rattle.wire.specs.Holds.{accepted}
use Rattle.wire.specs.Messages.{Message, report, reply, message_bytes, HeldBy, carried_in, SoundIn, SoundEnd, finished_reports}
use Rattle.wire.specs.declared.Report.{Report}
use Rattle.wire.specs.declared.Format.{Format}
use Rattle.wire.proofs.Front.{size_between}
use Rattle.wire.proofs.Codec.{bytes_length, bytes_fit, there}
use Rattle.reader.proofs.Framed.{frame_of}
use Rattle.reader.proofs.AsSent.{plain, as_sent, break_plain, silence_plain, fit_plain}

module _ (f : Format) where
  -- bytes of which each fits its place
  fits_from : (k bytes : List ℕ) → ((i : ℕ) → i < length bytes → fits_at f (length k + i) (get_or bytes i 0) ≡ true) → Fits (frame_of f) k bytes
  fits_from k [] h = tt
  fits_from k (b ∷ bytes) h = (
    rw add-zero at (h 0 (omega arith)),
    fits_from (k ++ (b ∷ [])) bytes
        (λ i l. rw (length-append k (b ∷ []), add-one (length k), suc-add (length k) i, ← add-suc (length k) i) (h (suc i) (omega arith))),
  )

  full : (bytes : List ℕ) → length bytes ≡ size_of f → 2 ≤ size_of f → Full (frame_of f) bytes
  full [] e h = absurd (omega arith)
  full (b ∷ bytes) e h = e

  -- the bytes of a report that f holds are a whole report, and what is handed out of them is what f carries
  whole_report : (r : Report) → accepted f r ≡ true → Whole (frame_of f) (bytes_of f r)
  whole_report r a =
      let size = bytes_length f r in
      (fits_from [] (bytes_of f r) (λ i l. rw zero-add (bytes_fit f r a i (omega arith))), full (bytes_of f r) size (omega (arith, (size_between f).0)))

  pub held_framed : (m : Message) → HeldBy f m → Framed (frame_of f) message_bytes m
  held_framed (report l) h = rw h.0 (whole_report l.report h.1)
  held_framed (reply bytes) h = absurd h

  held_carried : (m : Message) → HeldBy f m → decoded (frame_of f) message_bytes m ≡ carried_in f m
  held_carried (report l) h = rw (h.0, there f l.report h.1)
  held_carried (reply bytes) h = absurd h

  -- so that a sound line is one of the frame, with the same finished reports
  pub framed_line : (l : List (Passage Message)) → SoundIn f l → Sound message_bytes (Framed (frame_of f) message_bytes) l
  framed_line = sound_by message_bytes (HeldBy f) (Framed (frame_of f) message_bytes) held_framed

  pub framed_going : (g : UnderWay Message) → SoundEnd f g → SoundPart message_bytes (Framed (frame_of f) message_bytes) g
  framed_going = part_by message_bytes (HeldBy f) (Framed (frame_of f) message_bytes) held_framed

  pub carried_line : (l : List (Passage Message)) → SoundIn f l → finished_by (decoded (frame_of f) message_bytes) l ≡ finished_reports f l
  carried_line = same_finished message_bytes (HeldBy f) (decoded (frame_of f) message_bytes) (carried_in f) held_carried

  -- and its words, or what is left of them, enter as they are
  pub line_sent : (l : List (Passage Message)) (g : UnderWay Message) → SoundIn f l → SoundEnd f g → as_sent f (passage_words message_bytes l ++ part_words message_bytes g) ≡ true
  line_sent l g s e =
      line_passes (plain f) (frame_of f) message_bytes (break_plain f) (silence_plain f) (λ k b h. fit_plain f (length k) b h) l g (framed_line l s) (framed_going g e)

  pub lost_sent : {l others : List (Passage Message)} {g : UnderWay Message} {words : List ℕ} → SoundIn f l → SoundEnd f g → Lost message_bytes l g words others → as_sent f words ≡ true
  lost_sent {l} {others} {g} s e d =
      lost_passes (plain f) (frame_of f) message_bytes (break_plain f) (silence_plain f) (λ k b h. fit_plain f (length k) b h) (framed_line l s) (framed_going g e) d
