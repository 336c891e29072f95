-- In a marked format the buttons stand in the first byte: whatever words a line lost, and whatever breaks came in, the
-- reports handed out show the buttons of reports that were begun, in order.
use Prim.Native.Nat.{ℕ}
use mathlib.Core.Path.{◌≡◌, refl, ◌∙◌, ap}
use mathlib.Core.Bool.{true}
use mathlib.Core.List.{List, [], ◌∷◌, ◌++◌, map, append_assoc}
use Rattle.frames.specs.Passages.{Passage, silent, finished, broken, UnderWay, nothing, first, begun_by, going_by, Sub, passage_words, part_words}
use Rattle.frames.specs.Frame.{read}
use Rattle.frames.specs.Damage.{Scarred}
use Rattle.frames.proofs.Scars as scars
use Rattle.wire.specs.Line.{marked_of}
use Rattle.wire.specs.Reading.{report_of, read_s, read_v, read_a, read_b, read_u, read_t, read_w}
use Rattle.wire.specs.Holds.{carried}
use Rattle.wire.specs.Messages.{Message, report, reply, message_bytes, HeldBy, SoundIn, SoundEnd}
use Rattle.wire.specs.Buttons.{buttons_of, latched_buttons, buttons_in, buttons_going, buttons_begun}
use Rattle.wire.specs.declared.Report.{Report}
use Rattle.wire.specs.declared.Format.{Format}
use Rattle.wire.specs.declared.Format.TheVariants.{Mm, Microsoft, Absolute, Relative, FiveByte, ThreeByte, Hexadecimal}
use Rattle.wire.proofs.Buttons.{carried_in}
use Rattle.wire.proofs.Codec.{there}
use Rattle.reader.specs.DamagedLines.{HandsOutBy, AtStart, is_fresh, is_ready}
use Rattle.reader.specs.declared.Reader.{Reader}
use Rattle.reader.proofs.Framed.{frame_of, is_marked, state_of, ReaderOf, fresh_of_lem, fresh_state, ready_of}
use Rattle.reader.proofs.AsSent.{plain, sent_legal, sent_enters, break_plain, silence_plain}
use Rattle.reader.proofs.Lines.{held_framed, line_sent}
use Rattle.reader.proofs.Handed.{hands_out_by}

module _ (f : Format) where
  -- the buttons that a first byte tells, and those of a report
  abbrev tell : ℕ → List ℕ
  tell b = (report_of f (b ∷ [])).buttons ∷ []

  abbrev told : Report → List ℕ
  told r = r.buttons ∷ []

  first_tells : (b : ℕ) (k : List ℕ) → told (report_of f (b ∷ k)) ≡ tell b
  unfolding read_s read_v read_a read_b read_u read_t read_w
  first_tells = go f
    where
      go : (f : Format) (b : ℕ) (k : List ℕ) → ◌≡◌ {A = List ℕ} ((report_of f (b ∷ k)).buttons ∷ []) ((report_of f (b ∷ [])).buttons ∷ [])
      go Mm b k = refl
      go Microsoft b k = refl
      go Absolute b k = refl
      go Relative b k = refl
      go FiveByte b k = refl
      go ThreeByte b k = refl
      go Hexadecimal b k = refl

  told_is : (reports : List Report) → scars.told_by told reports ≡ buttons_of reports
  told_is [] = refl
  told_is (r ∷ reports) = ap (λ (l : List ℕ). r.buttons ∷ l) (told_is reports)

  -- what a message tells, as the format carries it
  abbrev tells : Message → List ℕ
  tells m = map (buttons_in f) (latched_buttons m)

  held_tells : (m : Message) → HeldBy f m → told (report_of f (message_bytes m)) ≡ tells m
  held_tells (report l) h =
      let is : report_of f (message_bytes (report l)) ≡ carried f l.report = rw h.0 (there f l.report h.1) in
      ap (λ (n : ℕ). n ∷ []) (ap (λ (r : Report). r.buttons) is ∙ carried_in f l.report)
  held_tells (reply bytes) h = absurd h

  map_append : (a b : List ℕ) → map (buttons_in f) (a ++ b) ≡ map (buttons_in f) a ++ map (buttons_in f) b
  map_append [] b = refl
  map_append (x ∷ a) b = rw (map_append a b)

  going_tells : (g : UnderWay Message) → going_by tells g ≡ map (buttons_in f) (buttons_going g)
  going_tells nothing = refl
  going_tells (first n m) = refl

  line_tells : (l : List (Passage Message)) (g : UnderWay Message) → begun_by tells l ++ going_by tells g ≡ map (buttons_in f) (buttons_begun l ++ buttons_going g)
  line_tells [] g = going_tells g
  line_tells (silent ∷ l) g = line_tells l g
  line_tells (finished m ∷ l) g = rw (append_assoc (tells m), line_tells l g, append_assoc (latched_buttons m), map_append (latched_buttons m))
  line_tells (broken n m ∷ l) g = rw (append_assoc (tells m), line_tells l g, append_assoc (latched_buttons m), map_append (latched_buttons m))

  -- a reader where a line begins is of f, and has no first byte
  reader_of : {r : Reader} → AtStart f r → ReaderOf f r
  reader_of (is_fresh a p) = fresh_of_lem f a p
  reader_of is_ready = ready_of f

  none_kept : marked_of f ≡ true → {r : Reader} → AtStart f r → scars.kept_first (frame_of f) tell told first_tells (state_of r) ≡ []
  none_kept m (is_fresh a p) = rw (fresh_state f a p, m)
  none_kept m is_ready = refl

  -- what such a reader hands out of a scarred line
  module _ (m : marked_of f ≡ true) (l : List (Passage Message)) (g : UnderWay Message) (s : SoundIn f l) (e : SoundEnd f g) {rest : List ℕ}
      (d : Scarred rest (passage_words message_bytes l ++ part_words message_bytes g)) {r : Reader} (start : AtStart f r) where
    pub scarred_out : HandsOutBy r rest (read (frame_of f) (state_of r) rest)
    scarred_out =
        let all = scars.scarred_passes (plain f) (break_plain f) (silence_plain f) d (line_sent f l g s e) in
        hands_out_by f rest rest (sent_legal f rest all) (sent_enters f rest all) r (reader_of start) (read (frame_of f) (state_of r) rest) refl

    pub scarred_some : Sub (buttons_of (read (frame_of f) (state_of r) rest)) (map (buttons_in f) (buttons_begun l ++ buttons_going g))
    scarred_some =
        rw (told_is (read (frame_of f) (state_of r) rest), line_tells l g) at
        (scars.scarred_tells (frame_of f) tell told first_tells (is_marked f m) message_bytes (HeldBy f) tells (held_framed f) held_tells l g s e d (state_of r) (none_kept m start))
