-- Whatever words a line of the VSXXX lost, and whatever breaks and silences came in: the movements handed out show the
-- buttons of movements that were begun, in order.
use Prim.Native.Nat.{ℕ}
use mathlib.Core.Path.{◌≡◌, refl, ◌∙◌, ap}
use mathlib.Core.Bool.{Bool, true, false, cond}
use mathlib.Core.List.{List, [], ◌∷◌, ◌++◌, head-eq_of_cons-eq}
use Rattle.frames.specs.Passages.{Passage, UnderWay, begun_by, going_by, Sub, passage_words, part_words}
use Rattle.frames.specs.Frame.{fresh, read}
use Rattle.frames.specs.Damage.{Scarred}
use Rattle.frames.proofs.Scars.{scarred_passes, told_by, scarred_tells}
use Rattle.wire.specs.Reading.{report_of, read_s}
use Rattle.wire.specs.Messages.{report, reply}
use Rattle.wire.specs.Buttons.{buttons_of}
use Rattle.wire.specs.declared.Format.TheVariants.{Mm}
use Rattle.vsxxx.specs.SelfTests.{is_test}
use Rattle.vsxxx.specs.Reports.{PuckReport, movement, self_test, puck_frame, PuckMessage, of_box_lem, of_test, puck_bytes, HeldByPuck}
use Rattle.vsxxx.specs.Buttons.{movements_in, movement_buttons}
use Rattle.vsxxx.proofs.Framed.{puck_marked, held_framed, held_shown}
use Rattle.puckreader.specs.HandedOut.{HandsOut, SoundLine, SoundGoing}
use Rattle.puckreader.proofs.Handed.{hands_out, legal_passing, legally}
use Rattle.puckreader.proofs.Shown.{line_legal}

-- the buttons that a first byte tells, and those of a movement; a self-test tells none
abbrev tell : ℕ → List ℕ
tell b = cond (is_test b) [] ((report_of Mm (b ∷ [])).buttons ∷ [])

abbrev told : PuckReport → List ℕ
told (movement r) = r.buttons ∷ []
told (self_test t) = []

first_tells : (b : ℕ) (k : List ℕ) → told (puck_frame.decode (b ∷ k)) ≡ tell b
unfolding read_s
first_tells b k = go (is_test b) refl
  where
    go : (t : Bool) → is_test b ≡ t → told (puck_frame.decode (b ∷ k)) ≡ tell b
    go true e = rw e
    go false e = rw e

told_is : (reports : List PuckReport) → told_by told reports ≡ buttons_of (movements_in reports)
told_is [] = refl
told_is (movement r ∷ reports) = ap (λ (l : List ℕ). r.buttons ∷ l) (told_is reports)
told_is (self_test t ∷ reports) = told_is reports

held_tells : (m : PuckMessage) → HeldByPuck m → told (puck_frame.decode (puck_bytes m)) ≡ movement_buttons m
held_tells (of_box_lem (report l)) h = ap told (head-eq_of_cons-eq (held_shown (of_box_lem (report l)) h))
held_tells (of_box_lem (reply bytes)) h = absurd h
held_tells (of_test t) h = ap told (head-eq_of_cons-eq (held_shown (of_test t) h))

module _ (l : List (Passage PuckMessage)) (g : UnderWay PuckMessage) (s : SoundLine l) (e : SoundGoing g) {rest : List ℕ} (d : Scarred rest (passage_words puck_bytes l ++ part_words puck_bytes g)) where
  pub scarred_out : HandsOut rest (read puck_frame (fresh puck_frame) rest)
  scarred_out = hands_out rest (legal_passing rest ∙ scarred_passes legally refl refl d (line_legal l g s e)) (read puck_frame (fresh puck_frame) rest) refl

  pub scarred_some : Sub (buttons_of (movements_in (read puck_frame (fresh puck_frame) rest))) (begun_by movement_buttons l ++ going_by movement_buttons g)
  scarred_some =
      rw (told_is (read puck_frame (fresh puck_frame) rest)) at
      (scarred_tells puck_frame tell told first_tells puck_marked puck_bytes HeldByPuck movement_buttons held_framed held_tells l g s e d (fresh puck_frame) refl)
