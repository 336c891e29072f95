-- From the press to the save, worked out: a tap inside one report is seen; and for each condition a run that lacks only
-- this one.
use Rattle.std.specs.Prelude.{ℕ, ◌≡◌, refl, false, List, [], ◌∷◌, ◌++◌, pos}
use Rattle.std.proofs.Common.{arith}
use Rattle.numbers.specs.Signed.{minus}
use Rattle.frames.specs.Passages.{nothing}
use Rattle.wire.specs.Line.{letter_of}
use Rattle.wire.specs.Reading.{report}
use Rattle.wire.specs.Messages.{finished_reports}
use Rattle.wire.specs.Buttons.{middle, is_down, presses, buttons_of, presses_from, presses_among}
use Rattle.wire.specs.declared.Format.{Format}
use Rattle.wire.specs.declared.Format.TheVariants.{Mm, Microsoft, ThreeByte}
use Rattle.reader.specs.State.{fresh, ready}
use Rattle.reader.specs.Follows.{ready_marked, ShowsStates}
use Rattle.reader.specs.declared.Answer.TheVariants.{Nothing, Dropped}
use Rattle.reader.specs.declared.Answer.TheVariants as answer
use Rattle.reader.proofs.DamagedRuns.{AnsweredBy, computed_by}
use Rattle.ballbox.specs.Box.{mode_o, mode_d}
use Rattle.ballbox.specs.Commands.{letter_p}
use Rattle.ballbox.specs.declared.BallBox.{BallBox}
use Rattle.ballbox.specs.declared.Event.{Event}
use Rattle.ballbox.specs.declared.Event.TheVariants.{Motion, Buttons, Host, Latch}
use Rattle.history.specs.Runs.{words_given, answers_to}
use Rattle.history.specs.History.{next_box, passages_of}
use Rattle.history.specs.Presses.{buttons_told, made, box_after, shown_by, among_seven}
use Rattle.history.proofs.Permitted.{answers_permitted}
use Rattle.history.proofs.Presses.{at_rest_lem}
use Rattle.demands.specs.Computing.{computing}
use Rattle.demands.specs.Worked.{slots}
use Rattle.demands.specs.Taps.{box_in, with_x}
use Rattle.demands.specs.Saves.{Box, Press, a_press_survives}

-- S: a long move; M is pressed behind the first byte of its first report, and released behind the second
abbrev tap_front : List Event
tap_front = Motion (pos 5) (pos 0) ∷ slots 1 []

abbrev tap_back : List Event
tap_back = slots 1 (Buttons 0 ∷ slots 1 (Motion (pos 7) (pos 0) ∷ slots 6 []))

tap : Press Mm (box_after (box_in Mm) tap_front) 2 tap_back
unfolding computing
tap =
    record {
      stream = refl;
      known = omega arith;
      changes = λ e. omega (arith, e);
      room = omega arith;
      kept = among_seven (omega arith);
      quiet = refl;
      slots = omega arith;
    }

abbrev tap_words : List ℕ
tap_words = 0x98 ∷ 0x05 ∷ 0x00 ∷ 0x9A ∷ 0x07 ∷ 0x00 ∷ 0x98 ∷ 0x00 ∷ 0x00 ∷ []

at_rest : Box Mm (box_in Mm) nothing
unfolding computing
at_rest = record { carrying = at_rest_lem (box_in Mm) refl refl; awake = refl; format = refl; sound = tt }

pub tap_survives : ShowsStates Mm (ready (letter_of Mm)) tap_words [] (2 ∷ [])
unfolding computing
tap_survives =
    a_press_survives at_rest tap_front refl 2 tap_back tap (answers_to (box_in Mm) (tap_front ++ (Buttons 2 ∷ tap_back)))
    (answers_permitted (box_in Mm) (tap_front ++ (Buttons 2 ∷ tap_back))) (ready_marked refl)

-- The slots are needed: pressed with a report latched of which no byte has gone, it has not been shown after five, and
-- has after six
pub slots_needed : (shown_by (passages_of (box_in Mm) nothing (Motion (pos 5) (pos 0) ∷ Latch ∷ Buttons 2 ∷ slots 5 [])) ≡ [])
    × (shown_by (passages_of (box_in Mm) nothing (Motion (pos 5) (pos 0) ∷ Latch ∷ Buttons 2 ∷ slots 6 [])) ≡ 2 ∷ [])
unfolding computing
slots_needed = (refl, refl)

-- That it is kept is needed: with seven remembered there is room for 6, which is the eighth; 5, a ninth, takes its
-- place, and 6 is never shown
pub kept_needed : shown_by (passages_of (box_in Mm) nothing
    (Motion (pos 5) (pos 0) ∷ slots 1 (Buttons 1 ∷ Buttons 2 ∷ Buttons 3 ∷ Buttons 4 ∷ Buttons 1 ∷ Buttons 3 ∷ Buttons 7 ∷ Buttons 6 ∷ Buttons 5 ∷
    slots 27 [])))
    ≡ 1 ∷ 2 ∷ 3 ∷ 4 ∷ 1 ∷ 3 ∷ 7 ∷ 5 ∷ []
unfolding computing
kept_needed = refl

-- So are a stream mode (prompt mode remembers nothing), a change, buttons up to 7, and no byte of the host's: O breaks off
-- each report that would show the press
abbrev again : List Event → List Event
again events = slots 1 (Host mode_o ∷ events)

pub press_needed : (shown_by (passages_of (box_in Mm) nothing (Host mode_d ∷ Buttons 2 ∷ slots 6 [])) ≡ [])
    × (shown_by (passages_of (box_in Mm) nothing (Buttons 0 ∷ slots 6 [])) ≡ [])
    × (shown_by (passages_of (box_in Mm) nothing (Buttons 8 ∷ slots 6 [])) ≡ [])
    × (shown_by (passages_of (box_in Mm) nothing (Buttons 2 ∷ again (again (again (again (again (again []))))))) ≡ [])
unfolding computing
press_needed = (refl, refl, refl, refl)

-- and a reader that follows: a fresh one of T, before a silence, drops what shows the press
pub follow_needed : (words_given (answers_to (box_in ThreeByte) (Buttons 2 ∷ slots 3 [])) ≡ 0x02 ∷ 0x00 ∷ 0x00 ∷ [])
    × AnsweredBy (fresh (letter_of ThreeByte)) (0x02 ∷ 0x00 ∷ 0x00 ∷ []) (Dropped 1 ∷ Dropped 1 ∷ Dropped 1 ∷ [])
unfolding computing
follow_needed = (refl, computed_by (fresh (letter_of ThreeByte)) _ _ refl)

-- For as many saves as presses too: of one press none is seen where the box is in prompt mode, where P empties the
-- memory, where the state is still to be shown, and in V, which does not carry M
abbrev seen_of : Format → BallBox → List Event → ℕ
seen_of f b events = presses_from (is_down middle) b.settings.buttons (finished_reports f (passages_of b nothing events))

abbrev Unseen : Format → List Event → Type 0
Unseen f events = (◌≡◌ {A = ℕ} (made (is_down middle) (box_in f) events) 1) × (◌≡◌ {A = ℕ} (seen_of f (box_in f) events) 0)

pub count_needs : Unseen Mm (Host mode_d ∷ Buttons 2 ∷ Buttons 0 ∷ Host mode_o ∷ slots 6 [])
    × Unseen Mm (Buttons 2 ∷ Buttons 0 ∷ Host letter_p ∷ slots 3 [])
    × Unseen Mm (Buttons 2 ∷ slots 2 [])
    × Unseen Microsoft (Buttons 2 ∷ Buttons 0 ∷ slots 6 [])
unfolding computing presses buttons_told
count_needs = ((refl, refl), (refl, refl), (refl, refl), (refl, refl))

-- The mark is needed: T sends 00 02 E8 and 00 01 00, with no button down at any time; the first byte is lost, and a
-- ready reader hands out a report with M down. A watch would save.
abbrev no_press : List Event
no_press = Motion (pos 2) (minus 24) ∷ slots 3 (Motion (pos 1) (pos 0) ∷ slots 3 [])

pub mark_needed : (words_given (answers_to (box_in ThreeByte) no_press) ≡ 0x00 ∷ 0x02 ∷ 0xE8 ∷ 0x00 ∷ 0x01 ∷ 0x00 ∷ [])
    × AnsweredBy (ready (letter_of ThreeByte)) (0x02 ∷ 0xE8 ∷ 0x00 ∷ 0x01 ∷ 0x00 ∷ []) (Nothing ∷ Nothing ∷ answer.Report (report 2 (minus 24) (pos 0)) ∷
    Nothing ∷ Nothing ∷ [])
    × (◌≡◌ {A = ℕ} (presses_from (is_down middle) 0 (report 2 (minus 24) (pos 0) ∷ [])) 1)
    × (◌≡◌ {A = ℕ} (presses (is_down middle) false (buttons_told no_press)) 0)
unfolding computing presses buttons_told
mark_needed = (refl, computed_by (ready (letter_of ThreeByte)) _ _ refl, refl, refl)

-- The recorder is switched on while M is held: a watch that knows nothing tells nothing, and one that takes M for up
-- would save
pub held_when_switched_on : (◌≡◌ {A = ℕ} (presses_among (is_down middle) (with_x 2 5 ∷ with_x 2 7 ∷ with_x 0 1 ∷ [])) 0)
    × (◌≡◌ {A = ℕ} (presses_from (is_down middle) 0 (with_x 2 5 ∷ with_x 2 7 ∷ with_x 0 1 ∷ [])) 1)
unfolding computing presses
held_when_switched_on = (refl, refl)

-- The buttons must be those behind the letter. M is held, and was shown; a letter empties the memory; L goes down and M
-- up; now 05H would tell 4. The reports show 6 and then 4, and a watch that was told 4 would save, where nobody
-- pressed. In prompt mode nothing is remembered meanwhile, and none can be one too many (none-older).
abbrev held : BallBox
held = next_box (box_after (box_in Mm) (Buttons 2 ∷ slots 3 [])) (Host (letter_of Mm))

abbrev moved : List Event
moved = Buttons 6 ∷ Buttons 4 ∷ slots 6 []

pub letter_then_move : (buttons_of (finished_reports Mm (passages_of held nothing moved)) ≡ 6 ∷ 4 ∷ [])
    × (◌≡◌ {A = ℕ} (presses_from (is_down middle) 4 (finished_reports Mm (passages_of held nothing moved))) 1)
    × (◌≡◌ {A = ℕ} (made (is_down middle) held moved) 0)
    × (◌≡◌ {A = ℕ} (presses_from (is_down middle) held.settings.buttons (finished_reports Mm (passages_of held nothing moved))) 0)
unfolding computing presses buttons_told
letter_then_move = (refl, refl, refl, refl)
