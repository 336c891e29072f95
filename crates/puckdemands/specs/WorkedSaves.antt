-- Damage of a device's line, worked out: a stretch across a movement and a self-test is lost; with a 256 in its place
-- every report that is handed out is true, and without one a report is handed out that was never sent. And presses over
-- T: one that is seen as often as it was made, whatever words are lost, and one that is not seen; a press that
-- survives, in the middle of a report; and as many as were made.
use Rattle.std.specs.Prelude.{ℕ, ◌≡◌, refl, false, List, [], ◌∷◌, ◌++◌, pos}
use Rattle.std.proofs.Common.{arith}
use Rattle.frames.specs.Passages.{finished, nothing}
use Rattle.frames.specs.Damage.{whole, stays, scar, lost, a_break}
use Rattle.fold.specs.Fold.{answers_over}
use Rattle.wire.specs.Reading.{report}
use Rattle.wire.specs.Messages.{latched_in}
use Rattle.wire.specs.Buttons.{left, middle, is_down, presses, presses_from}
use Rattle.wire.specs.declared.Report.{Report}
use Rattle.wire.specs.declared.Format.TheVariants.{Mm}
use Rattle.ballbox.specs.Presses.{remembered}
use Rattle.ballbox.specs.Commands.{letter_p}
use Rattle.ballbox.specs.declared.Event.{Event}
use Rattle.ballbox.specs.declared.Event.TheVariants.{Motion, Buttons, Host, Latch, Send, Period}
use Rattle.history.specs.Asked.{all_hosts}
use Rattle.history.specs.Presses.{buttons_told, never_ninth, slots_from, among_seven}
use Rattle.vsxxx.specs.Reports.{PuckReport, movement, self_test, PuckMessage, of_box_lem, of_test}
use Rattle.vsxxx.specs.Buttons.{movements_in}
use Rattle.vsxxx.specs.declared.SelfTest.{SelfTest}
use Rattle.puck.specs.Device.{made}
use Rattle.puck.specs.Rules.{mode_r, letter_t}
use Rattle.puck.specs.declared.Puck.{Puck}
use Rattle.puckreader.specs.State.{PuckRead, fresh, holding}
use Rattle.puckreader.specs.Line.{handed_out, reads}
use Rattle.puckreader.specs.Promises.{FreshPromise}
use Rattle.puckreader.specs.Runs as reading
use Rattle.puckreader.specs.HandedOut.{TrueBy, HandsOutAt, finished_reports}
use Rattle.puckreader.specs.declared.PuckReader.{PuckReader}
use Rattle.puckreader.specs.declared.PuckAnswer.TheVariants.{Nothing, Movement, Test, Dropped}
use Rattle.puckhistory.specs.Runs.{puck_after, puck_words, answer_to, answers_to}
use Rattle.puckhistory.specs.History.{passages_of}
use Rattle.puckhistory.proofs.Permitted.{answers_permitted}
use Rattle.demands.specs.Saves.{Press, TellsAtMost}
use Rattle.puckdemands.specs.Computing.{computing}
use Rattle.puckdemands.specs.Demand3.{Run, sent}
use Rattle.puckdemands.specs.Saves.{true_where_damage_shows, stays_marked, pressed, never_a_second_save, ShowsStates, SeenAt}
use Rattle.puckdemands.specs.Saves.{a_press_survives, seen_after_the_stretch, Steady}

-- a device of revision 1 and maker 3, made with no button down, and any events
abbrev start : Puck
start = made 0 1 3

pub run : (events : List Event) → Run 0 1 3 start events (answers_to start events)
run events = record { made = refl; permitted = answers_permitted start events }

abbrev tested : List Event → List Event
tested later = Send ∷ Send ∷ Send ∷ Send ∷ later

abbrev asked : List Event → List Event
asked later = Host letter_p ∷ Latch ∷ Send ∷ Send ∷ Send ∷ later

-- the self-test of power-up, a movement, T with its self-test, and a movement
abbrev moves : List Event
moves = tested (Motion (pos 5) (pos 3) ∷ asked (Host letter_t ∷ tested (asked [])))

abbrev test : SelfTest
test = record { revision = 1; maker = 3; device = 2; error = 0; buttons = 0 }

abbrev moved : PuckMessage
moved = of_box_lem (latched_in Mm (report 0 (pos 5) (pos 3)))

abbrev still : PuckMessage
still = of_box_lem (latched_in Mm (report 0 (pos 0) (pos 0)))

abbrev sent_reports : List PuckReport
sent_reports = self_test test ∷ movement (report 0 (pos 5) (pos 3)) ∷ self_test test ∷ movement (report 0 (pos 0) (pos 0)) ∷ []

pub moves_send : (puck_words start moves ≡ 0xA1 ∷ 0x32 ∷ 0x00 ∷ 0x00 ∷ 0x98 ∷ 0x05 ∷ 0x03 ∷ 0xA1 ∷ 0x32 ∷ 0x00 ∷ 0x00 ∷ 0x98 ∷ 0x00 ∷ 0x00 ∷ [])
    × (finished_reports (sent (run moves)) ≡ sent_reports)
unfolding computing
moves_send = (refl, refl)

-- The last byte of the movement and the first of the second self-test arrive as one 256
abbrev scarred_words : List ℕ
scarred_words = 0xA1 ∷ 0x32 ∷ 0x00 ∷ 0x00 ∷ 0x98 ∷ 0x05 ∷ 256 ∷ 0x32 ∷ 0x00 ∷ 0x00 ∷ 0x98 ∷ 0x00 ∷ 0x00 ∷ []

pub shown_in_a_test : TrueBy fresh scarred_words sent_reports
unfolding computing answers_to answer_to
shown_in_a_test =
    true_where_damage_shows (run moves)
    (stays (stays (stays (stays (stays (stays (scar (0x03 ∷ 0xA1 ∷ []) (stays (stays (stays (stays (stays (stays whole))))))))))))) fresh refl

pub scarred_answers : answers_over reads fresh scarred_words
    ≡ Nothing ∷ Nothing ∷ Nothing ∷ Test test ∷ Nothing ∷ Nothing ∷ Dropped 2 ∷ Dropped 1 ∷ Dropped 1 ∷ Dropped 1 ∷ Nothing ∷ Nothing ∷
    Movement (report 0 (pos 0) (pos 0)) ∷ []
unfolding computing answers_over
scarred_answers = refl

-- the last movement stays: a fresh reader hands it out at word 12
pub stays_in_a_test : HandsOutAt scarred_words 12 (movement (report 0 (pos 0) (pos 0)))
unfolding computing
stays_in_a_test =
    stays_marked (run moves) (finished (of_test test) ∷ finished moved ∷ finished (of_test test) ∷ []) still [] refl (movement (report 0 (pos 0) (pos 0))) refl
    (stays (stays (stays (stays (stays (stays (scar (0x03 ∷ 0xA1 ∷ []) (stays (stays (stays whole)))))))))) whole 12 refl

-- Bytes must not be lost without a 256: these two are, and the self-test's second byte ends a movement to 5, 50 that
-- was never sent. (One byte alone does no such harm: Demand3's `exactly`.)
pub bytes_need_trace : answers_over reads fresh (0xA1 ∷ 0x32 ∷ 0x00 ∷ 0x00 ∷ 0x98 ∷ 0x05 ∷ 0x32 ∷ 0x00 ∷ 0x00 ∷ 0x98 ∷ 0x00 ∷ 0x00 ∷ [])
    ≡ Nothing ∷ Nothing ∷ Nothing ∷ Test test ∷ Nothing ∷ Nothing ∷ Movement (report 0 (pos 5) (pos 50)) ∷ Dropped 1 ∷ Dropped 1 ∷ Nothing ∷ Nothing ∷
    Movement (report 0 (pos 0) (pos 0)) ∷ []
unfolding computing answers_over
bytes_need_trace = refl

-- M is pressed in stream mode and shown; T comes while it is down and clears all but the buttons; it is released in the
-- self-test. It was pressed once, and goes down once in the movement reports.
abbrev tap : List Event
tap = tested (Host mode_r ∷ Buttons 2 ∷ Latch ∷ Send ∷ Send ∷ Send ∷ Host letter_t ∷ Send ∷ Buttons 0 ∷ Send ∷ Send ∷ Send ∷ asked [])

pub tap_seen : (movements_in (finished_reports (sent (run tap))) ≡ report 2 (pos 0) (pos 0) ∷ report 0 (pos 0) (pos 0) ∷ [])
    × (◌≡◌ {A = ℕ} (presses_from (is_down middle) 0 (movements_in (finished_reports (sent (run tap))))) 1)
    × (◌≡◌ {A = ℕ} (pressed (run tap) middle) 1)
unfolding computing presses buttons_told
tap_seen = (refl, refl, refl)

-- of the same words, A1 32 00 00 9A 00 00 A1 32 3D 02 98 00 00, some are lost without a trace and a break comes in: a
-- watch tells one press at most
pub tap_scarred : (r : PuckReader) → FreshPromise r → (steps : List PuckRead)
    → reading.StepsPromise r (0x32 ∷ 0x00 ∷ 0x00 ∷ 0x9A ∷ 0x00 ∷ 0x32 ∷ 256 ∷ 0x98 ∷ 0x00 ∷ 0x00 ∷ []) steps
    → TellsAtMost 1 middle 0 (movements_in (handed_out (reading.answers steps)))
unfolding computing answers_to answer_to presses buttons_told
tap_scarred =
    never_a_second_save (run tap)
    (lost (stays (stays (stays (stays (stays (lost (lost (stays (lost (lost (a_break (stays (stays (stays whole))))))))))))))) middle

-- No byte may change into another: the first byte of a movement arrives as 9A, and M is down that nobody pressed
pub no_byte_changes : (puck_words start (tested (asked [])) ≡ 0xA1 ∷ 0x32 ∷ 0x00 ∷ 0x00 ∷ 0x98 ∷ 0x00 ∷ 0x00 ∷ [])
    × (answers_over reads fresh (0xA1 ∷ 0x32 ∷ 0x00 ∷ 0x00 ∷ 0x9A ∷ 0x00 ∷ 0x00 ∷ [])
    ≡ Nothing ∷ Nothing ∷ Nothing ∷ Test test ∷ Nothing ∷ Nothing ∷ Movement (report 2 (pos 0) (pos 0)) ∷ [])
    × (◌≡◌ {A = ℕ} (pressed (run (tested (asked []))) middle) 0)
unfolding computing answers_over presses buttons_told
no_byte_changes = (refl, refl, refl)

-- Nor may the reader keep bytes of another line: one that keeps 9A 00 takes the second byte of the self-test, whose
-- first is lost, for its last
pub none_kept : answers_over reads (holding (0x9A ∷ 0x00 ∷ [])) (0x32 ∷ 0x00 ∷ 0x00 ∷ []) ≡ Movement (report 2 (pos 0) (pos 50)) ∷ Dropped 1 ∷ Dropped 1 ∷ []
unfolding computing answers_over
none_kept = refl

-- Its press is not owed for ever: M is pressed and released in stream mode, and T comes before a report was latched. It
-- was pressed once, and no movement report shows it.
abbrev cleared : List Event
cleared = tested (Host mode_r ∷ Buttons 2 ∷ Buttons 0 ∷ Host letter_t ∷ tested (asked []))

pub cleared_unseen : (◌≡◌ {A = ℕ} (presses_from (is_down middle) 0 (movements_in (finished_reports (sent (run cleared))))) 0)
    × (◌≡◌ {A = ℕ} (pressed (run cleared) middle) 1)
unfolding computing presses buttons_told
cleared_unseen = (refl, refl)

-- A press survives: M is pressed when one byte of a report has gone, and released two slots later; the fresh reader
-- hands out the self-test of power-up, and then movements that show the press
abbrev slot : List Event → List Event
slot later = Latch ∷ Send ∷ later

abbrev under_way : List Event
under_way = tested (Host mode_r ∷ Motion (pos 5) (pos 0) ∷ Period ∷ slot [])

abbrev released : List Event
released = slot (slot (Buttons 0 ∷ slot (slot (slot (slot [])))))

press : Press Mm (puck_after start under_way).ball 2 released
unfolding computing remembered all_hosts slots_from
press =
    record {
      stream = refl;
      known = omega arith;
      changes = λ e. omega (arith, e);
      room = omega arith;
      kept = among_seven (omega arith);
      quiet = refl;
      slots = omega arith;
    }

pub tap_survives : ShowsStates fresh (0xA1 ∷ 0x32 ∷ 0x00 ∷ 0x00 ∷ 0x98 ∷ 0x05 ∷ 0x00 ∷ 0x9A ∷ 0x00 ∷ 0x00 ∷ 0x98 ∷ []) (self_test test ∷ []) (2 ∷ [])
unfolding computing answers_to answer_to remembered
tap_survives = a_press_survives under_way 2 released (run (under_way ++ (Buttons 2 ∷ released))) press fresh refl

-- and it does where the second byte of the self-test, which was over at the press, has become two others
pub tap_seen_after_damage : SeenAt (0xA1 ∷ 0x98 ∷ 0x07 ∷ 0x00 ∷ 0x00 ∷ 0x98 ∷ 0x05 ∷ 0x00 ∷ 0x9A ∷ 0x00 ∷ 0x00 ∷ 0x98 ∷ []) 2
unfolding computing answers_to answer_to
tap_seen_after_damage =
    seen_after_the_stretch under_way 2 released (run (under_way ++ (Buttons 2 ∷ released))) press
    (0xA1 ∷ []) (0x32 ∷ []) (0x98 ∷ 0x07 ∷ []) (0x00 ∷ 0x00 ∷ 0x98 ∷ 0x05 ∷ 0x00 ∷ 0x9A ∷ 0x00 ∷ 0x00 ∷ 0x98 ∷ []) refl refl (omega arith)

-- The slots are needed: pressed with a report latched of which no byte has gone, it has not been shown after five, and
-- has after six
abbrev seen_by : List Event → List Report
seen_by events = movements_in (finished_reports (sent (run (tested (Host mode_r ∷ Motion (pos 5) (pos 0) ∷ Period ∷ Latch ∷ Buttons 2 ∷ events)))))

pub slots_needed : (seen_by (slot (slot (slot (slot (slot []))))) ≡ report 0 (pos 5) (pos 0) ∷ [])
    × (seen_by (slot (slot (slot (slot (slot (slot [])))))) ≡ report 0 (pos 5) (pos 0) ∷ report 2 (pos 0) (pos 0) ∷ [])
unfolding computing
slots_needed = (refl, refl)

-- A stream mode is needed: in prompt mode, and so in a self-test, nothing is remembered, and a tap between two reports
-- is not seen
pub stream_needed : movements_in (finished_reports (sent (run (tested (Buttons 2 ∷ slot (Buttons 0 ∷ asked []))))))
    ≡ report 0 (pos 0) (pos 0) ∷ []
unfolding computing
stream_needed = refl

-- As many saves as presses: a device that streams is told of M down and up, and of L down, and has shown all three.
-- Each was pressed once; a watch that was told the buttons tells so.
abbrev streaming : Puck
streaming = puck_after start (tested (Host mode_r ∷ []))

abbrev both : List Event
both = Buttons 2 ∷ Buttons 0 ∷ Buttons 4 ∷ slot (slot (slot (slot (slot (slot (slot (slot (slot []))))))))

pub steady : Steady streaming both (answers_to streaming both)
unfolding computing remembered all_hosts never_ninth
steady =
    record {
      good = refl;
      stream = refl;
      idle = refl;
      none = refl;
      keeps = refl;
      never = refl;
      shown = refl;
      permitted = answers_permitted streaming both;
    }

pub both_seen : (movements_in (finished_reports (passages_of streaming nothing both))
    ≡ report 2 (pos 0) (pos 0) ∷ report 0 (pos 0) (pos 0) ∷ report 4 (pos 0) (pos 0) ∷ [])
    × (◌≡◌ {A = ℕ} (presses (is_down middle) false (buttons_told both)) 1)
    × (◌≡◌ {A = ℕ} (presses (is_down left) false (buttons_told both)) 1)
unfolding computing presses buttons_told
both_seen = (refl, refl, refl)
