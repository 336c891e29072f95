-- Worked runs of the device, and of its reader over their words: power-up with a button down, T in the middle of a
-- report, a byte of the host's in a self-test, a self-test joined halfway, and one that lost a byte; each with its
-- words, its passages and its answers computed.
use Rattle.std.specs.Prelude.{ℕ, ◌≡◌, refl, List, [], ◌∷◌, pos}
use Rattle.frames.specs.Passages.{Passage, silent, finished, broken, nothing}
use Rattle.fold.specs.Fold.{answers_over}
use Rattle.wire.specs.Reading.{report}
use Rattle.wire.specs.Messages.{latched_in}
use Rattle.wire.specs.declared.Format.TheVariants.{Mm}
use Rattle.ballbox.specs.Commands.{letter_p}
use Rattle.ballbox.specs.declared.Event.{Event}
use Rattle.ballbox.specs.declared.Event.TheVariants.{Motion, Host, Latch, Send}
use Rattle.vsxxx.specs.Reports.{PuckMessage, of_box_lem, of_test}
use Rattle.vsxxx.specs.declared.SelfTest.{SelfTest}
use Rattle.puck.specs.Device.{made}
use Rattle.puck.specs.Rules.{mode_r, letter_t}
use Rattle.puckreader.specs.State.{fresh}
use Rattle.puckreader.specs.Line.{reads}
use Rattle.puckreader.specs.declared.PuckAnswer.{PuckAnswer}
use Rattle.puckreader.specs.declared.PuckAnswer.TheVariants.{Nothing, Movement, Test, Dropped}
use Rattle.puckhistory.specs.Runs.{puck_words}
use Rattle.puckhistory.specs.History.{passages_of, going_after, at_power_up}
use Rattle.puckdemands.specs.Computing.{computing}

-- a device of revision 1 and maker 3 is made with these buttons; over the events it sends these words, which are these
-- passages, and nothing is going at the end
pub record Sends (buttons : ℕ) (events : List Event) (words : List ℕ) (passages : List (Passage PuckMessage)) : Type 0 where
  pub line : puck_words (made buttons 1 3) events ≡ words
  pub is : passages_of (made buttons 1 3) (at_power_up buttons 1 3) events ≡ passages
  pub ends : going_after (made buttons 1 3) (at_power_up buttons 1 3) events ≡ nothing

-- the answers of a fresh reader to words
abbrev pub Answered : List ℕ → List PuckAnswer → Type 0
Answered words answers = answers_over reads fresh words ≡ answers

abbrev test : ℕ → ℕ → SelfTest
test error buttons = record { revision = 1; maker = 3; device = 2; error = error; buttons = buttons }

-- Power-up with the left button down: "ASCII "=" (3D hex) indicates a button error", "04 (hex) would mean a left button error"
pub left_button : Sends 4 (Send ∷ Send ∷ Send ∷ Send ∷ []) (0xA1 ∷ 0x32 ∷ 0x3D ∷ 0x04 ∷ []) (finished (of_test (test 0x3D 4)) ∷ [])
unfolding computing
left_button = record { line = refl; is = refl; ends = refl }

pub left_button_read : Answered (0xA1 ∷ 0x32 ∷ 0x3D ∷ 0x04 ∷ []) (Nothing ∷ Nothing ∷ Nothing ∷ Test (test 0x3D 4) ∷ [])
unfolding computing answers_over
left_button_read = refl

-- T in the middle of a report: the report is broken off, and what was counted since is gone with it
abbrev middle : List Event
middle = Send ∷ Send ∷ Send ∷ Send ∷ Motion (pos 5) (pos 3) ∷ Host letter_p ∷ Latch ∷ Send ∷ Motion (pos 9) (pos 0) ∷ Host letter_t ∷ Send ∷ Send ∷ Send ∷
    Send ∷ Host letter_p ∷ Latch ∷ Send ∷ Send ∷ Send ∷ []

pub t_in_a_report : Sends 0 middle
    (0xA1 ∷ 0x32 ∷ 0x00 ∷ 0x00 ∷ 0x98 ∷ 256 ∷ 0xA1 ∷ 0x32 ∷ 0x00 ∷ 0x00 ∷ 0x98 ∷ 0x00 ∷ 0x00 ∷ [])
    (finished (of_test (test 0 0)) ∷ broken 1 (of_box_lem (latched_in Mm (report 0 (pos 5) (pos 3)))) ∷ finished (of_test (test 0 0)) ∷
    finished (of_box_lem (latched_in Mm (report 0 (pos 0) (pos 0)))) ∷ [])
unfolding computing
t_in_a_report = record { line = refl; is = refl; ends = refl }

-- bytes of the host's in a self-test do nothing, a second T included; the first behind it is obeyed
abbrev during : List Event
during = Send ∷ Host letter_t ∷ Host mode_r ∷ Send ∷ Host letter_p ∷ Send ∷ Latch ∷ Send ∷ Send ∷ Host letter_p ∷ Latch ∷ Send ∷ Send ∷ Send ∷ []

pub host_in_a_test : Sends 0 during
    (0xA1 ∷ 0x32 ∷ 0x00 ∷ 0x00 ∷ 257 ∷ 0x98 ∷ 0x00 ∷ 0x00 ∷ [])
    (finished (of_test (test 0 0)) ∷ silent ∷ finished (of_box_lem (latched_in Mm (report 0 (pos 0) (pos 0)))) ∷ [])
unfolding computing
host_in_a_test = record { line = refl; is = refl; ends = refl }

-- a self-test joined halfway: its later bytes are dropped alone, and the next report is handed out
pub joined_halfway : Answered (0x3D ∷ 0x04 ∷ 0x9C ∷ 0x05 ∷ 0x03 ∷ []) (Dropped 1 ∷ Dropped 1 ∷ Nothing ∷ Nothing ∷ Movement (report 4 (pos 5) (pos 3)) ∷ [])
unfolding computing answers_over
joined_halfway = refl

-- one that lost its second byte: the next first byte drops the three
pub lost_a_byte : Answered (0xA1 ∷ 0x3D ∷ 0x04 ∷ 0x9C ∷ 0x05 ∷ 0x03 ∷ []) (Nothing ∷ Nothing ∷ Nothing ∷ Dropped 3 ∷ Nothing ∷
    Movement (report 4 (pos 5) (pos 3)) ∷ [])
unfolding computing answers_over
lost_a_byte = refl

-- byte 4 above 7: all four are dropped; and a byte that begins no report, 110 or 111
pub wrong_buttons : Answered (0xA1 ∷ 0x32 ∷ 0x00 ∷ 0x08 ∷ 0xC0 ∷ 0xE0 ∷ 0xB0 ∷ []) (Nothing ∷ Nothing ∷ Nothing ∷ Dropped 4 ∷ Dropped 1 ∷ Dropped 1 ∷
    Dropped 1 ∷ [])
unfolding computing answers_over
wrong_buttons = refl

-- any device code is read: a tablet's self-test
pub a_tablet : Answered (0xA2 ∷ 0x14 ∷ 0x00 ∷ 0x00 ∷ []) (Nothing ∷ Nothing ∷ Nothing ∷
    Test (record { revision = 2; maker = 1; device = 4; error = 0; buttons = 0 }) ∷ [])
unfolding computing answers_over
a_tablet = refl
