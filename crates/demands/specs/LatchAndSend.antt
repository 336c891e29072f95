-- Latch and send apart: what Slot was, and runs in which a report is latched earlier than it is sent, worked out.
use Rattle.std.specs.Prelude.{◌≡◌, refl, List, [], ◌∷◌, pos}
use Rattle.numbers.specs.Signed.{minus}
use Rattle.frames.specs.Passages.{silent, finished, broken}
use Rattle.wire.specs.Line.{letter_of}
use Rattle.wire.specs.Messages.{latched_in, showing_in}
use Rattle.wire.specs.declared.Report.{Report}
use Rattle.wire.specs.declared.Format.TheVariants.{Mm, FiveByte}
use Rattle.reader.specs.State.{ready}
use Rattle.reader.specs.Counts.{handed_out}
use Rattle.reader.specs.Runs.{steps_of, answers}
use Rattle.ballbox.specs.Box.{mode_o}
use Rattle.ballbox.specs.Promises.{outcome, StepPromise}
use Rattle.ballbox.specs.declared.BallBox.{BallBox}
use Rattle.ballbox.specs.declared.Event.TheVariants.{Motion, Buttons, Host, Latch, Send}
use Rattle.ballbox.specs.declared.Stepped.{Stepped}
use Rattle.history.specs.Runs.{RunPromise, words_given}
use Rattle.history.specs.Presses.{last_box}
use Rattle.history.specs.Slots.{slot_of, joined, Timed, timed_words, timed_box, timed_numbers, numbers_told, apartly}
use Rattle.history.proofs.Slots as slots_of
use Rattle.demands.specs.Computing.{computing}
use Rattle.demands.specs.Worked.{slots}
use Rattle.demands.specs.Taps.{SendsAndRemembers, with_x}

-- "Slot goes; that it was Latch followed by Send is to be shown": for every box, good or bad, awake or dormant, whatever it remembers, and any answers that
-- the promises permit, the two end in the box, give the words and tell the number of the paper's Slot
pub slot_was : (b : BallBox) (p q : Stepped)
    → StepPromise b Latch p
    → StepPromise p.next Send q
    → joined (outcome p) (outcome q) ≡ slot_of b
slot_was = slots_of.slot_was

-- and so over every list of events, with Latch and Send in place of each Slot: its words, its last box, and the numbers
-- told, of Latch and of Send that of the Slot
pub slots_were : (b : BallBox) (events : List Timed) (answers : List Stepped)
    → RunPromise b (apartly events) answers
    → (words_given answers ≡ timed_words b events) × (last_box b answers ≡ timed_box b events) × (numbers_told answers ≡ timed_numbers b events)
slots_were = slots_of.slots_were

-- "A host byte may now break off a report of which no byte has gone, so a lone 256 can stand on the line." In U: a movement is latched, and the host
-- sends O. What was latched is lost; the next movements are reported, a silence between them.
pub lone_break : SendsAndRemembers FiveByte (Motion (pos 5) (pos 0) ∷ Latch ∷ Host mode_o ∷ Motion (pos 7) (pos 0) ∷
    slots 6 (Motion (pos 3) (pos 0) ∷ slots 5 []))
    (256 ∷ 0x87 ∷ 0x07 ∷ 0x00 ∷ 0x00 ∷ 0x00 ∷ 257 ∷ 0x87 ∷ 0x03 ∷ 0x00 ∷ 0x00 ∷ 0x00 ∷ [])
    (broken 0 (latched_in FiveByte (with_x 0 5)) ∷ finished (latched_in FiveByte (with_x 0 7)) ∷ silent ∷ finished (latched_in FiveByte (with_x 0 3)) ∷ [])
    []
unfolding computing
lone_break = record { line = refl; is = refl; after = refl }

-- a ready reader of U awaits a silence behind the lone 256, and hands out what comes behind it
pub awaits_silence : handed_out (answers (steps_of (ready (letter_of FiveByte))
    (256 ∷ 0x87 ∷ 0x07 ∷ 0x00 ∷ 0x00 ∷ 0x00 ∷ 257 ∷ 0x87 ∷ 0x03 ∷ 0x00 ∷ 0x00 ∷ 0x00 ∷ []))) ≡ with_x 0 3 ∷ []
unfolding computing
awaits_silence = refl

-- the state that such a report showed keeps its place: the next report shows it
pub broken_unsent : SendsAndRemembers Mm (Buttons 2 ∷ Latch ∷ Host mode_o ∷ slots 3 [])
    (256 ∷ 0x9A ∷ 0x00 ∷ 0x00 ∷ [])
    (broken 0 (showing_in Mm (with_x 2 0)) ∷ finished (showing_in Mm (with_x 2 0)) ∷ [])
    []
unfolding computing
broken_unsent = record { line = refl; is = refl; after = refl }

-- "U's second pair is still latched when byte 4 is sent", however late: it has the movement since the Latch, and a Latch while the report goes does nothing
abbrev late : Report
late = record { buttons = 0; x1 = pos 5; y1 = pos 0; x2 = minus 123; y2 = pos 0 }

pub late_pair : SendsAndRemembers FiveByte (Motion (pos 5) (pos 0) ∷ Latch ∷ Motion (minus 120) (pos 0) ∷ Latch ∷ Send ∷ Send ∷ Send ∷
    Motion (minus 3) (pos 0) ∷ Latch ∷ Send ∷ Send ∷ [])
    (0x87 ∷ 0x05 ∷ 0x00 ∷ 0x85 ∷ 0x00 ∷ [])
    (finished (latched_in FiveByte late) ∷ [])
    []
unfolding computing
late_pair = record { line = refl; is = refl; after = refl }

-- "257 when nothing is going", though a movement waits to be latched
pub send_alone : SendsAndRemembers Mm (Motion (pos 5) (pos 0) ∷ Send ∷ Send ∷ Latch ∷ Send ∷ Send ∷ Send ∷ [])
    (257 ∷ 257 ∷ 0x98 ∷ 0x05 ∷ 0x00 ∷ [])
    (silent ∷ silent ∷ finished (latched_in Mm (with_x 0 5)) ∷ [])
    []
unfolding computing
send_alone = record { line = refl; is = refl; after = refl }
