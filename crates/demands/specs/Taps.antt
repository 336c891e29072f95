-- Taps worked out: "A save tapped in a long move at 1200 baud fell inside one report, and the recorder never saw the press." With the words, the passages
-- and what is remembered computed.
use Rattle.std.specs.Prelude.{ℕ, ◌≡◌, refl, cond, ◌||◌, List, [], ◌∷◌, ◌++◌, eqb, pos}
use Rattle.frames.specs.Passages.{Passage, silent, finished, broken, nothing}
use Rattle.wire.specs.Line.{letter_of}
use Rattle.wire.specs.Reading.{report}
use Rattle.wire.specs.Messages.{Message, reply, latched_in, showing_in}
use Rattle.wire.specs.declared.Report.{Report}
use Rattle.wire.specs.declared.Format.{Format}
use Rattle.wire.specs.declared.Format.TheVariants.{Mm, FiveByte}
use Rattle.reader.specs.State.{ready}
use Rattle.reader.specs.Counts.{handed_out}
use Rattle.reader.specs.Runs.{steps_of, answers}
use Rattle.reader.specs.DamagedLines.{HandsOutBy}
use Rattle.ballbox.specs.Box.{Step, fresh_box, with_buttons, with_due, due}
use Rattle.ballbox.specs.Presses.{remembered}
use Rattle.ballbox.specs.Commands.{is_stream, letter_p, letterf}
use Rattle.ballbox.specs.Events.{quietly}
use Rattle.ballbox.specs.Promises.{step_of}
use Rattle.ballbox.specs.declared.BallBox.{BallBox}
use Rattle.ballbox.specs.declared.Event.{Event}
use Rattle.ballbox.specs.declared.Event.TheVariants.{Motion, Buttons, Host, Latch, Send, Period}
use Rattle.history.specs.Runs.{words_given, answers_to}
use Rattle.history.specs.History.{next_box, passages_of}
use Rattle.history.specs.Presses.{box_after, shown_by}
use Rattle.history.proofs.Permitted.{answers_permitted}
use Rattle.history.proofs.Presses.{at_rest_lem}
use Rattle.demands.specs.Computing.{computing}
use Rattle.demands.specs.Worked.{slots}
use Rattle.demands.specs.Presses.{Streaming, seen_marked, seen_without_host}

-- a fresh box that is set to f by its letter: it is in the stream mode O
abbrev pub box_in : Format → BallBox
box_in f = next_box fresh_box (Host (letter_of f))

-- over the events it sends these words, which are these passages, and then remembers these states
pub record SendsAndRemembers (f : Format) (events : List Event) (words : List ℕ) (passages : List (Passage Message)) (states : List ℕ) : Type 0 where
  pub line : words_given (answers_to (box_in f) events) ≡ words
  pub is : passages_of (box_in f) nothing events ≡ passages
  pub after : remembered (box_after (box_in f) events).memory ≡ states

-- a movement, and a report of it with these buttons
abbrev pub with_x : ℕ → ℕ → Report
with_x buttons x = report buttons (pos x) (pos 0)

-- S: a long move. The middle button is pressed and released between the bytes of its first report.
abbrev tap_s : List Event
tap_s = Motion (pos 5) (pos 0) ∷ slots 1 (Buttons 2 ∷ slots 1 (Buttons 0 ∷ slots 1 (Motion (pos 7) (pos 0) ∷ slots 6 [])))

pub tap_in_s : SendsAndRemembers Mm tap_s
    (0x98 ∷ 0x05 ∷ 0x00 ∷ 0x9A ∷ 0x07 ∷ 0x00 ∷ 0x98 ∷ 0x00 ∷ 0x00 ∷ [])
    (finished (latched_in Mm (with_x 0 5)) ∷ finished (showing_in Mm (with_x 2 7)) ∷ finished (showing_in Mm (with_x 0 0)) ∷ [])
    []
unfolding computing
tap_in_s = record { line = refl; is = refl; after = refl }

-- the recorder's reader hands out M down once, and then up
pub tap_seen_in_s : HandsOutBy (ready (letter_of Mm)) (0x98 ∷ 0x05 ∷ 0x00 ∷ 0x9A ∷ 0x07 ∷ 0x00 ∷ 0x98 ∷ 0x00 ∷ 0x00 ∷ []) (with_x 0 5 ∷ with_x 2 7 ∷
    with_x 0 0 ∷ [])
unfolding computing
tap_seen_in_s =
    let run : Streaming (box_in Mm) nothing tap_s (answers_to (box_in Mm) tap_s) =
    record { box = at_rest_lem (box_in Mm) refl refl; awake = refl; stream = refl; keeps = refl; permitted = answers_permitted (box_in Mm) tap_s } in
    seen_marked run Mm refl refl refl

-- U: the same
abbrev tap_u : List Event
tap_u = Motion (pos 5) (pos 0) ∷ slots 1 (Buttons 2 ∷ slots 1 (Buttons 0 ∷ slots 3 (Motion (pos 7) (pos 0) ∷ slots 10 [])))

pub tap_in_u : SendsAndRemembers FiveByte tap_u
    (0x87 ∷ 0x05 ∷ 0x00 ∷ 0x00 ∷ 0x00 ∷ 0x85 ∷ 0x07 ∷ 0x00 ∷ 0x00 ∷ 0x00 ∷ 0x87 ∷ 0x00 ∷ 0x00 ∷ 0x00 ∷ 0x00 ∷ [])
    (finished (latched_in FiveByte (with_x 0 5)) ∷ finished (showing_in FiveByte (with_x 2 7)) ∷ finished (showing_in FiveByte (with_x 0 0)) ∷ [])
    []
unfolding computing
tap_in_u = record { line = refl; is = refl; after = refl }

pub tap_seen_in_u : HandsOutBy (ready (letter_of FiveByte))
    (0x87 ∷ 0x05 ∷ 0x00 ∷ 0x00 ∷ 0x00 ∷ 0x85 ∷ 0x07 ∷ 0x00 ∷ 0x00 ∷ 0x00 ∷ 0x87 ∷ 0x00 ∷ 0x00 ∷ 0x00 ∷ 0x00 ∷ [])
    (with_x 0 5 ∷ with_x 2 7 ∷ with_x 0 0 ∷ [])
unfolding computing
tap_seen_in_u =
    let run : Streaming (box_in FiveByte) nothing tap_u (answers_to (box_in FiveByte) tap_u) =
    record { box = at_rest_lem (box_in FiveByte) refl refl; awake = refl; stream = refl; keeps = refl; permitted = answers_permitted (box_in FiveByte) tap_u } in
    seen_without_host run FiveByte refl refl refl

-- By the base's rule the press is lost: "A change is kept; in a stream mode it makes a report due." It stands here alone.
abbrev base_buttons : ℕ → BallBox → BallBox
base_buttons n b = cond (eqb n b.settings.buttons) b (with_buttons n (with_due (due b || is_stream b.settings.mode) b))

abbrev base_step : BallBox → Event → Step
base_step b (Motion dx dy) = step_of b (Motion dx dy)
base_step b (Buttons n) = quietly (base_buttons n b)
base_step b (Host byte) = step_of b (Host byte)
base_step b Latch = step_of b Latch
base_step b Send = step_of b Send
base_step b Period = step_of b Period

abbrev base_words : BallBox → List Event → List ℕ
base_words b [] = []
base_words b (e ∷ events) = (base_step b e).words ++ base_words (base_step b e).next events

-- the same run, and what the reader hands out of it: M is never down
pub base_loses_it : (base_words (box_in Mm) tap_s ≡ 0x98 ∷ 0x05 ∷ 0x00 ∷ 0x98 ∷ 0x07 ∷ 0x00 ∷ 257 ∷ 257 ∷ 257 ∷ [])
    × (handed_out (answers (steps_of (ready (letter_of Mm)) (base_words (box_in Mm) tap_s))) ≡ with_x 0 5 ∷ with_x 0 7 ∷ [])
unfolding computing
base_loses_it = (refl, refl)

pub base_loses_it_in_u : (base_words (box_in FiveByte) tap_u
    ≡ 0x87 ∷ 0x05 ∷ 0x00 ∷ 0x00 ∷ 0x00 ∷ 0x87 ∷ 0x07 ∷ 0x00 ∷ 0x00 ∷ 0x00 ∷ 257 ∷ 257 ∷ 257 ∷ 257 ∷ 257 ∷ [])
    × (handed_out (answers (steps_of (ready (letter_of FiveByte)) (base_words (box_in FiveByte) tap_u))) ≡ with_x 0 5 ∷ with_x 0 7 ∷ [])
unfolding computing
base_loses_it_in_u = (refl, refl)

-- nine changes within one report: the ninth, 5, is shown in place of the eighth, 6
abbrev nine : List Event
nine =
    Motion (pos 5) (pos 0)
    ∷ slots 1 (Buttons 1 ∷ Buttons 2 ∷ Buttons 3 ∷ Buttons 4 ∷ Buttons 5 ∷ Buttons 6 ∷ Buttons 7 ∷ Buttons 6 ∷ Buttons 5 ∷ slots 27 [])

pub nine_changes : (shown_by (passages_of (box_in Mm) nothing nine) ≡ 1 ∷ 2 ∷ 3 ∷ 4 ∷ 5 ∷ 6 ∷ 7 ∷ 5 ∷ [])
    × (remembered (box_after (box_in Mm) nine).memory ≡ [])
unfolding computing
nine_changes = (refl, refl)

-- a break by `f` in the middle of a report that shows a press: behind the reply another shows it
pub broken_by_f : SendsAndRemembers Mm (Buttons 2 ∷ slots 1 (Host letterf ∷ slots 4 []))
    (0x9A ∷ 256 ∷ 0x1A ∷ 0x9A ∷ 0x00 ∷ 0x00 ∷ [])
    (broken 1 (showing_in Mm (with_x 2 0)) ∷ finished (reply (0x1A ∷ [])) ∷ finished (showing_in Mm (with_x 2 0)) ∷ [])
    []
unfolding computing
broken_by_f = record { line = refl; is = refl; after = refl }

-- P in the middle empties the memory: its report shows the present buttons
pub emptied_by_p : SendsAndRemembers Mm (Buttons 2 ∷ slots 1 (Buttons 0 ∷ Host letter_p ∷ slots 4 []))
    (0x9A ∷ 256 ∷ 0x98 ∷ 0x00 ∷ 0x00 ∷ 257 ∷ [])
    (broken 1 (showing_in Mm (with_x 2 0)) ∷ finished (latched_in Mm (with_x 0 0)) ∷ silent ∷ [])
    []
unfolding computing
emptied_by_p = record { line = refl; is = refl; after = refl }
