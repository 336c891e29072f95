-- Worked runs: demand 3 at small runs of the box, with the words, the passages and the answers computed. Runs that lack just one of its conditions,
-- where the report is not handed out as sent, stand in crates/reader/proofs/DamagedRuns.antt.
use Rattle.std.specs.Prelude.{ℕ, zero, suc, ◌≡◌, refl, true, List, [], ◌∷◌, pos}
use Rattle.std.proofs.Common.{arith}
use Rattle.numbers.specs.Signed.{minus}
use Rattle.frames.specs.Passages.{Passage, silent, finished, nothing, none, gone, in_finished_lem}
use Rattle.wire.specs.Line.{letter_of}
use Rattle.wire.specs.Reading.{report}
use Rattle.wire.specs.Messages.{Message, latched_in, showing_in}
use Rattle.wire.specs.declared.Report.{Report}
use Rattle.wire.specs.declared.Format.{Format}
use Rattle.wire.specs.declared.Format.TheVariants.{Mm, FiveByte}
use Rattle.reader.specs.DamagedLines.{HandsOut, HandsOutAt}
use Rattle.ballbox.specs.Box.{fresh_box}
use Rattle.ballbox.specs.declared.Stepped.{Stepped}
use Rattle.ballbox.specs.declared.Event.{Event}
use Rattle.ballbox.specs.declared.Event.TheVariants.{Motion, Buttons, Host, Latch, Send}
use Rattle.history.specs.Runs.{words_given, answer_to, answers_to}
use Rattle.history.specs.Asked.{only_asks}
use Rattle.history.proofs.Permitted.{answer_permitted, answers_permitted}
use Rattle.demands.specs.Computing.{computing}
use Rattle.demands.specs.Demand3.{Run, sent, still_going, from_then_on, marked, unmarked, exactly}

-- time for so many characters, and then the others: each is latched for, and sent
abbrev pub slots : ℕ → List Event → List Event
slots zero events = events
slots (suc n) events = Latch ∷ Send ∷ slots n events

-- a fresh box that is set to f by its letter, and the answers of the rules
abbrev pub set_to : Format → Stepped
set_to f = answer_to fresh_box (Host (letter_of f))

-- over events that ask only for reports it sends these words, which are these passages, and nothing is going at the end
pub record SendsWords (f : Format) (events : List Event) (words : List ℕ) (passages : List (Passage Message)) : Type 0 where
  pub asked : only_asks events ≡ true
  pub line : words_given (answers_to (set_to f).next events) ≡ words
  pub is : sent (set_to f) events ≡ passages
  pub ends : still_going (set_to f) events ≡ nothing

pub run_of : {f : Format} {events : List Event} {words : List ℕ} {passages : List (Passage Message)}
    → SendsWords f events words passages
    → Run f fresh_box (set_to f) events (answers_to (set_to f).next events)
unfolding computing
run_of {f} {events} sends =
    record {
      good = refl;
      awake = refl;
      set = answer_permitted fresh_box (Host (letter_of f));
      asked = sends.asked;
      permitted = answers_permitted (set_to f).next events;
    }

-- S: a movement, a character's time with nothing to send, and a press
abbrev events_s : List Event
events_s = Motion (pos 5) (minus 3) ∷ slots 4 (Buttons 4 ∷ slots 3 [])

abbrev pub slow_move : Report
slow_move = report 0 (pos 5) (minus 3)

abbrev pub press : Report
press = report 4 (pos 0) (pos 0)

pub in_s : SendsWords Mm events_s
    (0x90 ∷ 0x05 ∷ 0x03 ∷ 257 ∷ 0x9C ∷ 0x00 ∷ 0x00 ∷ [])
    (finished (latched_in Mm slow_move) ∷ silent ∷ finished (showing_in Mm press) ∷ [])
unfolding computing
in_s = record { asked = refl; line = refl; is = refl; ends = refl }

-- U, the user's disaster: a fast move to the left, a character's time with nothing to send, and a press of the left
-- button; 85, which would be a header with the middle button down, stands twice in the first report
abbrev events_u : List Event
events_u = Motion (minus 123) (pos 0) ∷ slots 3 (Motion (minus 123) (pos 0) ∷ slots 3 (Buttons 4 ∷ slots 5 []))

abbrev pub fast : Report
fast = record { buttons = 0; x1 = minus 123; y1 = pos 0; x2 = minus 123; y2 = pos 0 }

pub in_u : SendsWords FiveByte events_u
    (0x87 ∷ 0x85 ∷ 0x00 ∷ 0x85 ∷ 0x00 ∷ 257 ∷ 0x83 ∷ 0x00 ∷ 0x00 ∷ 0x00 ∷ 0x00 ∷ [])
    (finished (latched_in FiveByte fast) ∷ silent ∷ finished (showing_in FiveByte press) ∷ [])
unfolding computing
in_u = record { asked = refl; line = refl; is = refl; ends = refl }

-- Marked: the stretch 05 03 257 becomes 9A 7F FF. The report 9C 00 00 begins after it, and is the answer to word 6.
pub marked_s : HandsOutAt Mm (0x90 ∷ 0x9A ∷ 0x7F ∷ 0xFF ∷ 0x9C ∷ 0x00 ∷ 0x00 ∷ []) 6 press
unfolding computing
marked_s =
    marked (run_of in_s) from_then_on
    (0x90 ∷ []) (0x05 ∷ 0x03 ∷ 257 ∷ []) (0x9A ∷ 0x7F ∷ 0xFF ∷ []) (0x9C ∷ 0x00 ∷ 0x00 ∷ []) in_s.line refl
    (finished (latched_in Mm slow_move) ∷ silent ∷ []) (record { format = Mm; report = press; shows = true }) [] in_s.is 6 refl
    refl (omega arith)

-- Exactly: 90 05 03 loses its second byte, and the other report is handed out.
pub exactly_s : HandsOut Mm (0x90 ∷ 0x03 ∷ 257 ∷ 0x9C ∷ 0x00 ∷ 0x00 ∷ []) (press ∷ [])
unfolding computing
exactly_s =
    exactly (run_of in_s) {pre = 0x90 ∷ []} {old = 0x05 ∷ []} [] (0x03 ∷ 257 ∷ 0x9C ∷ 0x00 ∷ 0x00 ∷ []) from_then_on refl in_s.line
    (in_finished_lem [] (silent ∷ finished (showing_in Mm press) ∷ []) nothing (latched_in Mm slow_move) (omega arith) (omega arith))
    (gone none) (omega arith)

-- Unmarked: the first word is lost, so that the reader joins the report halfway. The report behind the silence is the answer to word 9.
pub unmarked_u : HandsOutAt FiveByte (0x85 ∷ 0x00 ∷ 0x85 ∷ 0x00 ∷ 257 ∷ 0x83 ∷ 0x00 ∷ 0x00 ∷ 0x00 ∷ 0x00 ∷ []) 9 press
unfolding computing
unmarked_u =
    unmarked (run_of in_u) from_then_on
    [] (0x87 ∷ []) [] (0x85 ∷ 0x00 ∷ 0x85 ∷ 0x00 ∷ 257 ∷ 0x83 ∷ 0x00 ∷ 0x00 ∷ 0x00 ∷ 0x00 ∷ []) in_u.line refl
    (finished (latched_in FiveByte fast) ∷ silent ∷ []) (record { format = FiveByte; report = press; shows = true }) [] in_u.is 9 refl
    [] (finished (latched_in FiveByte fast) ∷ []) refl tt (omega arith)
