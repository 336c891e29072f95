-- Demand 2 of the device and its reader: "Box and reader agree with the manuals: each event moves the box as the rules
-- say, each report has the manual's bytes, and reading them with a ready reader gives back the report [..]; what was
-- read, encoded again, gives the same bytes, except a minus zero."
use Rattle.std.specs.Prelude.{ℕ, ◌+◌, ◌-◌, ◌≤◌, ◌%◌, ◌≡◌, true, false, List, [], ◌∷◌, ◌++◌, length, drop, replicate, eqb, ℤ, Ok}
use Rattle.frames.specs.Passages.{UnderWay, passage_words, part_words}
use Rattle.wire.specs.Line.{letter_of}
use Rattle.wire.specs.Numbers.{success}
use Rattle.wire.specs.Reading.{settled}
use Rattle.wire.specs.Promises.{EncodePromise}
use Rattle.wire.specs.declared.Report.{Report}
use Rattle.wire.specs.Encoder.{Encoded}
use Rattle.wire.specs.declared.Format.TheVariants.{Mm}
use Rattle.ballbox.specs.Events.{broken_off, dropped}
use Rattle.ballbox.specs.declared.Event.{Event}
use Rattle.ballbox.specs.declared.Event.TheVariants.{Host}
use Rattle.vsxxx.specs.SelfTests.{test_bytes, holds_test}
use Rattle.vsxxx.specs.Reports.{PuckReport, PuckMessage, puck_bytes, HeldByPuck, shown_by_puck}
use Rattle.vsxxx.specs.declared.SelfTest.{SelfTest}
use Rattle.puck.specs.Device.{testing, with_ball, powered}
use Rattle.puck.specs.Rules.{gives, letter_t, is_boxes, rules}
use Rattle.puck.specs.Good.{good}
use Rattle.puck.specs.Promises as puck
use Rattle.puck.specs.Promises.{outcome}
use Rattle.puck.specs.declared.Puck.{Puck}
use Rattle.puck.specs.declared.PuckStepped.{PuckStepped}
use Rattle.puck.proofs.Refusals as refusals
use Rattle.puck.proofs.Goodness.{made_is_good}
use Rattle.puck.proofs.Sentences as sentences
use Rattle.puckreader.specs.State.{PuckRead, fresh, kept_in}
use Rattle.puckreader.specs.Good as readers
use Rattle.puckreader.specs.Line.{PuckReading, report_of, bytes_reported, dropped_in, byte_in, Found}
use Rattle.puckreader.specs.Promises as reader
use Rattle.puckreader.specs.Runs.{StepsPromise, answers, reader_after}
use Rattle.puckreader.specs.HandedOut.{handing, Took}
use Rattle.puckreader.specs.declared.PuckReader.{PuckReader}
use Rattle.puckreader.specs.declared.PuckAnswer.TheVariants.{Nothing, Movement, Test}
use Rattle.puckreader.proofs.There as there_and_back
use Rattle.puckreader.proofs.Counts as counts
use Rattle.puckhistory.specs.Runs.{RunPromise, words_given}
use Rattle.puckhistory.specs.History.{passages_of, going_after, at_power_up}
use Rattle.puckhistory.specs.Carried.{Holds}
use Rattle.puckhistory.proofs.Bridge.{run_passages, made_holds}

-- "each event moves the box as the rules say": `rules` are those of crates/puck/specs/Rules.antt
pub by_the_rules : (p : Puck) (e : Event) (r : PuckStepped)
    → puck.StepPromise p e r
    → good p ≡ true
    → outcome r ≡ rules p e
by_the_rules = refusals.ruled

-- "Until its last byte has gone host bytes do nothing."
pub host_in_test : (p : Puck) (byte : ℕ) (r : PuckStepped)
    → puck.StepPromise p (Host byte) r
    → good p ≡ true
    → testing p ≡ true
    → outcome r ≡ gives [] p
host_in_test = sentences.host_in_test

-- "It and T clear all but the buttons and start a self-test"
pub by_t_lem : (p : Puck) (byte : ℕ) (r : PuckStepped)
    → puck.StepPromise p (Host byte) r
    → good p ≡ true
    → testing p ≡ false
    → eqb byte letter_t ≡ true
    → outcome r ≡ gives (broken_off p.ball) (powered p.ball.settings.buttons p.revision p.maker)
by_t_lem = sentences.by_t_lem

-- "obeying those commands only": any other byte breaks off what is going, and changes nothing else
pub other_bytes : (p : Puck) (byte : ℕ) (r : PuckStepped)
    → puck.StepPromise p (Host byte) r
    → good p ≡ true
    → testing p ≡ false
    → eqb byte letter_t ≡ false
    → is_boxes byte ≡ false
    → outcome r ≡ gives (broken_off p.ball) (with_ball (dropped p.ball) p)
other_bytes = sentences.other_bytes

-- "each report has the manual's bytes": in a run those of what was latched, and of the self-tests the rows of figure
-- C-5; behind the bytes that had gone of what is under way at its start
pub in_a_run : (p : Puck) (going : UnderWay PuckMessage) (events : List Event) (run : List PuckStepped)
    → good p ≡ true
    → Holds p going
    → RunPromise p events run
    → part_words puck_bytes going ++ words_given run ≡ passage_words puck_bytes (passages_of p going events) ++ part_words puck_bytes (going_after p going events)
in_a_run = run_passages

-- so from its making on, the self-test of power-up first
pub in_a_run_from_its_making : (buttons revision maker : ℕ) (p : Puck) (events : List Event) (run : List PuckStepped)
    → puck.MadePromise buttons revision maker p
    → RunPromise p events run
    → let powered = at_power_up (buttons % 8) (revision % 16) (maker % 8) in
    words_given run ≡ passage_words puck_bytes (passages_of p powered events) ++ part_words puck_bytes (going_after p powered events)
in_a_run_from_its_making buttons revision maker p events run made permitted =
    run_passages p (at_power_up (buttons % 8) (revision % 16) (maker % 8)) events run (made_is_good buttons revision maker p made)
    (made_holds buttons revision maker p made) permitted

-- "reading them with a ready reader gives back the report": a report that S holds, or a self-test that the figure has room for, of which r is handed out
pub read_back : (m : PuckMessage)
    → HeldByPuck m
    → (r : PuckReport)
    → shown_by_puck m ≡ r ∷ []
    → (steps : List PuckRead)
    → StepsPromise fresh (puck_bytes m) steps
    → (answers steps ≡ replicate (length (puck_bytes m) - 1) Nothing ++ handing r ∷ []) × (reader_after fresh steps ≡ fresh)
read_back = there_and_back.there

pub read_back_at_once : (m : PuckMessage)
    → HeldByPuck m
    → (r : PuckReport)
    → shown_by_puck m ≡ r ∷ []
    → (out after : List ℤ) (a : PuckReading)
    → 6 ≤ length out
    → reader.ReadPromise fresh (puck_bytes m) out a after
    → Took (puck_bytes m) (r ∷ []) out a after
read_back_at_once = there_and_back.there_read

-- "what was read, encoded again, gives the same bytes, except a minus zero": of a self-test by the figure, of a movement by the encoder in S
pub test_again : (r : PuckReader) (w : ℕ) (s : PuckRead) (t : SelfTest)
    → readers.good r ≡ true
    → reader.StepPromise r w s
    → s.answer ≡ Test t
    → (test_bytes t ≡ kept_in r ++ (w ∷ [])) × (holds_test t ≡ true)
test_again = there_and_back.test_back

pub movement_again : (r : PuckReader) (w : ℕ) (s : PuckRead) (q : Report) (before after : List ℕ) (e : Encoded)
    → readers.good r ≡ true
    → reader.StepPromise r w s
    → s.answer ≡ Movement q
    → 3 ≤ length before
    → EncodePromise (letter_of Mm) q before e after
    → (e ≡ Ok 3) × (after ≡ settled Mm (kept_in r ++ (w ∷ [])) ++ drop 3 before)
movement_again = there_and_back.move_back

-- "bytes in plus kept before equal bytes in reports plus dropped plus kept after": three bytes for a movement, four for a self-test
pub word_counts : (r : PuckReader) (w : ℕ) (s : PuckRead)
    → readers.good r ≡ true
    → reader.StepPromise r w s
    → s.refusal ≡ success
    → byte_in w + r.count ≡ bytes_reported (report_of s.answer) + dropped_in s.answer + s.next.count
word_counts = counts.step_counts

pub line_counts : (r : PuckReader) (words : List ℕ) (before : List ℤ) (a : PuckReading) (after : List ℤ)
    → readers.good r ≡ true
    → reader.ReadPromise r words before a after
    → Found r words before a after
line_counts = counts.read_counts
