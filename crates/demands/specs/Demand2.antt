-- Demand 2: "Box and reader agree with the manuals: each event moves the box as the rules say, each report has the manual's bytes, and reading them
-- with a ready reader gives back the report, less the button Microsoft's format doesn't carry; what was read, encoded again, gives the same bytes,
-- except a minus zero." In V "the bytes with bit 7 cleared".
use Rattle.std.specs.Prelude.{ℕ, ◌+◌, ◌-◌, ◌*◌, ◌≤◌, ◌≡◌, true, false, List, [], ◌∷◌, ◌++◌, length, take, drop, replicate, ℤ, Ok}
use Rattle.std.proofs.Common.{ap}
use Rattle.wire.specs.Reading.{settled_by}
use Rattle.wire.specs.Line.{letter_of, size_of, size_by}
use Rattle.wire.specs.Table.{bytes_of}
use Rattle.wire.specs.Holds.{accepted, carried_by}
use Rattle.wire.specs.Numbers.{success}
use Rattle.wire.specs.Encoder.{refusal_of, length_of, Encoded}
use Rattle.wire.specs.Promises.{EncodePromise}
use Rattle.frames.specs.Passages.{UnderWay, nothing, passage_words, part_words}
use Rattle.wire.specs.Messages.{Message, message_bytes}
use Rattle.wire.specs.declared.Report.{Report}
use Rattle.wire.specs.declared.Format.{Format}
use Rattle.wire.proofs.Answers.{accepted_written}
use Rattle.reader.specs.State.{ready, kept_in, five_of, Read}
use Rattle.reader.specs.Good as readers
use Rattle.reader.specs.Rules.{entered}
use Rattle.reader.specs.Line.{Reading, Long, reading}
use Rattle.reader.specs.Counts.{byte_in, bytes_in, reports_in, dropped_in}
use Rattle.reader.specs.Promises as reader
use Rattle.reader.specs.Promises.{ReadPromise}
use Rattle.reader.specs.Runs.{StepsPromise, answers, reader_after}
use Rattle.reader.specs.declared.Reader.{Reader}
use Rattle.reader.specs.declared.Answer.TheVariants as answer
use Rattle.reader.proofs.There as there
use Rattle.reader.proofs.Back as back
use Rattle.reader.proofs.Counting as counting
use Rattle.ballbox.specs.Box.{fresh_box, dormant}
use Rattle.ballbox.specs.Good.{good}
use Rattle.ballbox.specs.Events.{awake, asleep}
use Rattle.ballbox.specs.Promises.{FreshPromise, StepPromise, outcome, above_seven}
use Rattle.ballbox.specs.declared.BallBox.{BallBox}
use Rattle.ballbox.specs.declared.Event.{Event}
use Rattle.ballbox.specs.declared.Stepped.{Stepped}
use Rattle.ballbox.proofs.Refusals.{awake_step, asleep_step}
use Rattle.ballbox.proofs.Goodness.{fresh_is_good}
use Rattle.history.specs.Runs.{RunPromise, words_given}
use Rattle.history.specs.History.{passages_of, going_after}
use Rattle.history.specs.Carried.{Carries}
use Rattle.history.proofs.Bridge.{run_carried}

-- "each event moves the box as the rules say": `awake` and `asleep` are the rules of crates/ballbox/specs/Events.antt
pub box_awake : (b : BallBox) (e : Event) (r : Stepped)
    → StepPromise b e r
    → good b ≡ true
    → above_seven e ≡ false
    → dormant b ≡ false
    → outcome r ≡ awake b e
box_awake = awake_step

pub box_asleep : (b : BallBox) (e : Event) (r : Stepped)
    → StepPromise b e r
    → good b ≡ true
    → above_seven e ≡ false
    → dormant b ≡ true
    → outcome r ≡ asleep b e
box_asleep = asleep_step

-- "each report has the manual's bytes": those of the table, from the encoder, and in a run of the box those of what was
-- latched; where a report or a reply is going at its start, behind the bytes of it that had gone
pub encoded : (f : Format) (r : Report) (before after : List ℕ) (a : Encoded)
    → accepted f r ≡ true
    → size_of f ≤ length before
    → EncodePromise (letter_of f) r before a after
    → (a ≡ Ok (size_of f))
    × (after ≡ bytes_of f r ++ drop (size_of f) before)
encoded = accepted_written

pub in_a_run : (b : BallBox) (going : UnderWay Message) (events : List Event) (run : List Stepped)
    → good b ≡ true
    → Carries b going
    → RunPromise b events run
    → part_words message_bytes going ++ words_given run
    ≡ passage_words message_bytes (passages_of b going events) ++ part_words message_bytes (going_after b going events)
in_a_run = run_carried

-- so in every run of a fresh box, whatever the host sends
pub in_a_run_from_fresh : (b : BallBox) (events : List Event) (run : List Stepped)
    → FreshPromise b
    → RunPromise b events run
    → words_given run ≡ passage_words message_bytes (passages_of b nothing events) ++ part_words message_bytes (going_after b nothing events)
unfolding fresh_box
in_a_run_from_fresh b events run fresh permitted = run_carried b nothing events run (fresh_is_good b fresh) (rw fresh) permitted

-- "reading them with a ready reader gives back the report, less the button Microsoft's format doesn't carry"
pub read_back : (letter : ℕ) (p : Report) (before after : List ℕ) (e : Encoded) (steps : List Read)
    → EncodePromise letter p before e after
    → refusal_of e ≡ success
    → StepsPromise (ready letter) (take (length_of e) after) steps
    → (answers steps ≡ replicate (length_of e - 1) answer.Nothing ++ answer.Report (carried_by letter p) ∷ [])
    × (reader_after (ready letter) steps ≡ ready letter)
read_back = there.there

pub read_back_at_once : (letter : ℕ) (p : Report) (before after : List ℕ) (e : Encoded) (out written : List ℤ) (a : Reading)
    → EncodePromise letter p before e after
    → refusal_of e ≡ success
    → 5 ≤ length out
    → ReadPromise (ready letter) (take (length_of e) after) out a written
    → (a ≡ record { refusal = success; next = ready letter; taken = length_of e; reports = 1; dropped = 0 })
    × (written ≡ five_of (carried_by letter p) ++ drop 5 out)
read_back_at_once letter p before after e out written a encoded ok room read =
    let h = there.there_read letter p before after e out written a encoded ok room read in
    (ap reading h, ap (λ (l : Long). l.out) h)

-- "what was read, encoded again, gives the same bytes, except a minus zero": `settled_by` sets a minus zero's sign bit and changes nothing else.
-- "Encoding what was read now returns the bytes with bit 7 cleared": those that are kept entered so, and this word is taken as it enters
pub encoded_again : (r : Reader) (w : ℕ) (s : Read) (p : Report) (before after : List ℕ) (e : Encoded)
    → readers.good r ≡ true
    → reader.StepPromise r w s
    → s.answer ≡ answer.Report p
    → size_by r.format ≤ length before
    → EncodePromise r.format p before e after
    → (refusal_of e ≡ success)
    × (length_of e ≡ size_by r.format)
    × (after ≡ settled_by r.format (kept_in r ++ entered r.format w ∷ []) ++ drop (size_by r.format) before)
encoded_again = back.back

-- "from which follows: bytes in plus kept before equal bytes in reports plus dropped plus kept after"
pub word_counts : (r : Reader) (w : ℕ) (s : Read)
    → reader.StepPromise r w s
    → s.refusal ≡ success
    → byte_in w + r.count ≡ size_by r.format * reports_in s.answer + dropped_in s.answer + s.next.count
word_counts = counting.step_counts

pub line_counts : (r : Reader) (words : List ℕ) (out : List ℤ) (a : Reading) (after : List ℤ)
    → ReadPromise r words out a after
    → bytes_in (take a.taken words) + r.count ≡ size_by r.format * a.reports + a.dropped + a.next.count
line_counts = counting.read_counts
