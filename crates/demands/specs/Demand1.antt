-- Demand 1: "Every public entry takes every event, line word, state and buffer and ends with an answer. A refusal has a number from the list, hands
-- back the old state and writes nothing; a reader given many words does all before the bad one and stops there."
use Rattle.std.specs.Prelude.{ℕ, ◌+◌, ◌<◌, ◌≤◌, ◌≡◌, refl, Bool, true, false, List, [], ◌∷◌, ◌++◌, ◌⊎◌, length, get_or, take, ℤ, None, Result, Err, Option}
use mathlib.Core.List.Memᴰ.{head as here}
use Rattle.frames.specs.Words.{silence, line_words}
use Rattle.wire.specs.Line.{known, letter_of, marked_by, named_by, size_of}
use Rattle.wire.specs.Holds as holding
use Rattle.wire.specs.Holds.{unheld, holds}
use Rattle.wire.specs.Numbers.{success, bad_state, bad_letter, bad_buttons, bad_word, RefusesRightly, accepted, refusal}
use Rattle.wire.specs.Encoder.{Encoding, refusal_of, length_of, Encoded}
use Rattle.wire.specs.Encoder as encoding
use Rattle.wire.specs.Promises as encoder
use Rattle.wire.specs.Promises.{KnownPromise, SizePromise, MarkedPromise, FitsPromise, ReportPromise, EncodePromise, RefusalPromise, LengthPromise}
use Rattle.wire.specs.declared.Format.{Format}
use Rattle.wire.specs.declared.Format.TheVariants.{FiveByte}
use Rattle.wire.specs.declared.Report.{Report}
use Rattle.wire.specs.declared.refusal.Refusal.{Refusal}
use Rattle.wire.specs.declared.refusal.Refusal.TheVariants.{NoSuchLetter, ButtonsAboveSeven, BufferTooShort}
use Rattle.wire.proofs.Answers as wire
use Rattle.wire.proofs.Refusals as wire_refusals
use Rattle.reader.specs.State.{fresh, NewReader, Read, new_in, read_in}
use Rattle.reader.specs.Good as readers
use Rattle.reader.specs.Rules.{refusing}
use Rattle.fold.specs.Calls.{stopped, with_refusal}
use Rattle.reader.specs.Line.{Reading, Long, whole, reads_line, reading_in}
use Rattle.reader.specs.Promises as reader
use Rattle.reader.specs.Telling.{Answers, Told, told, tells_line, answers_by}
use Rattle.reader.specs.Promises.{ReadPromise, AnswersPromise, before_bad, told_before_bad, new_reader}
use Rattle.reader.specs.declared.Reader.{Reader}
use Rattle.reader.proofs.Permitted as permitted
use Rattle.reader.proofs.Refusals as refusals
use Rattle.reader.proofs.Goodness as goodness
use Rattle.port.specs.Promises as port
use Rattle.port.specs.declared.Port.{Port}
use Rattle.port.proofs.Answers as port_answers
use Rattle.saves.specs.Promises as watch
use Rattle.saves.specs.declared.Watch.{Watch}
use Rattle.saves.proofs.Answers as watch_answers
use Rattle.ballbox.specs.Box.{Step, refused}
use Rattle.ballbox.specs.Good as boxes
use Rattle.ballbox.specs.Promises as box
use Rattle.ballbox.specs.Promises.{outcome}
use Rattle.ballbox.specs.declared.BallBox.{BallBox}
use Rattle.ballbox.specs.declared.Event.{Event}
use Rattle.ballbox.specs.declared.Event.TheVariants.{Buttons}
use Rattle.ballbox.specs.declared.Stepped.{Stepped}
use Rattle.ballbox.proofs.Answers as box_answers
use Rattle.ballbox.proofs.Refusals as box_refusals
use Rattle.ballbox.proofs.Goodness as box_goodness
use Rattle.listing.specs.Feeding as listers
use Rattle.listing.specs.Promises as lister
use Rattle.listing.specs.Promises.{Listed, Whole, FeedPromise, FinishPromise}
use Rattle.listing.specs.declared.Lister.{Lister}
use Rattle.listing.specs.declared.Scanner.{Scanner}
use Rattle.listing.specs.declared.Item.{Item}
use Rattle.listing.proofs.Answers as listing
use Rattle.listing.proofs.Refusals as listing_refusals
use Rattle.listing.proofs.Calls as calls
use Rattle.text.specs.Promises.{NonePromise, WithPromise, DecimalPromise, NumberPromise, LengthToPromise}
use Rattle.text.specs.Promises.{PutPromise, ByteToPromise, BytesToPromise, DecimalToPromise}
use Rattle.text.specs.declared.Text.{Text}
use Rattle.text.proofs.Answers as text
use Rattle.yard.specs.Good as yards
use Rattle.yard.specs.Rules as yard_rules
use Rattle.yard.specs.Log as yard_log
use Rattle.yard.specs.Promises as yard
use Rattle.yard.specs.declared.Yard.{Yard}
use Rattle.yard.specs.declared.NewYard.{NewYard}
use Rattle.yard.specs.declared.Judged.{Judged}
use Rattle.yard.specs.declared.Checked.{Checked}
use Rattle.yard.proofs.Answers as yard_answers
use Rattle.yard.proofs.Refusals as yard_refusals
use Rattle.yard.proofs.Goodness as yard_goodness
use Rattle.bridge.specs.Good as bridges
use Rattle.bridge.specs.Line as bridge_line
use Rattle.bridge.specs.Promises as bridge
use Rattle.bridge.specs.declared.Bridge.{Bridge}
use Rattle.bridge.specs.Promises.{NewBridge}
use Rattle.bridge.specs.Line.{Converted}
use Rattle.bridge.proofs.Permitted as bridge_answers
use Rattle.bridge.proofs.Refusals as bridge_refusals
use Rattle.bridge.proofs.Goodness as bridge_goodness
use Rattle.salvage.specs.Picking as picking
use Rattle.salvage.specs.Picking.{most_words, marked_format, long_log}
use Rattle.salvage.specs.Promises as salvage
use Rattle.salvage.specs.declared.Picked.{Picked}
use Rattle.salvage.proofs.Picks as salvage_answers
use Rattle.salvage.proofs.Refusals as salvage_refusals
use Rattle.readback.specs.Steps as readbacks
use Rattle.readback.specs.Pieces as readback_pieces
use Rattle.readback.specs.Pieces.{faulty_line}
use Rattle.readback.specs.Rewriting as readback_rewriting
use Rattle.readback.specs.Rewriting.{too_wide}
use Rattle.readback.specs.Promises as readback
use Rattle.readback.specs.declared.Readback.{Readback}
use Rattle.readback.specs.declared.Back.{Back}
use Rattle.readback.specs.declared.Rewritten.{Rewritten}
use Rattle.readback.proofs.Answers as readback_answers
use Rattle.readback.proofs.Refusals as readback_refusals
use Rattle.readback.proofs.SameItems as readback_rewrites
use Rattle.salvaged.specs.Promises as salvaged
use Rattle.salvaged.proofs.Whole as salvaged_answers
use Rattle.driver.specs.Feeding as drivers
use Rattle.driver.specs.Promises as driver
use Rattle.driver.specs.declared.Driver.{Driver}
use Rattle.driver.specs.Promises.{Driven}
use Rattle.driver.proofs.Answers as driver_answers
use Rattle.driver.proofs.Refusals as driver_refusals

-- "Every public entry takes every event, line word, state and buffer and ends with an answer": that it takes every argument and ends is the check
-- of the function itself, which has no condition. Its answer is one: two that the promise permits are equal, and with them every number of a lent slice.
abbrev pub One : {A : Type 0} → (A → Type 0) → Type 0
One {A} Permitted = (a b : A) → Permitted a → Permitted b → a ≡ b

abbrev pub OneWith : {A S : Type 0} → (A → S → Type 0) → Type 0
OneWith {A} {S} Permitted = (a b : A) (after behind : S) → Permitted a after → Permitted b behind → (a ≡ b) × (after ≡ behind)

-- Some promises speak of a record, which the contract reads of what the function gives. It tells what is given apart, so that is one as well.
pub one_by : {A R : Type 0} (told : A → R) {Permitted : R → Type 0} → ((a b : A) → told a ≡ told b → a ≡ b) → One Permitted → One (λ a. Permitted (told a))
one_by told apart one a b p q = apart a b (one (told a) (told b) p q)

pub one_with_by : {A R S : Type 0} (told : A → R) {Permitted : R → S → Type 0}
    → ((a b : A) → told a ≡ told b → a ≡ b)
    → OneWith Permitted
    → OneWith (λ a. Permitted (told a))
one_with_by told apart one a b after behind p q = let e = one (told a) (told b) after behind p q in (apart a b e.0, e.1)

-- `wire::known`, `size`, `marked`, `fits`, `report_of`, `encode`, `number_in`, `length_in`, `Refusal::number`
pub known_one : (letter : ℕ) → One (KnownPromise letter)
known_one letter a b = wire.one_known letter

pub size_one : (letter : ℕ) → One (SizePromise letter)
size_one letter a b = wire.one_size letter

pub marked_one : (letter : ℕ) → One (MarkedPromise letter)
marked_one letter a b = wire.one_marked letter

pub fits_one : (letter place byte : ℕ) → One (FitsPromise letter place byte)
fits_one letter place byte a b = wire.one_fits letter place byte

pub report_one : (letter : ℕ) (bytes : List ℕ) → One (ReportPromise letter bytes)
report_one letter bytes a b = wire.one_report letter bytes

pub encode_one : (letter : ℕ) (r : Report) (before : List ℕ) → OneWith (EncodePromise letter r before)
encode_one letter r before a b after behind = wire.one_encoding letter r before

pub refusal_one : {A : Type 0} (given : Result A Refusal) → One (RefusalPromise given)
refusal_one given a b = wire.one_refusal given

pub refusal_number_one : (r : Refusal) → One (encoder.NumberPromise r)
refusal_number_one r a b = wire.one_number r

pub length_one : (encoded : Encoded) → One (LengthPromise encoded)
length_one encoded a b = wire.one_length encoded

-- `Reader::fresh`, `good`, `step`, `read`, `answers`
pub fresh_reader_one : (letter : ℕ) → One (reader.FreshPromise letter)
fresh_reader_one = permitted.one_fresh

pub good_reader_one : (r : Reader) → One (reader.GoodPromise r)
good_reader_one = permitted.one_good

pub read_word_one : (r : Reader) (w : ℕ) → One (reader.StepPromise r w)
read_word_one = permitted.one_step

pub read_line_one : (r : Reader) (words : List ℕ) (out : List ℤ) → OneWith (ReadPromise r words out)
read_line_one = permitted.one_read

pub answers_one : (r : Reader) (words : List ℕ) (out : List ℤ) → OneWith (AnswersPromise r words out)
answers_one = permitted.one_answers

-- and of what they give
pub fresh_reader_given_one : (letter : ℕ) → One (λ n. reader.FreshPromise letter (new_in n))
fresh_reader_given_one letter = one_by new_in permitted.new_apart (fresh_reader_one letter)

pub read_word_given_one : (r : Reader) (w : ℕ) → One (λ s. reader.StepPromise r w (read_in r s))
read_word_given_one r w = one_by (read_in r) (permitted.read_apart r) (read_word_one r w)

pub read_line_given_one : (r : Reader) (words : List ℕ) (out : List ℤ) → OneWith (λ a. ReadPromise r words out (reading_in a))
read_line_given_one r words out = one_with_by reading_in permitted.reading_apart (read_line_one r words out)

pub answers_given_one : (r : Reader) (words : List ℕ) (out : List ℤ) → OneWith (λ a. AnswersPromise r words out (answers_by a))
answers_given_one r words out = one_with_by answers_by permitted.answers_apart (answers_one r words out)

-- `Port::fresh`, `clearing`, `byte`, `quiet`, `lost`, `bytes`
pub fresh_port_one : (silence : ℕ) → One (port.FreshPromise silence)
fresh_port_one = port_answers.one_fresh

pub clearing_port_one : (silence : ℕ) → One (port.ClearingPromise silence)
clearing_port_one = port_answers.one_clearing

pub port_byte_one : (p : Port) (byte : ℕ) → One (port.BytePromise p byte)
port_byte_one = port_answers.one_byte

pub port_quiet_one : (p : Port) (wait : ℕ) → One (port.QuietPromise p wait)
port_quiet_one = port_answers.one_quiet

pub port_lost_one : (p : Port) → One (port.LostPromise p)
port_lost_one = port_answers.one_lost

pub port_bytes_one : (p : Port) (raw before : List ℕ) → OneWith (port.BytesPromise p raw before)
port_bytes_one = port_answers.one_bytes

-- `Watch::fresh`, `knowing`, `heard`, `over`
pub fresh_watch_one : One watch.FreshPromise
fresh_watch_one = watch_answers.one_fresh

pub knowing_watch_one : (buttons : ℕ) → One (watch.KnowingPromise buttons)
knowing_watch_one = watch_answers.one_knowing

pub watch_heard_one : (w : Watch) (r : Report) → One (watch.HeardPromise w r)
watch_heard_one = watch_answers.one_heard

pub watch_over_one : (w : Watch) (numbers : List ℤ) → One (watch.OverPromise w numbers)
watch_over_one = watch_answers.one_over

-- `BallBox::fresh`, `good`, `step`
pub fresh_box_one : One box.FreshPromise
fresh_box_one = box_answers.one_fresh

pub good_box_one : (b : BallBox) → One (box.GoodPromise b)
good_box_one = box_answers.one_good

pub box_step_one : (b : BallBox) (e : Event) → One (box.StepPromise b e)
box_step_one = box_answers.one_step

-- `Lister::fresh`, `feed`, `finish`
pub fresh_lister_one : One lister.FreshPromise
fresh_lister_one a b = listing.one_fresh

pub feed_one : (m : Lister) (input before : List ℕ) → OneWith (FeedPromise m input before)
feed_one m input before a b after behind = listing.one_feed m input before

pub finish_one : (m : Lister) (before : List ℕ) → OneWith (FinishPromise m before)
finish_one m before a b after behind = listing.one_finish m before

pub feed_given_one : (m : Lister) (input before : List ℕ) → OneWith (λ a. FeedPromise m input before (lister.listed_in a))
feed_given_one m input before = one_with_by lister.listed_in listing.listed_apart (feed_one m input before)

pub finish_given_one : (m : Lister) (before : List ℕ) → OneWith (λ a. FinishPromise m before (lister.listed_in a))
finish_given_one m before = one_with_by lister.listed_in listing.listed_apart (finish_one m before)

-- `Text::none`, `with`, `decimal`, `put`, `byte_to`, `bytes_to`, `decimal_to`, and `number`
pub no_text_one : One NonePromise
no_text_one a b = text.one_none

pub with_one : (t : Text) (byte : ℕ) → One (WithPromise t byte)
with_one t byte a b = text.one_with t byte

pub decimal_one : (t : Text) (width : ℕ) (x : ℤ) → One (DecimalPromise t width x)
decimal_one t width x a b = text.one_decimal t width x

pub number_one : (bytes : List ℕ) (width : ℕ) → One (NumberPromise bytes width)
number_one bytes width a b = text.one_number bytes width

pub length_to_one : (bytes : List ℕ) (stop : ℕ) → One (LengthToPromise bytes stop)
length_to_one bytes stop a b = text.one_length_to bytes stop

pub put_one : (t : Text) (at : ℕ) (before : List ℕ) → OneWith (PutPromise t at before)
put_one t at before a b after behind = text.one_put t at before

pub byte_to_one : (before : List ℕ) (at byte : ℕ) → OneWith (ByteToPromise before at byte)
byte_to_one before at byte a b after behind = text.one_byte_to before at byte

pub bytes_to_one : (before : List ℕ) (at : ℕ) (bytes : List ℕ) → OneWith (BytesToPromise before at bytes)
bytes_to_one before at bytes a b after behind = text.one_bytes_to before at bytes

pub decimal_to_one : (before : List ℕ) (at width : ℕ) (x : ℤ) → OneWith (DecimalToPromise before at width x)
decimal_to_one before at width x a b after behind = text.one_decimal_to before at width x

-- a refusal by whether the state is good
by_goodness : {A : Type 0} {number : A → ℕ} {bad a : A} (good : Bool)
    → (good ≡ true → number a ≡ success)
    → (good ≡ false → a ≡ bad)
    → RefusesRightly number (bad ∷ []) a
by_goodness true h k = accepted (h refl)
by_goodness false h k = refusal (here (k refl))

-- "A refusal has a number from the list, hands back the old state and writes nothing": all that a call leaves is no refusal, or it is one of those
-- named here. Of the encoder: 1, 3, then 8, 9, 10 or 11, and 5, which tell no length and leave the buffer.
pub encode_refusals : (letter : ℕ) (r : Report) (before after : List ℕ) (a : Encoded)
    → EncodePromise letter r before a after
    → RefusesRightly (λ (e : Encoding). e.refusal) (encoder.unwritten before) (encoding.outcome a after)
encode_refusals = wire_refusals.refusals

pub encode_refused : (letter : ℕ) (r : Report) (before after : List ℕ) (a : Encoded)
    → EncodePromise letter r before a after
    → (refusal_of a ≡ success → ⊥)
    → (length_of a ≡ 0) × (after ≡ before)
encode_refused = wire.refusal_leaves

-- of a new reader: 1, with "a fresh one of U"
pub fresh_reader_refusals : (letter : ℕ) (a : NewReader)
    → reader.FreshPromise letter a
    → RefusesRightly (λ (n : NewReader). n.refusal) (new_reader bad_letter (fresh (letter_of FiveByte)) ∷ []) a
fresh_reader_refusals = refusals.fresh_refusals

-- of a reader given a word: 6 and 4, with the reader as it was and no answer
pub read_word_refusals : (r : Reader) (w : ℕ) (s : Read)
    → reader.StepPromise r w s
    → RefusesRightly (λ (s : Read). s.refusal) (refusing bad_state r ∷ refusing bad_word r ∷ []) s
read_word_refusals = refusals.step_refusals

-- of a reader given many words: 6, with the reader and the slice as they were and counts of 0; and 4, with all as the words before the bad one leave it
pub read_line_refusals : (r : Reader) (words : List ℕ) (out : List ℤ) (a : Reading) (after : List ℤ)
    → ReadPromise r words out a after
    → RefusesRightly (λ (l : Long). l.refusal) (stopped reads_line bad_state r out ∷ before_bad r words out a ∷ []) (whole a after)
read_line_refusals = refusals.read_refusals

pub answers_refusals : (r : Reader) (words : List ℕ) (out : List ℤ) (a : Answers) (after : List ℤ)
    → AnswersPromise r words out a after
    → RefusesRightly (λ (t : Told). t.refusal) (stopped tells_line bad_state r out ∷ told_before_bad r words out a ∷ []) (told a after)
answers_refusals = refusals.answers_refusals

-- of the box: 6 and 3, with the box as it was and no word
pub box_step_refusals : (b : BallBox) (e : Event) (r : Stepped)
    → box.StepPromise b e r
    → RefusesRightly (λ (s : Step). s.refusal) (refused bad_state b ∷ refused bad_buttons b ∷ []) (outcome r)
box_step_refusals = box_refusals.refusals

-- of the lister: 6, with the lister and the slice as they were and counts of 0
pub feed_refusals : (m : Lister) (input before after : List ℕ) (a : Listed)
    → FeedPromise m input before a after
    → RefusesRightly (λ (w : Whole). w.listed.refusal) (lister.refused m before ∷ []) (lister.whole a after)
feed_refusals m input before after a p =
    by_goodness (listers.good m) (λ g. listing_refusals.good_feed m input before after a g p) (λ g. listing_refusals.bad_state_feed m input before after a g p)

pub finish_refusals : (m : Lister) (before after : List ℕ) (a : Listed)
    → FinishPromise m before a after
    → RefusesRightly (λ (w : Whole). w.listed.refusal) (lister.refused m before ∷ []) (lister.whole a after)
finish_refusals m before after a p =
    by_goodness (listers.good m) (λ g. listing_refusals.good_finish m before after a g p) (λ g. listing_refusals.bad_state_finish m before after a g p)

-- a text has no refusal: where there is no room for it, it is not put, and nothing is written
pub put_leaves : (t : Text) (at : ℕ) (before after : List ℕ) → PutPromise t at before false after → after ≡ before
put_leaves = text.put_leaves

-- Which of them it is: "Tested in that order, where they apply". The encoder tests 1, 3, then 8, 9, 10 or 11, and then 5.
pub encode_bad_letter : (letter : ℕ) (r : Report) (before after : List ℕ) (a : Encoded)
    → named_by letter ≡ None
    → EncodePromise letter r before a after
    → (a ≡ Err NoSuchLetter) × (after ≡ before)
encode_bad_letter = wire.letter_refused

pub encode_bad_buttons : (f : Format) (r : Report) (before after : List ℕ) (a : Encoded)
    → 7 < r.buttons
    → EncodePromise (letter_of f) r before a after
    → (a ≡ Err ButtonsAboveSeven) × (after ≡ before)
encode_bad_buttons = wire.buttons_refused

pub encode_bad_movement : (f : Format) (r : Report) (before after : List ℕ) (a : Encoded)
    → r.buttons ≤ 7
    → holds f r ≡ false
    → EncodePromise (letter_of f) r before a after
    → encoding.outcome a after ≡ encoding.refused (encoding.unheld_number (unheld f r)) before
encode_bad_movement = wire.movement_refused

pub encode_short_buffer : (f : Format) (r : Report) (before after : List ℕ) (a : Encoded)
    → holding.accepted f r ≡ true
    → length before < size_of f
    → EncodePromise (letter_of f) r before a after
    → (a ≡ Err BufferTooShort) × (after ≡ before)
encode_short_buffer = wire.room_refused

-- the reader tests 1 where it is new, and else 6 and then 4
pub fresh_reader_refused : (letter : ℕ) (a : NewReader)
    → known letter ≡ false
    → reader.FreshPromise letter a
    → a ≡ new_reader bad_letter (fresh (letter_of FiveByte))
fresh_reader_refused = refusals.unknown_letter

pub read_word_bad_state : (r : Reader) (w : ℕ) (s : Read)
    → readers.good r ≡ false
    → reader.StepPromise r w s
    → s ≡ refusing bad_state r
read_word_bad_state = refusals.bad_state_lem

pub read_word_bad_word : (r : Reader) (w : ℕ) (s : Read)
    → readers.good r ≡ true
    → silence < w
    → reader.StepPromise r w s
    → s ≡ refusing bad_word r
read_word_bad_word = refusals.bad_word_lem

pub read_line_bad_state : (r : Reader) (words : List ℕ) (out : List ℤ) (a : Reading) (after : List ℤ)
    → readers.good r ≡ false
    → ReadPromise r words out a after
    → whole a after ≡ stopped reads_line bad_state r out
read_line_bad_state = refusals.bad_state_read

pub read_line_ends : (r : Reader) (words : List ℕ) (out : List ℤ) (a : Reading) (after : List ℤ)
    → readers.good r ≡ true
    → ReadPromise r words out a after
    → (a.refusal ≡ success) ⊎ ((a.refusal ≡ bad_word) × (silence < get_or words a.taken 0))
read_line_ends = refusals.read_ends

pub answers_bad_state : (r : Reader) (words : List ℕ) (out : List ℤ) (a : Answers) (after : List ℤ)
    → readers.good r ≡ false
    → AnswersPromise r words out a after
    → told a after ≡ stopped tells_line bad_state r out
answers_bad_state = refusals.bad_state_answers

pub answers_end : (r : Reader) (words : List ℕ) (out : List ℤ) (a : Answers) (after : List ℤ)
    → readers.good r ≡ true
    → AnswersPromise r words out a after
    → (a.refusal ≡ success) ⊎ ((a.refusal ≡ bad_word) × (silence < get_or words a.taken 0))
answers_end = refusals.answers_end

-- the box tests 6 and then 3
pub box_step_bad_state : (b : BallBox) (e : Event) (r : Stepped)
    → box.StepPromise b e r
    → boxes.good b ≡ false
    → outcome r ≡ refused bad_state b
box_step_bad_state = box_refusals.bad_state_lem

pub box_step_bad_buttons : (b : BallBox) (n : ℕ) (r : Stepped)
    → box.StepPromise b (Buttons n) r
    → boxes.good b ≡ true
    → 7 < n
    → outcome r ≡ refused bad_buttons b
box_step_bad_buttons = box_refusals.bad_buttons_lem

-- the lister tests 6, and refuses none that is good
pub feed_bad_state : (m : Lister) (input before after : List ℕ) (a : Listed)
    → listers.good m ≡ false
    → FeedPromise m input before a after
    → lister.whole a after ≡ lister.refused m before
feed_bad_state = listing_refusals.bad_state_feed

pub finish_bad_state : (m : Lister) (before after : List ℕ) (a : Listed)
    → listers.good m ≡ false
    → FinishPromise m before a after
    → lister.whole a after ≡ lister.refused m before
finish_bad_state = listing_refusals.bad_state_finish

pub feed_accepts : (m : Lister) (input before after : List ℕ) (a : Listed)
    → listers.good m ≡ true
    → FeedPromise m input before a after
    → a.refusal ≡ success
feed_accepts = listing_refusals.good_feed

pub finish_accepts : (m : Lister) (before after : List ℕ) (a : Listed)
    → listers.good m ≡ true
    → FinishPromise m before a after
    → a.refusal ≡ success
finish_accepts = listing_refusals.good_finish

-- "a reader given many words does all before the bad one and stops there": 4 is the outcome of the words before it, but for the number
pub read_line_bad_word : (r : Reader) (p q : List ℕ) (w : ℕ) (out : List ℤ) (a b : Reading) (x y : List ℤ)
    → readers.good r ≡ true
    → silence < w
    → ReadPromise r p out b y
    → b.taken ≡ length p
    → ReadPromise r (p ++ w ∷ q) out a x
    → whole a x ≡ with_refusal bad_word (whole b y)
read_line_bad_word = refusals.bad_word_read

-- no state that these entries give is ever refused
pub fresh_reader_good : (letter : ℕ) (a : NewReader)
    → reader.FreshPromise letter a
    → readers.good a.reader ≡ true
fresh_reader_good = goodness.fresh_is_good

pub reader_stays_good : (r : Reader) (w : ℕ) (s : Read)
    → readers.good r ≡ true
    → reader.StepPromise r w s
    → (readers.good s.next ≡ true) × (s.next.format ≡ r.format)
reader_stays_good = goodness.step_stays_good

pub read_stays_good : (r : Reader) (words : List ℕ) (out : List ℤ) (a : Reading) (after : List ℤ)
    → readers.good r ≡ true
    → ReadPromise r words out a after
    → (readers.good a.next ≡ true) × (a.next.format ≡ r.format)
read_stays_good = goodness.read_stays_good

pub answers_stay_good : (r : Reader) (words : List ℕ) (out : List ℤ) (a : Answers) (after : List ℤ)
    → readers.good r ≡ true
    → AnswersPromise r words out a after
    → (readers.good a.next ≡ true) × (a.next.format ≡ r.format)
answers_stay_good = goodness.answers_stay_good

pub fresh_box_good : (b : BallBox) → box.FreshPromise b → boxes.good b ≡ true
fresh_box_good = box_goodness.fresh_is_good

pub box_stays_good : (b : BallBox) (e : Event) (r : Stepped)
    → box.StepPromise b e r
    → boxes.good b ≡ true
    → boxes.good r.next ≡ true
box_stays_good = box_goodness.step_stays_good

pub fresh_lister_good : (m : Lister) → lister.FreshPromise m → listers.good m ≡ true
fresh_lister_good = listing_refusals.fresh_is_good

pub feed_stays_good : (m : Lister) (input before after : List ℕ) (a : Listed)
    → listers.good m ≡ true
    → FeedPromise m input before a after
    → listers.good a.next ≡ true
feed_stays_good = calls.next_good

pub finish_stays_good : (m : Lister) (before after : List ℕ) (a : Listed)
    → listers.good m ≡ true
    → FinishPromise m before a after
    → listers.good a.next ≡ true
finish_stays_good = listing_refusals.finish_stays_good

-- `Scanner::byte`, `closed`, `end`, `Item::reported`, `Item::line`, `line_at` and `salvage_opening`, which refuse
-- nothing: one answer
pub byte_scan_one : (s : Scanner) (byte : ℕ) → One (lister.ByteScanPromise s byte)
byte_scan_one s byte a b = listing.one_byte_scan s byte

pub closed_scan_one : (s : Scanner) → One (lister.ClosedScanPromise s)
closed_scan_one s a b = listing.one_closed_scan s

pub end_scan_one : (s : Scanner) → One (lister.EndScanPromise s)
end_scan_one s a b = listing.one_end_scan s

pub reported_one : (letter n : ℕ) (r : Report) → One (lister.ReportedPromise letter n r)
reported_one letter n r a b = listing.one_reported letter n r

pub item_line_one : (item : Item) → One (lister.ItemLinePromise item)
item_line_one item a b = listing.one_item_line item

pub line_number_one : (item : Item) → One (lister.LineNumberPromise item)
line_number_one item a b = listing.one_line_number item

pub given_line_one : (given : Option Item) (salvage : Bool) (width : ℕ) → One (lister.LinePromise given salvage width)
given_line_one given salvage width a b = listing.one_line given salvage width

pub salvage_opening_one : One lister.SalvagePromise
salvage_opening_one a b = listing.one_salvage

-- `Yard::fresh`, `Yard::step`, `yard::check`: one answer
pub fresh_yard_one : (letter : ℕ) → One (yard.FreshPromise letter)
fresh_yard_one letter = yard_answers.one_fresh letter

pub yard_step_one : (y : Yard) (w : ℕ) → One (yard.StepPromise y w)
yard_step_one y w = yard_answers.one_step y w

pub check_one : (letter : ℕ) (words : List ℕ) → One (yard.CheckPromise letter words)
check_one letter words = yard_answers.one_check letter words

-- their refusals: 1, with a check of U; 6 and then 4, with the check as it was; 1 and then 4, wherever the word stands, with counts of 0
pub fresh_yard_refusals : (letter : ℕ) (a : NewYard) → yard.FreshPromise letter a → yard.FreshRefusal a
fresh_yard_refusals = yard_refusals.fresh_refusal

pub yard_step_refusals : (y : Yard) (w : ℕ) (a : Judged) → yard.StepPromise y w a → yard.StepRefusal y a
yard_step_refusals = yard_refusals.step_refusal

pub check_refusals : (letter : ℕ) (words : List ℕ) (a : Checked) → yard.CheckPromise letter words a → yard.CheckRefusal a
check_refusals = yard_refusals.check_refusal

pub yard_step_bad_state : (y : Yard) (w : ℕ) (a : Judged)
    → yards.good y ≡ false
    → yard.StepPromise y w a
    → a ≡ yard_rules.refusing bad_state y
yard_step_bad_state = yard_refusals.bad_state_lem

pub yard_step_bad_word : (y : Yard) (w : ℕ) (a : Judged)
    → yards.good y ≡ true
    → silence < w
    → yard.StepPromise y w a
    → a ≡ yard_rules.refusing bad_word y
yard_step_bad_word = yard_refusals.bad_word_lem

pub check_bad_letter : (letter : ℕ) (words : List ℕ) (a : Checked)
    → known letter ≡ false
    → yard.CheckPromise letter words a
    → a ≡ yard_log.refused bad_letter
check_bad_letter = yard_refusals.unknown_check

pub check_bad_word : (letter : ℕ) (front : List ℕ) (w : ℕ) (behind : List ℕ) (a : Checked)
    → known letter ≡ true
    → silence < w
    → yard.CheckPromise letter (front ++ w ∷ behind) a
    → a ≡ yard_log.refused bad_word
check_bad_word = yard_refusals.anywhere

-- and no check that they give is ever refused
pub fresh_yard_good : (letter : ℕ) (a : NewYard) → yard.FreshPromise letter a → yards.good a.yard ≡ true
fresh_yard_good = yard_goodness.fresh_is_good

pub yard_stays_good : (y : Yard) (w : ℕ) (a : Judged)
    → yards.good y ≡ true
    → yard.StepPromise y w a
    → (yards.good a.next ≡ true) × (a.next.format ≡ y.format)
yard_stays_good = yard_goodness.step_stays_good

-- `Bridge::fresh`, `good`, `convert`: one answer
pub fresh_bridge_one : (letter : ℕ) → One (bridge.FreshPromise letter)
fresh_bridge_one = bridge_answers.one_fresh

pub good_bridge_one : (b : Bridge) → One (bridge.GoodPromise b)
good_bridge_one = bridge_answers.one_good

pub convert_one : (b : Bridge) (words before : List ℕ) → OneWith (bridge.ConvertPromise b words before)
convert_one = bridge_answers.one_convert

pub fresh_bridge_given_one : (letter : ℕ) → One (λ n. bridge.FreshPromise letter (bridge.new_in n))
fresh_bridge_given_one letter = one_by bridge.new_in bridge_answers.new_apart (fresh_bridge_one letter)

pub convert_given_one : (b : Bridge) (words before : List ℕ) → OneWith (λ a. bridge.ConvertPromise b words before (bridge_line.converted_in a))
convert_given_one b words before = one_with_by bridge_line.converted_in bridge_answers.converted_apart (convert_one b words before)

-- its refusals: 1, with a bridge of U; 6, with the bridge and the slice as they were and counts of 0; and 4, with all as the words before the bad one leave it
pub fresh_bridge_refusals : (letter : ℕ) (a : NewBridge) → bridge.FreshPromise letter a → bridge.FreshRefusal a
fresh_bridge_refusals = bridge_refusals.fresh_refusals

pub convert_refusals : (b : Bridge) (words before : List ℕ) (a : Converted) (after : List ℕ)
    → bridge.ConvertPromise b words before a after
    → bridge.ConvertRefusal b words before a after
convert_refusals = bridge_refusals.convert_refusals

-- it tests 1 where it is new, and else 6 and then 4
pub fresh_bridge_refused : (letter : ℕ) (a : NewBridge)
    → known letter ≡ false
    → bridge.FreshPromise letter a
    → a ≡ record { refusal = bad_letter; bridge = bridge.with_none (fresh (letter_of FiveByte)) }
fresh_bridge_refused = bridge_refusals.unknown_letter

pub convert_bad_state : (b : Bridge) (words before : List ℕ) (a : Converted) (after : List ℕ)
    → bridges.good b ≡ false
    → bridge.ConvertPromise b words before a after
    → bridge_line.whole a after ≡ stopped bridge_line.converts bad_state b before
convert_bad_state = bridge_refusals.bad_state_lem

pub convert_ends : (b : Bridge) (words before : List ℕ) (a : Converted) (after : List ℕ)
    → bridges.good b ≡ true
    → bridge.ConvertPromise b words before a after
    → (a.refusal ≡ success) ⊎ ((a.refusal ≡ bad_word) × (silence < get_or words a.taken 0))
convert_ends = bridge_refusals.convert_ends

pub convert_bad_word : (b : Bridge) (p q : List ℕ) (w : ℕ) (before : List ℕ) (s t : Converted) (x y : List ℕ)
    → bridges.good b ≡ true
    → silence < w
    → bridge.ConvertPromise b p before t y
    → t.taken ≡ length p
    → bridge.ConvertPromise b (p ++ w ∷ q) before s x
    → bridge_line.whole s x ≡ with_refusal bad_word (bridge_line.whole t y)
convert_bad_word = bridge_refusals.bad_word_lem

-- and no bridge that it gives is ever refused
pub fresh_bridge_good : (letter : ℕ) (a : NewBridge) → bridge.FreshPromise letter a → bridges.good a.bridge ≡ true
fresh_bridge_good = bridge_goodness.fresh_is_good

pub convert_stays_good : (b : Bridge) (words before : List ℕ) (a : Converted) (after : List ℕ)
    → bridges.good b ≡ true
    → bridge.ConvertPromise b words before a after
    → (bridges.good a.next ≡ true) × (a.next.reader.format ≡ b.reader.format)
convert_stays_good = bridge_goodness.convert_stays_good

-- `salvage::starts`, `pick`: one answer
pub starts_one : (letter : ℕ) (words : List ℕ) → One (salvage.StartsPromise letter words)
starts_one letter words a b = salvage_answers.one_starts letter words

pub pick_one : (letter : ℕ) (words before : List ℕ) → OneWith (salvage.PickPromise letter words before)
pick_one letter words before a b after behind = salvage_answers.one_pick letter words before

-- its refusals: 1, 13, 14 and then 4, with the slice as it was and counts of 0
pub pick_refusals : (letter : ℕ) (words before after : List ℕ) (a : Picked)
    → salvage.PickPromise letter words before a after
    → salvage.PickRefusal before (picking.whole a after)
pick_refusals = salvage_refusals.refusals

module _ (letter : ℕ) (words before after : List ℕ) (a : Picked) (promise : salvage.PickPromise letter words before a after) where
  pub pick_bad_letter : known letter ≡ false
      → picking.whole a after ≡ picking.refused bad_letter before
  pick_bad_letter k = salvage_refusals.refused_with letter words before after a bad_letter (salvage_refusals.unknown_first letter words k) refl promise

  pub pick_marked : known letter ≡ true
      → marked_by letter ≡ true
      → picking.whole a after ≡ picking.refused marked_format before
  pick_marked k m = salvage_refusals.refused_with letter words before after a marked_format (salvage_refusals.marked_second letter words k m) refl promise

  pub pick_long : known letter ≡ true
      → marked_by letter ≡ false
      → most_words < length words
      → picking.whole a after ≡ picking.refused long_log before
  pick_long k m l = salvage_refusals.refused_with letter words before after a long_log (salvage_refusals.long_third letter words k m l) refl promise

  pub pick_bad_word : known letter ≡ true
      → marked_by letter ≡ false
      → length words ≤ most_words
      → line_words words ≡ false
      → picking.whole a after ≡ picking.refused bad_word before
  pick_bad_word k m l w = salvage_refusals.refused_with letter words before after a bad_word (salvage_refusals.word_fourth letter words k m l w) refl promise

-- `Readback::fresh`, `read`, `finish`, `rewrite`: one answer
pub fresh_readback_one : One readback.FreshPromise
fresh_readback_one a b = readback_answers.one_fresh

pub readback_one : (r : Readback) (input : List ℕ) (before : List ℤ) → OneWith (readback.ReadPromise r input before)
readback_one r input before a b after behind = readback_answers.one_read r input before

pub readback_finish_one : (r : Readback) (left : ℕ) → One (readback.FinishPromise r left)
readback_finish_one r left a b = readback_answers.one_finish r left

pub rewrite_one : (r : Readback) (input before : List ℕ) → OneWith (readback.RewritePromise r input before)
rewrite_one r input before a b after behind = readback_answers.one_rewrite r input before

-- it tests 6, with the reader and the slice as they were and counts of 0, and then 7, and where it rewrites 7 or 15, whichever comes first
pub readback_bad_state : (r : Readback) (piece : List ℕ) (before after : List ℤ) (a : Back)
    → readbacks.good r ≡ false
    → readback.ReadPromise r piece before a after
    → readback_pieces.whole a after ≡ readback_pieces.whole (readback.refused r) before
readback_bad_state = readback_refusals.bad_state_read

pub readback_ends : (r : Readback) (piece : List ℕ) (before after : List ℤ) (a : Back)
    → readbacks.good r ≡ true
    → readback.ReadPromise r piece before a after
    → (a.refusal ≡ success) ⊎ (a.refusal ≡ faulty_line)
readback_ends = readback_refusals.good_read

pub readback_finish_bad_state : (r : Readback) (left : ℕ) (a : Back)
    → readbacks.good r ≡ false
    → readback.FinishPromise r left a
    → a ≡ readback.refused r
readback_finish_bad_state = readback_refusals.bad_state_finish

pub readback_finish_ends : (r : Readback) (left : ℕ) (a : Back)
    → readbacks.good r ≡ true
    → readback.FinishPromise r left a
    → (a.refusal ≡ success) ⊎ (a.refusal ≡ faulty_line)
readback_finish_ends = readback_refusals.good_finish

pub rewrite_bad_state : (r : Readback) (piece before after : List ℕ) (a : Rewritten)
    → readbacks.good r ≡ false
    → readback.RewritePromise r piece before a after
    → readback_rewriting.rewriting a after ≡ readback_rewriting.rewriting (readback_rewriting.rewritten bad_state r 0 0 0) before
rewrite_bad_state = readback_rewrites.bad_state_rewrite

pub rewrite_ends : (r : Readback) (piece before after : List ℕ) (a : Rewritten)
    → readbacks.good r ≡ true
    → readback.RewritePromise r piece before a after
    → (a.refusal ≡ success) ⊎ (a.refusal ≡ faulty_line) ⊎ (a.refusal ≡ too_wide)
rewrite_ends = readback_rewrites.good_rewrite

-- 7 and 15 are to these what 4 is to a long read: what comes back is as it stood before the line, that is what a call
-- of the bytes taken gives, but for the number and the line; an end that is missing leaves the reader as it was
pub readback_as_before : (r : Readback) (piece : List ℕ) (before after rest : List ℤ) (a b : Back)
    → readbacks.good r ≡ true
    → readback.ReadPromise r piece before a after
    → readback.ReadPromise r (take a.taken piece) before b rest
    → readback_pieces.whole b rest ≡ readback_pieces.faultless (readback_pieces.whole a after)
readback_as_before = readback_refusals.as_before

pub rewrite_as_before : (r : Readback) (piece before after rest : List ℕ) (a b : Rewritten)
    → readbacks.good r ≡ true
    → readback.RewritePromise r piece before a after
    → readback.RewritePromise r (take a.taken piece) before b rest
    → readback_rewriting.rewriting b rest ≡ readback_pieces.faultless (readback_rewriting.rewriting a after)
rewrite_as_before = readback_rewrites.rewrite_as_before

pub readback_finish_refusals : (r : Readback) (left : ℕ) (a : Back)
    → readback.FinishPromise r left a
    → RefusesRightly (λ (b : Back). b.refusal) (readback.refused r ∷ readback_pieces.back faulty_line r 0 0 (r.lines + 1) ∷ []) a
readback_finish_refusals = readback_refusals.finish_refusals

-- `salvaged::list`, which refuses nothing: one answer
pub salvage_list_one : (input before : List ℕ) → OneWith (salvaged.ListPromise input before)
salvage_list_one input before a b after behind = salvaged_answers.one_list input before

-- `Driver::fresh`, `feed`, `finish`: one answer; 6 alone, with the driver and the slice as they were and counts of 0;
-- and no driver that they give is ever refused
pub fresh_driver_one : One driver.FreshPromise
fresh_driver_one a b = driver_answers.one_fresh

pub drive_one : (m : Driver) (input before : List ℕ) → OneWith (driver.FeedPromise m input before)
drive_one m input before a b after behind = driver_answers.one_feed m input before

pub drive_finish_one : (m : Driver) (before : List ℕ) → OneWith (driver.FinishPromise m before)
drive_finish_one m before a b after behind = driver_answers.one_finish m before

pub drive_given_one : (m : Driver) (input before : List ℕ) → OneWith (λ a. driver.FeedPromise m input before (driver.driven_in a))
drive_given_one m input before = one_with_by driver.driven_in driver_answers.driven_apart (drive_one m input before)

pub drive_finish_given_one : (m : Driver) (before : List ℕ) → OneWith (λ a. driver.FinishPromise m before (driver.driven_in a))
drive_finish_given_one m before = one_with_by driver.driven_in driver_answers.driven_apart (drive_finish_one m before)

pub drive_bad_state : (m : Driver) (input before after : List ℕ) (a : Driven)
    → drivers.good m ≡ false
    → driver.FeedPromise m input before a after
    → driver.whole a after ≡ driver.refused m before
drive_bad_state = driver_refusals.bad_state_feed

pub drive_finish_bad_state : (m : Driver) (before after : List ℕ) (a : Driven)
    → drivers.good m ≡ false
    → driver.FinishPromise m before a after
    → driver.whole a after ≡ driver.refused m before
drive_finish_bad_state = driver_refusals.bad_state_finish

pub drive_accepts : (m : Driver) (input before after : List ℕ) (a : Driven)
    → drivers.good m ≡ true
    → driver.FeedPromise m input before a after
    → a.refusal ≡ success
drive_accepts = driver_refusals.good_feed

pub drive_finish_accepts : (m : Driver) (before after : List ℕ) (a : Driven)
    → drivers.good m ≡ true
    → driver.FinishPromise m before a after
    → a.refusal ≡ success
drive_finish_accepts = driver_refusals.good_finish

pub fresh_driver_good : (m : Driver) → driver.FreshPromise m → drivers.good m ≡ true
fresh_driver_good = driver_refusals.fresh_is_good

pub drive_stays_good : (m : Driver) (input before after : List ℕ) (a : Driven)
    → drivers.good m ≡ true
    → driver.FeedPromise m input before a after
    → drivers.good a.next ≡ true
drive_stays_good = driver_refusals.feed_stays_good

pub drive_finish_stays_good : (m : Driver) (before after : List ℕ) (a : Driven)
    → drivers.good m ≡ true
    → driver.FinishPromise m before a after
    → drivers.good a.next ≡ true
drive_finish_stays_good = driver_refusals.finish_stays_good
