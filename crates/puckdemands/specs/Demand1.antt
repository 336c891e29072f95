-- Demand 1 of the device and its reader: "Every public entry takes every event, line word, state and buffer and ends
-- with an answer. A refusal has a number from the list, hands back the old state and writes nothing; a reader given
-- many words does all before the bad one and stops there."
use Rattle.std.specs.Prelude.{ℕ, ◌*◌, ◌<◌, ◌≤◌, ◌≡◌, refl, Bool, true, false, List, [], ◌∷◌, ◌++◌, ◌⊎◌, length, drop, get_or, ℤ}
use Rattle.frames.specs.Words.{silence}
use Rattle.fold.specs.Calls.{stopped, unused, as_one, after}
use Rattle.wire.specs.Numbers.{success, bad_state, bad_buttons, bad_word}
use Rattle.ballbox.specs.declared.Event.{Event}
use Rattle.ballbox.specs.declared.Event.TheVariants.{Buttons}
use Rattle.puck.specs.Device.{refused}
use Rattle.puck.specs.Good as devices
use Rattle.puck.specs.Promises as puck
use Rattle.puck.specs.Promises.{outcome}
use Rattle.puck.specs.declared.Puck.{Puck}
use Rattle.puck.specs.declared.PuckStepped.{PuckStepped}
use Rattle.puck.proofs.Answers as device_answers
use Rattle.puck.proofs.Refusals as device_refusals
use Rattle.puck.proofs.Goodness as device_goodness
use Rattle.puckreader.specs.Rules.{refusing, read_in}
use Rattle.puckreader.specs.Good as readers
use Rattle.puckreader.specs.Line.{PuckReading, reports_in, reads_line, whole, Bounds, reading_in}
use Rattle.puckreader.specs.Promises as reader
use Rattle.puckreader.specs.declared.PuckReader.{PuckReader}
use Rattle.puckreader.specs.State.{PuckRead}
use Rattle.puckreader.proofs.Permitted as permitted
use Rattle.puckreader.proofs.Refusals as refusals
use Rattle.puckreader.proofs.Goodness as goodness
use Rattle.puckreader.proofs.Joining as joined
use Rattle.puckreader.proofs.Room as room
use Rattle.demands.specs.Demand1.{One, OneWith, one_by, one_with_by}
use Rattle.demands.specs.Refusals.{Tests, rightly}

-- `Puck::made`, `good`, `step`
pub made_one : (buttons revision maker : ℕ) (p q : Puck) → puck.MadePromise buttons revision maker p → puck.MadePromise buttons revision maker q → p ≡ q
made_one = device_answers.one_made

pub good_puck_one : (p : Puck) (s t : Bool) → puck.GoodPromise p s → puck.GoodPromise p t → s ≡ t
good_puck_one = device_answers.one_good

pub puck_step_one : (p : Puck) (e : Event) (r s : PuckStepped) → puck.StepPromise p e r → puck.StepPromise p e s → r ≡ s
puck_step_one = device_answers.one_step

-- `PuckReader::fresh`, `good`, `step`, `read`
pub fresh_one : (a b : PuckReader) → reader.FreshPromise a → reader.FreshPromise b → a ≡ b
fresh_one = permitted.one_fresh

pub good_reader_one : (r : PuckReader) (a b : Bool) → reader.GoodPromise r a → reader.GoodPromise r b → a ≡ b
good_reader_one = permitted.one_good

pub read_word_one : (r : PuckReader) (w : ℕ) (a b : PuckRead) → reader.StepPromise r w a → reader.StepPromise r w b → a ≡ b
read_word_one = permitted.one_step

pub read_line_one : (r : PuckReader) (words : List ℕ) (out : List ℤ) (a b : PuckReading) (x y : List ℤ) → reader.ReadPromise r words out a x
    → reader.ReadPromise r words out b y
    → (a ≡ b) × (x ≡ y)
read_line_one = permitted.one_read

-- and of what they give
pub read_word_given_one : (r : PuckReader) (w : ℕ) → One (λ s. reader.StepPromise r w (read_in r s))
read_word_given_one r w = one_by (read_in r) (permitted.read_apart r) (read_word_one r w)

pub read_line_given_one : (r : PuckReader) (words : List ℕ) (out : List ℤ) → OneWith (λ a. reader.ReadPromise r words out (reading_in a))
read_line_given_one r words out = one_with_by reading_in permitted.reading_apart (read_line_one r words out)

-- "A refusal has a number from the list, hands back the old state and writes nothing": 6 and 3 of the device, 6 and 4 of the reader
pub puck_refusals : (p : Puck) (e : Event) (r : PuckStepped) → puck.StepPromise p e r → puck.StepRefusal p (outcome r)
puck_refusals = device_refusals.refusals

pub read_word_refusals : (r : PuckReader) (w : ℕ) (s : PuckRead) → reader.StepPromise r w s → reader.StepRefusal r s
read_word_refusals = refusals.step_refusals

pub read_line_refusals : (r : PuckReader) (words : List ℕ) (out : List ℤ) (a : PuckReading) (after : List ℤ) → reader.ReadPromise r words out a after
    → reader.ReadRefusal r words out a after
read_line_refusals = refusals.read_refusals

-- "Tested in that order": each function's tests stand in the order of the list
pub puck_tests : (p : Puck) (e : Event) (r : PuckStepped) → puck.StepPromise p e r → Tests (bad_state ∷ bad_buttons ∷ []) r.refusal
puck_tests p e r h = rightly refl (puck_refusals p e r h)

pub read_word_tests : (r : PuckReader) (w : ℕ) (s : PuckRead) → reader.StepPromise r w s → Tests (bad_state ∷ bad_word ∷ []) s.refusal
read_word_tests r w s h = rightly refl (read_word_refusals r w s h)

pub read_line_tests : (r : PuckReader) (words : List ℕ) (out : List ℤ) (a : PuckReading) (after : List ℤ) → reader.ReadPromise r words out a after
    → Tests (bad_state ∷ bad_word ∷ []) a.refusal
read_line_tests r words out a after h = rightly refl (read_line_refusals r words out a after h)

-- which of them it is
pub puck_bad_state : (p : Puck) (e : Event) (r : PuckStepped) → puck.StepPromise p e r → devices.good p ≡ false → outcome r ≡ refused bad_state p
puck_bad_state = device_refusals.bad_state_lem

pub puck_bad_buttons : (p : Puck) (n : ℕ) (r : PuckStepped) → puck.StepPromise p (Buttons n) r → devices.good p ≡ true → 7 < n
    → outcome r ≡ refused bad_buttons p
puck_bad_buttons = device_refusals.bad_buttons_lem

pub read_word_bad_state : (r : PuckReader) (w : ℕ) (s : PuckRead) → readers.good r ≡ false → reader.StepPromise r w s → s ≡ refusing bad_state r
read_word_bad_state = refusals.bad_state_lem

pub read_word_bad_word : (r : PuckReader) (w : ℕ) (s : PuckRead) → readers.good r ≡ true → silence < w → reader.StepPromise r w s → s ≡ refusing bad_word r
read_word_bad_word = refusals.bad_word_lem

pub read_line_bad_state : (r : PuckReader) (words : List ℕ) (out : List ℤ) (a : PuckReading) (after : List ℤ) → readers.good r ≡ false
    → reader.ReadPromise r words out a after
    → whole a after ≡ stopped reads_line bad_state r out
read_line_bad_state = refusals.bad_state_read

pub read_line_ends : (r : PuckReader) (words : List ℕ) (out : List ℤ) (a : PuckReading) (after : List ℤ) → readers.good r ≡ true
    → reader.ReadPromise r words out a after
    → (a.refusal ≡ success) ⊎ ((a.refusal ≡ bad_word) × (silence < get_or words a.taken 0))
read_line_ends = refusals.read_ends

-- "a reader given many words does all before the bad one and stops there": 4 is the outcome of the words before it, but for the number
pub read_line_before_bad : (r : PuckReader) (words : List ℕ) (out : List ℤ) (a : PuckReading) (after : List ℤ) → readers.good r ≡ true
    → reader.ReadPromise r words out a after
    → a.refusal ≡ bad_word
    → whole a after ≡ reader.before_bad r words out a
read_line_before_bad = refusals.before_bad_lem

-- "if the words before it were all taken, the results join as one"
pub joining : (r : PuckReader) (p q : List ℕ) (out : List ℤ) (a b c : PuckReading) (x y z : List ℤ)
    → reader.ReadPromise r p out b y
    → b.taken ≡ length p
    → reader.ReadPromise b.next q (unused reads_line (whole b y)) c z
    → reader.ReadPromise r (p ++ q) out a x
    → whole a x ≡ as_one reads_line (whole b y) (whole c z)
joining = joined.joining

-- "It stops, with answer 0, before a word that would finish a report when fewer than" six "places are left"; any other word is taken, and the rest is read by
-- the reader that came back, with the places that are left
pub stops_for_room : (r : PuckReader) (w : ℕ) (q : List ℕ) (out : List ℤ) (s : PuckRead) (a : PuckReading) (x : List ℤ)
    → readers.good r ≡ true
    → reader.StepPromise r w s
    → reader.ReadPromise r (w ∷ q) out a x
    → s.refusal ≡ success
    → length out < 6 * reports_in s.answer
    → whole a x ≡ stopped reads_line success r out
stops_for_room = room.stops_for_room

pub goes_on : (r : PuckReader) (w : ℕ) (q : List ℕ) (out : List ℤ) (s : PuckRead) (a : PuckReading) (x : List ℤ)
    → readers.good r ≡ true
    → reader.StepPromise r w s
    → reader.ReadPromise r (w ∷ q) out a x
    → (b : PuckReading) (y : List ℤ)
    → s.refusal ≡ success
    → 6 * reports_in s.answer ≤ length out
    → reader.ReadPromise s.next q (drop (6 * reports_in s.answer) out) b y
    → whole a x ≡ after reads_line s.answer (whole b y)
goes_on = room.goes_on

-- "a bad word behind a stop for room is not reached": where words are left, what follows them changes nothing
pub not_reached : (r : PuckReader) (p q : List ℕ) (out : List ℤ) (a b : PuckReading) (x y : List ℤ)
    → reader.ReadPromise r p out b y
    → b.taken < length p
    → reader.ReadPromise r (p ++ q) out a x
    → whole a x ≡ whole b y
not_reached = room.not_reached

-- no further than the words, the places and the bytes that there are
pub within : (r : PuckReader) (words : List ℕ) (out : List ℤ) (a : PuckReading) (after : List ℤ)
    → reader.ReadPromise r words out a after
    → Bounds r words out a
within = room.within

-- a device is good when made and a reader when fresh, and every step of a good one gives a good one
pub made_good : (buttons revision maker : ℕ) (p : Puck) → puck.MadePromise buttons revision maker p → devices.good p ≡ true
made_good = device_goodness.made_is_good

pub puck_stays_good : (p : Puck) (e : Event) (r : PuckStepped) → puck.StepPromise p e r → devices.good p ≡ true → devices.good r.next ≡ true
puck_stays_good = device_goodness.step_stays_good

pub fresh_good : (r : PuckReader) → reader.FreshPromise r → readers.good r ≡ true
fresh_good = goodness.fresh_is_good

pub reader_stays_good : (r : PuckReader) (w : ℕ) (s : PuckRead) → readers.good r ≡ true → reader.StepPromise r w s → readers.good s.next ≡ true
reader_stays_good = goodness.step_stays_good

pub read_stays_good : (r : PuckReader) (words : List ℕ) (out : List ℤ) (a : PuckReading) (after : List ℤ) → readers.good r ≡ true
    → reader.ReadPromise r words out a after → readers.good a.next ≡ true
read_stays_good = goodness.read_stays_good
