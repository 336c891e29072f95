-- All numbers of refusals, in the order of their tests, and for each public function which of them it tests.
use Rattle.std.specs.Prelude.{ℕ, ◌≡◌, refl, Bool, true, false, cond, ◌⊎◌, eqb, ℤ}
use Rattle.std.proofs.Common.{ap, inl, inr, ⊎_elim}
use mathlib.Core.List.{List, [], ◌∷◌, map, Memᴰ}
use Rattle.wire.specs.Numbers.{success, bad_state, bad_letter, bad_buttons, bad_first_x, bad_first_y, bad_second_x, bad_second_y, short_buffer, bad_word}
use Rattle.wire.specs.Numbers.{RefusesRightly, accepted, refusal}
use Rattle.wire.specs.Encoder.{refusal_of, Encoded}
use Rattle.wire.specs.Promises.{EncodePromise}
use Rattle.wire.specs.declared.Report.{Report}
use Rattle.reader.specs.Promises as reader
use Rattle.reader.specs.declared.Reader.{Reader}
use Rattle.reader.specs.State.{NewReader, Read}
use Rattle.ballbox.specs.Promises as box
use Rattle.ballbox.specs.declared.BallBox.{BallBox}
use Rattle.ballbox.specs.declared.Event.{Event}
use Rattle.ballbox.specs.declared.Stepped.{Stepped}
use Rattle.listing.specs.Promises as lister
use Rattle.listing.specs.declared.Lister.{Lister}
use Rattle.listing.specs.Promises.{Listed}
use Rattle.yard.specs.Promises as yard
use Rattle.yard.specs.declared.Yard.{Yard}
use Rattle.yard.specs.declared.NewYard.{NewYard}
use Rattle.yard.specs.declared.Judged.{Judged}
use Rattle.yard.specs.declared.Checked.{Checked}
use Rattle.bridge.specs.Promises as bridge
use Rattle.bridge.specs.declared.Bridge.{Bridge}
use Rattle.bridge.specs.Promises.{NewBridge}
use Rattle.bridge.specs.Line.{Converted}
use Rattle.salvage.specs.Picking.{marked_format, long_log}
use Rattle.salvage.specs.Promises as salvage
use Rattle.salvage.specs.declared.Picked.{Picked}
use Rattle.readback.specs.Steps as readbacks
use Rattle.readback.specs.Pieces as pieces
use Rattle.readback.specs.Pieces.{faulty_line}
use Rattle.readback.specs.Rewriting.{too_wide}
use Rattle.readback.specs.Promises as readback
use Rattle.readback.specs.declared.Readback.{Readback}
use Rattle.readback.specs.declared.Back.{Back}
use Rattle.readback.specs.declared.Rewritten.{Rewritten}
use Rattle.driver.specs.Feeding as drivers
use Rattle.driver.specs.Promises as driver
use Rattle.driver.specs.declared.Driver.{Driver}
use Rattle.driver.specs.Promises.{Driven}
use Rattle.replies.specs.Promises as told
use Rattle.replies.specs.Promises.{Telling, NewToldReader, no_reply}
use Rattle.replies.specs.declared.Asked.{Asked}
use Rattle.replies.specs.declared.ToldReader.{ToldReader}
use Rattle.replies.specs.Rules.{Heard}
use Rattle.demands.specs.Demand1 as one
use Rattle.demands.specs.Replies as replies
use Rattle.reader.specs.Line.{Reading}
use Rattle.reader.specs.Telling.{Answers}
use Rattle.replies.specs.Line.{HeardLine}

-- "Tested in that order, where they apply": 6; 12, "tested after 6"; 1; 7, "tested after 1"; 13, "after 1"; 14, "after
-- 13"; 3; 8 to 11, "in 2's old place"; 5; 4; and 15, "last in order"
abbrev pub in_order : List ℕ
in_order =
    bad_state ∷ no_reply ∷ bad_letter ∷ faulty_line ∷ marked_format ∷ long_log ∷ bad_buttons
    ∷ bad_first_x ∷ bad_first_y ∷ bad_second_x ∷ bad_second_y ∷ short_buffer ∷ bad_word ∷ too_wide ∷ []

pub the_numbers : in_order ≡ 6 ∷ 12 ∷ 1 ∷ 7 ∷ 13 ∷ 14 ∷ 3 ∷ 8 ∷ 9 ∷ 10 ∷ 11 ∷ 5 ∷ 4 ∷ 15 ∷ []
the_numbers = refl

-- some numbers of a list, in its order
abbrev pub is_from : List ℕ → List ℕ → Bool
is_from [] [] = true
is_from [] (m ∷ numbers) = true
is_from (n ∷ tests) [] = false
is_from (n ∷ tests) (m ∷ numbers) = cond (eqb n m) (is_from tests numbers) (is_from (n ∷ tests) numbers)

-- "A refusal has a number from the list": a function makes these tests, in the order of the list, and what it tells is
-- 0 or the number of one of them
pub record Tests (tests : List ℕ) (told : ℕ) : Type 0 where
  pub ordered : is_from tests in_order ≡ true
  pub one_of : (told ≡ success) ⊎ Memᴰ told tests

numbered : {A : Type 0} (number : A → ℕ) {a : A} {refusals : List A} → Memᴰ a refusals → Memᴰ (number a) (map number refusals)
numbered number (Memᴰ.head e) = Memᴰ.head (ap number e)
numbered number (Memᴰ.tail m) = Memᴰ.tail (numbered number m)

pub rightly : {A : Type 0} {number : A → ℕ} {refusals : List A} {a : A}
    → is_from (map number refusals) in_order ≡ true
    → RefusesRightly number refusals a
    → Tests (map number refusals) (number a)
rightly o (accepted e) = record { ordered = o; one_of = inl e }
rightly {number = number} o (refusal m) = record { ordered = o; one_of = inr (numbered number m) }

-- `wire::encode`
pub encode_tests : (letter : ℕ) (r : Report) (before after : List ℕ) (a : Encoded)
    → EncodePromise letter r before a after
    → Tests (bad_letter ∷ bad_buttons ∷ bad_first_x ∷ bad_first_y ∷ bad_second_x ∷ bad_second_y ∷ short_buffer ∷ []) (refusal_of a)
encode_tests letter r before after a p = rightly refl (one.encode_refusals letter r before after a p)

-- `Reader::fresh`, `step`, `read`, `answers`
pub fresh_reader_tests : (letter : ℕ) (a : NewReader) → reader.FreshPromise letter a → Tests (bad_letter ∷ []) a.refusal
fresh_reader_tests letter a p = rightly refl (one.fresh_reader_refusals letter a p)

pub read_word_tests : (r : Reader) (w : ℕ) (s : Read) → reader.StepPromise r w s → Tests (bad_state ∷ bad_word ∷ []) s.refusal
read_word_tests r w s p = rightly refl (one.read_word_refusals r w s p)

pub read_line_tests : (r : Reader) (words : List ℕ) (out : List ℤ) (a : Reading) (after : List ℤ)
    → reader.ReadPromise r words out a after
    → Tests (bad_state ∷ bad_word ∷ []) a.refusal
read_line_tests r words out a after p = rightly refl (one.read_line_refusals r words out a after p)

pub answers_tests : (r : Reader) (words : List ℕ) (out : List ℤ) (a : Answers) (after : List ℤ)
    → reader.AnswersPromise r words out a after
    → Tests (bad_state ∷ bad_word ∷ []) a.refusal
answers_tests r words out a after p = rightly refl (one.answers_refusals r words out a after p)

-- `BallBox::step`
pub box_step_tests : (b : BallBox) (e : Event) (r : Stepped) → box.StepPromise b e r → Tests (bad_state ∷ bad_buttons ∷ []) r.refusal
box_step_tests b e r p = rightly refl (one.box_step_refusals b e r p)

-- `Lister::feed`, `finish`
pub feed_tests : (m : Lister) (input before after : List ℕ) (a : Listed)
    → lister.FeedPromise m input before a after
    → Tests (bad_state ∷ []) a.refusal
feed_tests m input before after a p = rightly refl (one.feed_refusals m input before after a p)

pub finish_tests : (m : Lister) (before after : List ℕ) (a : Listed)
    → lister.FinishPromise m before a after
    → Tests (bad_state ∷ []) a.refusal
finish_tests m before after a p = rightly refl (one.finish_refusals m before after a p)

-- `Yard::fresh`, `Yard::step`, `yard::check`
pub fresh_yard_tests : (letter : ℕ) (a : NewYard) → yard.FreshPromise letter a → Tests (bad_letter ∷ []) a.refusal
fresh_yard_tests letter a p = rightly refl (one.fresh_yard_refusals letter a p)

pub yard_step_tests : (y : Yard) (w : ℕ) (a : Judged) → yard.StepPromise y w a → Tests (bad_state ∷ bad_word ∷ []) a.refusal
yard_step_tests y w a p = rightly refl (one.yard_step_refusals y w a p)

pub check_tests : (letter : ℕ) (words : List ℕ) (a : Checked) → yard.CheckPromise letter words a → Tests (bad_letter ∷ bad_word ∷ []) a.refusal
check_tests letter words a p = rightly refl (one.check_refusals letter words a p)

-- `Bridge::fresh`, `convert`
pub fresh_bridge_tests : (letter : ℕ) (a : NewBridge) → bridge.FreshPromise letter a → Tests (bad_letter ∷ []) a.refusal
fresh_bridge_tests letter a p = rightly refl (one.fresh_bridge_refusals letter a p)

pub convert_tests : (b : Bridge) (words before : List ℕ) (a : Converted) (after : List ℕ)
    → bridge.ConvertPromise b words before a after
    → Tests (bad_state ∷ bad_word ∷ []) a.refusal
convert_tests b words before a after p = rightly refl (one.convert_refusals b words before a after p)

-- `salvage::pick`
pub pick_tests : (letter : ℕ) (words before after : List ℕ) (a : Picked)
    → salvage.PickPromise letter words before a after
    → Tests (bad_letter ∷ marked_format ∷ long_log ∷ bad_word ∷ []) a.refusal
pick_tests letter words before after a p = rightly refl (one.pick_refusals letter words before after a p)

-- `ToldReader::fresh`, `tell`, `step`, `read`
pub fresh_told_tests : (letter : ℕ) (a : NewToldReader) → told.FreshPromise letter a → Tests (bad_letter ∷ []) a.refusal
fresh_told_tests letter a p =
    let t = fresh_reader_tests letter (reader.fresh_of letter) refl in
    rw p t

pub tell_tests : (s : ToldReader) (asked : Asked) (t : Telling) → told.TellPromise s asked t → Tests (bad_state ∷ no_reply ∷ []) t.refusal
tell_tests s asked t p = rightly refl (replies.tell_refusals s asked t p)

pub hear_tests : (s : ToldReader) (w : ℕ) (h : Heard) → told.StepPromise s w h → Tests (bad_state ∷ bad_word ∷ []) h.refusal
hear_tests s w h p = rightly refl (replies.step_refusals s w h p)

pub hear_line_tests : (s : ToldReader) (words : List ℕ) (out : List ℤ) (a : HeardLine) (after : List ℤ)
    → told.ReadPromise s words out a after
    → Tests (bad_state ∷ bad_word ∷ []) a.refusal
hear_line_tests s words out a after p = rightly refl (replies.read_refusals s words out a after p)

-- `Readback::read`, `finish`, `rewrite`: 6, then 7 for a faulty line, and 15 for a number that does not fit, whichever
-- line comes first
pub readback_tests : (r : Readback) (piece : List ℕ) (before after : List ℤ) (a : Back)
    → readback.ReadPromise r piece before a after
    → Tests (bad_state ∷ faulty_line ∷ []) a.refusal
readback_tests r piece before after a p = record { ordered = refl; one_of = go (readbacks.good r) refl }
  where
    go : (t : Bool) → readbacks.good r ≡ t → (a.refusal ≡ success) ⊎ Memᴰ a.refusal (bad_state ∷ faulty_line ∷ [])
    go true g = ⊎_elim inl (λ e. inr (Memᴰ.tail (Memᴰ.head e))) (one.readback_ends r piece before after a g p)
    go false g = inr (Memᴰ.head (ap (λ (w : pieces.Whole ℤ). w.refusal) (one.readback_bad_state r piece before after a g p)))

pub readback_finish_tests : (r : Readback) (left : ℕ) (a : Back) → readback.FinishPromise r left a → Tests (bad_state ∷ faulty_line ∷ []) a.refusal
readback_finish_tests r left a p = record { ordered = refl; one_of = go (readbacks.good r) refl }
  where
    go : (t : Bool) → readbacks.good r ≡ t → (a.refusal ≡ success) ⊎ Memᴰ a.refusal (bad_state ∷ faulty_line ∷ [])
    go true g = ⊎_elim inl (λ e. inr (Memᴰ.tail (Memᴰ.head e))) (one.readback_finish_ends r left a g p)
    go false g = inr (Memᴰ.head (ap (λ (b : Back). b.refusal) (one.readback_finish_bad_state r left a g p)))

pub rewrite_tests : (r : Readback) (piece before after : List ℕ) (a : Rewritten)
    → readback.RewritePromise r piece before a after
    → Tests (bad_state ∷ faulty_line ∷ too_wide ∷ []) a.refusal
rewrite_tests r piece before after a p = record { ordered = refl; one_of = go (readbacks.good r) refl }
  where
    go : (t : Bool) → readbacks.good r ≡ t → (a.refusal ≡ success) ⊎ Memᴰ a.refusal (bad_state ∷ faulty_line ∷ too_wide ∷ [])
    go true g =
        ⊎_elim inl (λ k. inr (Memᴰ.tail (⊎_elim Memᴰ.head (λ e. Memᴰ.tail (Memᴰ.head e)) k))) (one.rewrite_ends r piece before after a g p)
    go false g = inr (Memᴰ.head (ap (λ (w : pieces.Whole ℕ). w.refusal) (one.rewrite_bad_state r piece before after a g p)))

-- `Driver::feed`, `finish`
pub drive_tests : (m : Driver) (input before after : List ℕ) (a : Driven)
    → driver.FeedPromise m input before a after
    → Tests (bad_state ∷ []) a.refusal
drive_tests m input before after a p = record { ordered = refl; one_of = go (drivers.good m) refl }
  where
    go : (t : Bool) → drivers.good m ≡ t → (a.refusal ≡ success) ⊎ Memᴰ a.refusal (bad_state ∷ [])
    go true g = inl (one.drive_accepts m input before after a g p)
    go false g = inr (Memᴰ.head (ap (λ (w : driver.Whole). w.driven.refusal) (one.drive_bad_state m input before after a g p)))

pub drive_finish_tests : (m : Driver) (before after : List ℕ) (a : Driven)
    → driver.FinishPromise m before a after
    → Tests (bad_state ∷ []) a.refusal
drive_finish_tests m before after a p = record { ordered = refl; one_of = go (drivers.good m) refl }
  where
    go : (t : Bool) → drivers.good m ≡ t → (a.refusal ≡ success) ⊎ Memᴰ a.refusal (bad_state ∷ [])
    go true g = inl (one.drive_finish_accepts m before after a g p)
    go false g = inr (Memᴰ.head (ap (λ (w : driver.Whole). w.driven.refusal) (one.drive_finish_bad_state m before after a g p)))
