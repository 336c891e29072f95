-- "Four useless programs have to be caught": what meets the promises is none of them.
use Rattle.std.specs.Prelude.{ℕ, ◌+◌, ◌-◌, ◌*◌, ◌≤◌, ◌≡◌, List, [], ◌∷◌, take, get_or, ℤ, pos}
use Rattle.std.proofs.Common.{sym, ◌∙◌, ap, arith, lit≤}
use Rattle.frames.specs.Words.{silence}
use Rattle.frames.proofs.Sender.{given_over}
use Rattle.wire.specs.Line.{letter_of, size_by}
use Rattle.wire.specs.Reading.{report}
use Rattle.wire.specs.Numbers.{success}
use Rattle.wire.specs.Encoder.{refusal_of, Encoded}
use Rattle.wire.specs.Promises.{EncodePromise}
use Rattle.wire.specs.declared.Report.{Report}
use Rattle.wire.specs.declared.Format.TheVariants.{Microsoft}
use Rattle.reader.specs.Line.{Reading, Long, reading}
use Rattle.reader.specs.Counts.{bytes_in}
use Rattle.reader.specs.Promises as reader
use Rattle.reader.specs.declared.Reader.{Reader}
use Rattle.reader.specs.State.{NewReader, Read}
use Rattle.reader.proofs.Useless.{skipping_the_rest}
use Rattle.ballbox.specs.Box.{fresh_box}
use Rattle.ballbox.specs.Commands.{letter_p}
use Rattle.ballbox.specs.Promises as box
use Rattle.ballbox.specs.declared.BallBox.{BallBox}
use Rattle.ballbox.specs.declared.Event.{Event}
use Rattle.ballbox.specs.declared.Event.TheVariants.{Host, Latch, Send}
use Rattle.ballbox.specs.declared.Stepped.{Stepped}
use Rattle.history.specs.Runs.{RunPromise, words_given}
use Rattle.history.specs.History.{next_box}
use Rattle.history.proofs.Bridge.{permitted}
use Rattle.demands.specs.Computing.{computing}
use Rattle.demands.specs.Figures.{figures}
use Rattle.demands.specs.Demand2.{line_counts}

-- what an encoder does: the answer, and the buffer after it
pub record Encoder : Type 0 where
  pub answer : ℕ → Report → List ℕ → Encoded
  pub buffer : ℕ → Report → List ℕ → List ℕ

-- it meets the promise, for every letter, report and buffer
abbrev pub Keeps : Encoder → Type 0
Keeps e =
    (letter : ℕ) (r : Report) (before : List ℕ)
    → EncodePromise letter r before (e.answer letter r before) (e.buffer letter r before)

-- "an encoder with one fixed report (2, p4 against p5)": of the reports that it accepts it writes the same bytes
abbrev pub Fixed : Encoder → Type 0
Fixed e =
    (letter : ℕ) (r s : Report) (before : List ℕ)
    → refusal_of (e.answer letter r before) ≡ success
    → refusal_of (e.answer letter s before) ≡ success
    → e.buffer letter r before ≡ e.buffer letter s before

pub no_fixed_encoder : (e : Encoder) → Keeps e → Fixed e → ⊥
no_fixed_encoder e keeps fixed =
    let room : List ℕ = 0 ∷ 0 ∷ 0 ∷ [] in
    let r : Report = report 4 (pos 5) (pos 3) in
    let s : Report = report 0 (pos 0) (pos 128) in
    let letter = letter_of Microsoft in
    let a = figures.p4.written room (e.buffer letter r room) (e.answer letter r room) (lit≤ tt) (keeps letter r room) in
    let b = figures.p5.written room (e.buffer letter s room) (e.answer letter s room) (lit≤ tt) (keeps letter s room) in
    let same = fixed letter r s room (ap refusal_of a.0) (ap refusal_of b.0) in
    let z : ◌≡◌ {A = ℕ} 0x6C 0x48 = ap first (sym a.1 ∙ same ∙ b.1) in
    omega arith
  where
    first : List ℕ → ℕ
    first [] = 0
    first (n ∷ ns) = n

-- what a reader does, word by word
pub record ReaderProgram : Type 0 where
  pub fresh : ℕ → NewReader
  pub step : Reader → ℕ → Read

pub record KeepsReading (p : ReaderProgram) : Type 0 where
  pub fresh : (letter : ℕ) → reader.FreshPromise letter (p.fresh letter)
  pub step : (r : Reader) (w : ℕ) → reader.StepPromise r w (p.step r w)

-- what a box does, event by event
pub record BoxProgram : Type 0 where
  pub fresh : BallBox
  pub step : BallBox → Event → Stepped

pub record KeepsStepping (p : BoxProgram) : Type 0 where
  pub fresh : box.FreshPromise p.fresh
  pub step : (b : BallBox) (e : Event) → box.StepPromise b e (p.step b e)

abbrev pub run_by : BoxProgram → BallBox → List Event → List Stepped
run_by p b [] = []
run_by p b (e ∷ events) = p.step b e ∷ run_by p (p.step b e).next events

run_kept : (p : BoxProgram)
    → KeepsStepping p
    → (b : BallBox) (events : List Event)
    → RunPromise b events (run_by p b events)
unfolding RunPromise
run_kept p k b [] = tt
run_kept p k b (e ∷ events) = (k.step b e, run_kept p k (p.step b e).next events)

-- "a box that sends only silence (2, Slot)": one whose runs, from a fresh box, give no word but 257
pub no_silent_box : (p : BoxProgram)
    → KeepsStepping p
    → ((events : List Event) (i : ℕ) → get_or (words_given (run_by p p.fresh events)) i silence ≡ silence)
    → ⊥
unfolding computing given_over
no_silent_box p k silent =
    let events : List Event = Host letter_p ∷ Latch ∷ Send ∷ [] in
    let given : words_given (run_by p p.fresh events) ≡ given_over next_box (λ b e. (box.step_of b e).words) fresh_box events =
    permitted p.fresh events (run_by p p.fresh events) (run_kept p k p.fresh events)
    ∙ ap (λ (b : BallBox). given_over next_box (λ b e. (box.step_of b e).words) b events) k.fresh in
    let z : ◌≡◌ {A = ℕ} 0x87 silence = sym (ap (λ (words : List ℕ). get_or words 0 silence) given) ∙ silent events 0 in
    omega arith

-- "a long read that reads its first report and skips the rest (2, since every word's answer is fixed)"
pub no_skipping_read : (read : Reader → List ℕ → List ℤ → Long)
    → ((r : Reader) (words : List ℕ) (out : List ℤ) → reader.ReadPromise r words out (reading (read r words out)) (read r words out).out)
    → ((r : Reader) (words : List ℕ) (out : List ℤ) → (read r words out).counts.reports ≤ 1)
    → ⊥
no_skipping_read = skipping_the_rest

-- "A made-up dropped count is caught by 2": it is what is left of the bytes
pub no_made_up_count : (r : Reader) (words : List ℕ) (out : List ℤ) (a : Reading) (after : List ℤ)
    → reader.ReadPromise r words out a after
    → a.dropped ≡ bytes_in (take a.taken words) + r.count - (size_by r.format * a.reports + a.next.count)
no_made_up_count r words out a after p = let e = line_counts r words out a after p in omega arith
