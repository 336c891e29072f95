-- Slot was Latch followed by Send: for every box, and over every run.
use mathlib.Core.Path.{◌≡◌, refl, sym, ◌∙◌, ap, ap₂}
use mathlib.Core.Bool.{Bool, true, false, cond}
use mathlib.Core.List.{List, [], ◌∷◌, ◌++◌, append_assoc}
use Rattle.numbers.proofs.Choices.{cases}
use Rattle.frames.specs.Words.{silence}
use Rattle.wire.specs.Numbers.{success}
use Rattle.ballbox.specs.Box.{Step, going_from, dormant}
use Rattle.ballbox.specs.Latching.{latched}
use Rattle.ballbox.specs.Events.{gives, bytes_left, wanted, latching, next_byte, sending, awake, asleep}
use Rattle.ballbox.specs.Good.{good}
use Rattle.ballbox.specs.Promises.{outcome, sent_words, step_of, StepPromise}
use Rattle.ballbox.specs.declared.BallBox.{BallBox}
use Rattle.ballbox.specs.declared.Event.TheVariants.{Latch, Send}
use Rattle.ballbox.specs.declared.Stepped.{Stepped}
use Rattle.ballbox.proofs.Single.{says}
use Rattle.ballbox.proofs.Parts.{parts}
use Rattle.ballbox.proofs.Cases.{latching_busy, latching_wanted, latching_idle, sending_byte, sending_silence}
use Rattle.ballbox.proofs.Goodness.{stepped_good, latched_left}
use Rattle.ballbox.proofs.Latches.{first_plain}
use Rattle.ballbox.proofs.Refusals.{ruled}
use Rattle.history.specs.Runs.{RunPromise, words_given}
use Rattle.history.specs.Presses.{last_box}
use Rattle.history.specs.Slots.{on_slot, slot_of, joined, Timed, slot, still, timed_words, timed_box, timed_numbers, numbers_told, apartly}
use Rattle.history.proofs.Asking.{latching_alike}

-- awake: latching, and then sending
begins : (b : BallBox) → good b ≡ true → sending (latched b) ≡ next_byte (latched b)
unfolding latched going_from
begins b g = sending_byte (latched b) (latched_left b (parts b g)) ∙ ap next_byte (first_plain (latched b) refl)

on_slot_lem : (b : BallBox) → good b ≡ true → sending (latching b) ≡ on_slot b
unfolding on_slot
on_slot_lem b g = go (bytes_left b) refl (wanted b) refl
  where
    go : (t : Bool) → bytes_left b ≡ t → (u : Bool) → wanted b ≡ u → sending (latching b) ≡ on_slot b
    go true l u w = rw (l, latching_busy b l, sending_byte b l)
    go false l true w = rw (l, w, latching_wanted b l w) (begins b g)
    go false l false w = rw (l, w, latching_idle b l w, sending_silence b l)

-- any box: a bad one is refused, a dormant one gives 257
bad_slot : (b : BallBox) → good b ≡ false → joined (step_of b Latch) (step_of (step_of b Latch).next Send) ≡ slot_of b
unfolding step_of slot_of
bad_slot b g = rw (g, g)

slot_ruled : (b : BallBox) (d : Bool) → good b ≡ true → dormant b ≡ d → slot_of b ≡ cond d (gives (silence ∷ []) b) (on_slot b)
unfolding slot_of
slot_ruled b d g e = rw g (ap (λ (t : Bool). cond t (gives (silence ∷ []) b) (on_slot b)) e)

good_slot : (b : BallBox) → good b ≡ true → (d : Bool) → dormant b ≡ d → joined (step_of b Latch) (step_of (step_of b Latch).next Send) ≡ slot_of b
unfolding asleep awake
good_slot b g true d = rw (ruled b Latch true g refl d, ruled b Send true g refl d) (sym (slot_ruled b true g d))
good_slot b g false d =
    let l = ruled b Latch false g refl d in
    let k : good (latching b) ≡ true = ap (λ (x : Step). good x.next) (sym l) ∙ stepped_good b Latch g in
    rw (l, ruled (latching b) Send false k refl ((latching_alike b).dormant ∙ d)) (on_slot_lem b g ∙ sym (slot_ruled b false g d))

latch_send : (b : BallBox) → joined (step_of b Latch) (step_of (step_of b Latch).next Send) ≡ slot_of b
latch_send b = go (good b) refl
  where
    go : (t : Bool) → good b ≡ t → joined (step_of b Latch) (step_of (step_of b Latch).next Send) ≡ slot_of b
    go true g = good_slot b g (dormant b) refl
    go false g = bad_slot b g

-- Latch and then Send, any answers that the promises permit, are Slot
pub slot_was : (b : BallBox) (p q : Stepped) → StepPromise b Latch p → StepPromise p.next Send q → joined (outcome p) (outcome q) ≡ slot_of b
slot_was b p q s t =
    let n : p.next ≡ (step_of b Latch).next = ap (λ (x : Stepped). x.next) s in
    ap₂ joined (says b Latch p s) (says p.next Send q t ∙ ap (λ (x : BallBox). step_of x Send) n) ∙ latch_send b

-- and each of the two tells what Slot told
sending_fine : (b : BallBox) → (sending b).refusal ≡ success
unfolding sending next_byte
sending_fine b = cases (λ (x : Step). x.refusal ≡ success) (bytes_left b) (λ _. refl) (λ _. refl)

latch_number : (b : BallBox) → (step_of b Latch).refusal ≡ (slot_of b).refusal
unfolding step_of slot_of asleep awake
latch_number b = go (good b) refl (dormant b) refl
  where
    go : (t : Bool) → good b ≡ t → (d : Bool) → dormant b ≡ d → (step_of b Latch).refusal ≡ (slot_of b).refusal
    go false g d e = rw g
    go true g true e = ap (λ (x : Step). x.refusal) (ruled b Latch true g refl e) ∙ sym (ap (λ (x : Step). x.refusal) (slot_ruled b true g e))
    go true g false e =
        ap (λ (x : Step). x.refusal) (ruled b Latch false g refl e)
        ∙ sym (sending_fine (latching b))
        ∙ ap (λ (x : Step). x.refusal) (on_slot_lem b g ∙ sym (slot_ruled b false g e))

-- over every run: its words, its last box, and the numbers told
pub slots_were : (b : BallBox) (events : List Timed) (answers : List Stepped) → RunPromise b (apartly events) answers
    → (words_given answers ≡ timed_words b events) × (last_box b answers ≡ timed_box b events) × (numbers_told answers ≡ timed_numbers b events)
unfolding RunPromise last_box timed_words timed_box timed_numbers
slots_were b [] [] h = (refl, refl, refl)
slots_were b [] (a ∷ answers) h = absurd h
slots_were b (slot ∷ events) [] h = absurd h
slots_were b (slot ∷ events) (p ∷ []) h = absurd h.1
slots_were b (slot ∷ events) (p ∷ q ∷ answers) h =
    let e = slot_was b p q h.0 h.1.0 in
    let n : q.next ≡ (slot_of b).next = ap (λ (x : Step). x.next) e in
    let first : p.refusal ≡ (slot_of b).refusal = ap (λ (x : Stepped). x.refusal) h.0 ∙ latch_number b in
    let second : q.refusal ≡ (slot_of b).refusal = ap (λ (x : Step). x.refusal) e in
    let rest = slots_were q.next events answers h.1.1 in (
      sym (append_assoc (sent_words p) (sent_words q) (words_given answers)) ∙ ap₂ ◌++◌ (ap (λ (x : Step). x.words) e) (rest.0 ∙ rw n),
      rest.1 ∙ rw n,
      ap₂ ◌∷◌ first (ap₂ ◌∷◌ second (rest.2 ∙ rw n)),
    )
slots_were b (still e ∷ events) [] h = absurd h
slots_were b (still e ∷ events) (a ∷ answers) h =
    let n : a.next ≡ (step_of b e).next = ap (λ (x : Stepped). x.next) h.0 in
    let rest = slots_were a.next events answers h.1 in
    (ap₂ ◌++◌ (ap (λ (x : Step). x.words) (says b e a h.0)) (rest.0 ∙ rw n), rest.1 ∙ rw n, ap₂ ◌∷◌ (ap (λ (x : Stepped). x.refusal) h.0) (rest.2 ∙ rw n))
