-- The promises of `fresh` and of `step`.
use Rattle.std.specs.Prelude.{ℕ, ◌≡◌, Bool, false, not, cond, List, [], ◌∷◌, ltb}
use Rattle.wire.specs.Numbers.{bad_state, bad_buttons, RefusesRightly}
use Rattle.ballbox.specs.Marks.{marked}
use Rattle.ballbox.specs.Box.{Step, fresh_box, refused, dormant}
use Rattle.ballbox.specs.Events.{awake, asleep}
use Rattle.ballbox.specs.Good.{good}
use Rattle.ballbox.specs.declared.BallBox.{BallBox}
use Rattle.ballbox.specs.declared.Event.{Event}
use Rattle.ballbox.specs.declared.Event.TheVariants.{Motion, Buttons, Host, Latch, Send, Period}
use Rattle.ballbox.specs.declared.Stepped.{Stepped}

-- the words of a step, of which there is one or none, as a count and a word, 0 where there is none
abbrev pub count_of : List ℕ → ℕ
count_of [] = 0
count_of (w ∷ words) = 1

abbrev pub word_of : List ℕ → ℕ
word_of [] = 0
word_of (w ∷ words) = w

-- a step as the program hands it back
abbrev pub stepped : Step → Stepped
stepped a = record { refusal = a.refusal; sent = count_of a.words; word = word_of a.words; rest = 0; next = a.next }

-- and read again
abbrev pub words_of : ℕ → ℕ → List ℕ
words_of sent word = cond (marked sent) (word ∷ []) []

abbrev pub sent_words : Stepped → List ℕ
sent_words r = words_of r.sent r.word

abbrev pub outcome : Stepped → Step
outcome r = record { refusal = r.refusal; next = r.next; words = sent_words r }

-- "buttons above 7"
abbrev pub above_seven : Event → Bool
above_seven (Motion dx dy) = false
above_seven (Buttons n) = ltb 7 n
above_seven (Host byte) = false
above_seven Latch = false
above_seven Send = false
above_seven Period = false

-- "Refusals 6 and 3 come before any rule here, dormant or not."
unfoldable pub step_of : BallBox → Event → Step
step_of b e =
    cond (not (good b)) (refused bad_state b)
    (cond (above_seven e) (refused bad_buttons b)
    (cond (dormant b) (asleep b e) (awake b e)))

-- the box's refusals: each "returns the old state [..], no word"
abbrev pub StepRefusal : BallBox → Step → Type 0
StepRefusal b a = RefusesRightly (λ (s : Step). s.refusal) (refused bad_state b ∷ refused bad_buttons b ∷ []) a

-- the promise of `fresh`
abbrev pub FreshPromise : BallBox → Type 0
FreshPromise r = r ≡ fresh_box

-- the promise of `good`
abbrev pub GoodPromise : BallBox → Bool → Type 0
GoodPromise b answer = answer ≡ good b

-- the promise of `step`
abbrev pub StepPromise : BallBox → Event → Stepped → Type 0
StepPromise b e r = r ≡ stepped (step_of b e)
