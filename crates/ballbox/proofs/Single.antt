-- A step gives one word or none, so what the program hands back says what the rules say.
use Prim.Native.Nat.{ℕ}
use mathlib.Core.Path.{◌≡◌, refl, ap, ◌∙◌}
use mathlib.Core.Bool.{not}
use mathlib.Core.List.{List}
use Rattle.numbers.proofs.Choices.{cases}
use Rattle.ballbox.specs.Box.{Step, dormant}
use Rattle.ballbox.specs.Events.{bytes_left, next_byte, sending, on_host, awake, asleep}
use Rattle.ballbox.specs.Good.{good}
use Rattle.ballbox.specs.Promises.{stepped, sent_words, outcome, above_seven, step_of, StepPromise}
use Rattle.ballbox.specs.declared.BallBox.{BallBox}
use Rattle.ballbox.specs.declared.Event.{Event}
use Rattle.ballbox.specs.declared.Event.TheVariants.{Motion, Buttons, Host, Latch, Send, Period}
use Rattle.ballbox.specs.declared.Stepped.{Stepped}

-- one word or none
OneWord : Step → Type 0
OneWord a = sent_words (stepped a) ≡ a.words

awake_one : (b : BallBox) (e : Event) → OneWord (awake b e)
unfolding OneWord awake on_host sending next_byte
awake_one b (Motion dx dy) = refl
awake_one b (Buttons n) = refl
awake_one b (Host byte) = cases (λ (words : List ℕ). sent_words (stepped (record { refusal = 0; next = b; words = words })) ≡ words) (bytes_left b) (λ e. refl) (λ e. refl)
awake_one b Latch = refl
awake_one b Send = cases OneWord (bytes_left b) (λ e. refl) (λ e. refl)
awake_one b Period = refl

asleep_one : (b : BallBox) (e : Event) → OneWord (asleep b e)
unfolding OneWord asleep
asleep_one b (Motion dx dy) = refl
asleep_one b (Buttons n) = refl
asleep_one b (Host byte) = refl
asleep_one b Latch = refl
asleep_one b Send = refl
asleep_one b Period = refl

step_one : (b : BallBox) (e : Event) → OneWord (step_of b e)
unfolding OneWord step_of
step_one b e =
    cases OneWord (not (good b)) (λ g. refl)
    (λ g. cases OneWord (above_seven e) (λ l. refl) (λ l. cases OneWord (dormant b) (λ d. asleep_one b e) (λ d. awake_one b e)))

pub says : (b : BallBox) (e : Event) (r : Stepped) → StepPromise b e r → outcome r ≡ step_of b e
unfolding OneWord
says b e r s = ap outcome s ∙ (λ i. record { refusal = (step_of b e).refusal; next = (step_of b e).next; words = step_one b e i })
