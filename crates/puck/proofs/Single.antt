-- A step of the device gives one word or none, so what the program hands back says what the rules say.
use Prim.Native.Nat.{ℕ}
use mathlib.Core.Path.{◌≡◌, refl, ap, ◌∙◌}
use mathlib.Core.List.{List}
use lib.Dec.{eqb}
use Rattle.numbers.proofs.Choices.{cases}
use Rattle.ballbox.specs.Box as box
use Rattle.ballbox.specs.Events.{bytes_left}
use Rattle.ballbox.specs.Promises as boxes
use Rattle.ballbox.specs.Promises.{count_of, word_of, words_of}
use Rattle.ballbox.specs.declared.BallBox.{BallBox}
use Rattle.ballbox.specs.declared.Event.{Event}
use Rattle.ballbox.specs.declared.Event.TheVariants.{Motion, Buttons, Host, Latch, Send, Period}
use Rattle.ballbox.proofs.Single as single
use Rattle.puck.specs.Device.{testing, Step}
use Rattle.puck.specs.Rules.{letter_t, as_box, by_box, by_t, test_byte, in_test, out_of_test, rules}
use Rattle.puck.specs.Good.{good}
use Rattle.puck.specs.Promises.{outcome, step_of, StepPromise}
use Rattle.puck.specs.declared.Puck.{Puck}
use Rattle.puck.specs.declared.PuckStepped.{PuckStepped}

-- one word or none
abbrev Few : List ℕ → Type 0
Few words = words_of (count_of words) (word_of words) ≡ words

abbrev OneWord : Step → Type 0
OneWord a = Few a.words

box_one : (b : BallBox) (e : Event) → Few (boxes.step_of b e).words
box_one b e = ap (λ (s : box.Step). s.words) (single.says b e (boxes.stepped (boxes.step_of b e)) refl)

by_box_one : (p : Puck) (e : Event) → OneWord (by_box p e)
unfolding by_box
by_box_one p e = box_one p.ball (as_box e)

t_one : (p : Puck) → OneWord (by_t p)
unfolding by_t
t_one p = cases Few (bytes_left p.ball) (λ _. refl) (λ _. refl)

in_one : (p : Puck) (e : Event) → OneWord (in_test p e)
unfolding in_test test_byte
in_one p (Motion dx dy) = by_box_one p (Motion dx dy)
in_one p (Buttons n) = by_box_one p (Buttons n)
in_one p (Host byte) = refl
in_one p Latch = by_box_one p Latch
in_one p Send = refl
in_one p Period = by_box_one p Period

out_one : (p : Puck) (e : Event) → OneWord (out_of_test p e)
unfolding out_of_test
out_one p (Motion dx dy) = by_box_one p (Motion dx dy)
out_one p (Buttons n) = by_box_one p (Buttons n)
out_one p (Host byte) = cases OneWord (eqb byte letter_t) (λ _. t_one p) (λ _. by_box_one p (Host byte))
out_one p Latch = by_box_one p Latch
out_one p Send = by_box_one p Send
out_one p Period = by_box_one p Period

step_gives_one : (p : Puck) (e : Event) → OneWord (step_of p e)
unfolding step_of rules
step_gives_one p e = cases OneWord (good p) (λ _. cases OneWord (testing p) (λ _. in_one p e) (λ _. out_one p e)) (λ _. refl)

pub says : (p : Puck) (e : Event) (r : PuckStepped) → StepPromise p e r → outcome r ≡ step_of p e
says p e r s = ap outcome s ∙ (λ i. record { refusal = (step_of p e).refusal; next = (step_of p e).next; words = step_gives_one p e i })
