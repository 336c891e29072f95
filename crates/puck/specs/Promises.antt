-- The promises of `made`, `good` and `step`.
use Rattle.std.specs.Prelude.{ℕ, ◌≡◌, Bool, cond, List, [], ◌∷◌}
use Rattle.wire.specs.Numbers.{bad_state, bad_buttons, RefusesRightly}
use Rattle.ballbox.specs.Promises.{count_of, word_of, words_of}
use Rattle.ballbox.specs.declared.Event.{Event}
use Rattle.puck.specs.Device.{made, Step, refused}
use Rattle.puck.specs.Rules.{rules}
use Rattle.puck.specs.Good as devices
use Rattle.puck.specs.declared.Puck.{Puck}
use Rattle.puck.specs.declared.PuckStepped.{PuckStepped}

-- a step as the program hands it back, and read again
abbrev pub stepped : Step → PuckStepped
stepped a = record { refusal = a.refusal; sent = count_of a.words; word = word_of a.words; rest = 0; next = a.next }

abbrev pub sent_words : PuckStepped → List ℕ
sent_words r = words_of r.sent r.word

abbrev pub outcome : PuckStepped → Step
outcome r = record { refusal = r.refusal; next = r.next; words = sent_words r }

-- the promise of `made`
abbrev pub MadePromise : ℕ → ℕ → ℕ → Puck → Type 0
MadePromise buttons revision maker p = p ≡ made buttons revision maker

-- the promise of `good`
abbrev pub GoodPromise : Puck → Bool → Type 0
GoodPromise p answer = answer ≡ devices.good p

-- 6 before all; 3 is the box's
unfoldable pub step_of : Puck → Event → Step
step_of p e = cond (devices.good p) (rules p e) (refused bad_state p)

-- the device's refusals: each "returns the old state [..], no word"
abbrev pub StepRefusal : Puck → Step → Type 0
StepRefusal p a = RefusesRightly (λ (s : Step). s.refusal) (refused bad_state p ∷ refused bad_buttons p ∷ []) a

-- the promise of `step`
abbrev pub StepPromise : Puck → Event → PuckStepped → Type 0
StepPromise p e r = r ≡ stepped (step_of p e)
