-- What the limits throw away: a value and its excess make up what was handed in, each sum is the held sum of the one before and the step's
-- excess, and the words stay as they are.
use Prim.Native.Nat.{ℕ}
use mathlib.Core.Path.{◌≡◌, refl, sym, ap, ap₂, ◌∙◌}
use mathlib.Core.Bool.{Bool, true, false, not, cond, ◌&&◌, ◌||◌}
use mathlib.Core.List.{[], ◌∷◌}
use lib.Dec.{eqb}
use lib.IntN.{ℤ, pos, ◌+ℤ◌, +ℤ_idr}
use lib.Signed.{lt_z}
use Rattle.numbers.specs.Signed.{least_long, most_long, held_sum, sum_excess, held_long}
use Rattle.numbers.proofs.Choices.{both, cases}
use Rattle.numbers.proofs.Held.{held_same, held_inside, held_plain, held_excess, excess_none}
use Rattle.numbers.proofs.Tested.{left, right}
use Rattle.frames.specs.Words.{silence}
use Rattle.wire.specs.Line.{letter_of}
use Rattle.wire.specs.Numbers.{bad_state, bad_buttons}
use Rattle.wire.specs.Holds.{◌to◌, within}
use Rattle.wire.specs.declared.Format.TheVariants.{Absolute}
use Rattle.ballbox.specs.Thrown.{excesses, no_excess, sums, no_sums, added}
use Rattle.ballbox.specs.Box.{Step, fresh_box, with_sums, refused, dormant}
use Rattle.ballbox.specs.Presses.{to_show}
use Rattle.ballbox.specs.Motion.{counted, counted_over}
use Rattle.ballbox.specs.Latching.{limits, limited, limit_excess, movement, taken, taken_over, latched_report, latched, second_latched}
use Rattle.ballbox.specs.Commands.{command_of, obeyed}
use Rattle.ballbox.specs.Events.{gives, on_buttons, on_period, bytes_left, wanted, latching, second_now, with_byte_ready, next_byte, sending, dropped, on_host, woken, awake, asleep}
use Rattle.ballbox.specs.Good.{on_pad, good}
use Rattle.ballbox.specs.Promises.{outcome, above_seven, step_of, FreshPromise, StepPromise}
use Rattle.ballbox.specs.Excesses.{limit_throws, counter_throws, thrown, added_up, is_long, are_long, but_sums, seen}
use Rattle.ballbox.specs.declared.Pair.{Pair}
use Rattle.ballbox.specs.declared.Track.{Track}
use Rattle.ballbox.specs.declared.Excess.{Excess}
use Rattle.ballbox.specs.declared.Sums.{Sums}
use Rattle.ballbox.specs.declared.BallBox.{BallBox}
use Rattle.ballbox.specs.declared.Command.{Command}
use Rattle.ballbox.specs.declared.Command.TheVariants.{SetFormat, SetStream, SetPrompt, AskReport, AskAck, AskCode, AskLetters, AskButtons, Sleep, Ignored}
use Rattle.ballbox.specs.declared.Event.{Event}
use Rattle.ballbox.specs.declared.Event.TheVariants.{Motion, Buttons, Host, Latch, Send, Period}
use Rattle.ballbox.specs.declared.Stepped.{Stepped}
use Rattle.ballbox.proofs.Single.{says}

-- a movement that is limited, and its excess, are the movement
pub taken_whole : (letter : ℕ) (t : Track) →
    ((taken letter t).x +ℤ (taken_over letter t).x ≡ (movement letter t).x) × ((taken letter t).y +ℤ (taken_over letter t).y ≡ (movement letter t).y)
unfolding taken taken_over limited limit_excess
taken_whole letter t = (held_excess _ _ (movement letter t).x, held_excess _ _ (movement letter t).y)

-- a counter that is held, and its excess, are the sum
pub counted_whole : (c : Pair) (dx dy : ℤ) → ((counted c dx dy).x +ℤ (counted_over c dx dy).x ≡ c.x +ℤ dx) × ((counted c dx dy).y +ℤ (counted_over c dx dy).y ≡ c.y +ℤ dy)
unfolding counted counted_over held_sum sum_excess
counted_whole c dx dy = (held_excess _ _ (c.x +ℤ dx), held_excess _ _ (c.y +ℤ dy))

-- a report of A throws nothing away
pub position_whole : (t : Track) → on_pad t.position ≡ true → taken_over (letter_of Absolute) t ≡ no_excess
unfolding taken_over movement limit_excess limits
position_whole t h =
    let p = t.position in
    let x = excess_none (pos 0) (pos 4095) p.x (left (within (pos 0 to pos 4095) p.x) (within (pos 0 to pos 4095) p.y) h) in
    let y = excess_none (pos 0) (pos 4095) p.y (right (within (pos 0 to pos 4095) p.x) (within (pos 0 to pos 4095) p.y) h) in
    λ i. excesses (x i) (y i)

-- a sum is a 64-bit number; with nothing added it stays, and while it is at neither end it is the plain sum
sum_long : (a b : ℤ) → is_long (held_long a b) ≡ true
unfolding held_long
sum_long a b = held_inside least_long most_long (a +ℤ b) refl

sum_same : (a : ℤ) → is_long a ≡ true → held_long a (pos 0) ≡ a
unfolding held_long
sum_same a h = rw (+ℤ_idr a) (held_same least_long most_long a h)

pub sum_plain : (a b : ℤ) → lt_z least_long (held_long a b) && lt_z (held_long a b) most_long ≡ true → held_long a b ≡ a +ℤ b
unfolding held_long
sum_plain a b h = held_plain least_long most_long (a +ℤ b) h

added_none : (s : Excess) → is_long s.x && is_long s.y ≡ true → added s no_excess ≡ s
unfolding added
added_none s h =
    let x = sum_same s.x (left (is_long s.x) (is_long s.y) h) in
    let y = sum_same s.y (right (is_long s.x) (is_long s.y) h) in
    λ i. excesses (x i) (y i)

added_long : (s e : Excess) → is_long (added s e).x && is_long (added s e).y ≡ true
unfolding added
added_long s e = both _ _ (sum_long s.x e.x) (sum_long s.y e.y)

-- what leaves the sums alone: all but Motion, Latch and Send
buttons_sums : (n : ℕ) (b : BallBox) → (on_buttons n b).sums ≡ b.sums
unfolding on_buttons
buttons_sums n b = cases (λ (x : BallBox). x.sums ≡ b.sums) (eqb n b.settings.buttons) (λ e. refl) (λ e. refl)

dropped_sums : (b : BallBox) → (dropped b).sums ≡ b.sums
unfolding dropped
dropped_sums b = cases (λ (x : BallBox). x.sums ≡ b.sums) (bytes_left b) (λ e. refl) (λ e. refl)

obeyed_beside : (s : Sums) (c : Command) (b : BallBox) → obeyed c (with_sums s b) ≡ with_sums s (obeyed c b)
unfolding obeyed
obeyed_beside s (SetFormat f) b = refl
obeyed_beside s (SetStream m) b = refl
obeyed_beside s SetPrompt b = refl
obeyed_beside s AskReport b = refl
obeyed_beside s AskAck b = refl
obeyed_beside s AskCode b = refl
obeyed_beside s AskLetters b = refl
obeyed_beside s AskButtons b = refl
obeyed_beside s Sleep b = refl
obeyed_beside s Ignored b = refl

obeyed_sums : (c : Command) (b : BallBox) → (obeyed c b).sums ≡ b.sums
obeyed_sums c b = ap (λ (x : BallBox). x.sums) (obeyed_beside b.sums c b)

asleep_sums : (b : BallBox) (e : Event) → (asleep b e).next.sums ≡ b.sums
unfolding asleep woken
asleep_sums b (Motion dx dy) = refl
asleep_sums b (Buttons n) = refl
asleep_sums b (Host n) = refl
asleep_sums b Latch = refl
asleep_sums b Send = refl
asleep_sums b Period = refl

-- each sum after a step is the held sum of the one before and the step's excess
module _ (b : BallBox) (h : are_long b.sums ≡ true) where
  limit_none : added b.sums.limit no_excess ≡ b.sums.limit
  limit_none = added_none b.sums.limit (left (is_long b.sums.limit.x && is_long b.sums.limit.y) (is_long b.sums.counter.x && is_long b.sums.counter.y) h)

  counter_none : added b.sums.counter no_excess ≡ b.sums.counter
  counter_none = added_none b.sums.counter (right (is_long b.sums.limit.x && is_long b.sums.limit.y) (is_long b.sums.counter.x && is_long b.sums.counter.y) h)

  same_sums : b.sums ≡ added_up b.sums no_sums
  same_sums = sym (ap₂ sums limit_none counter_none)

  latched_sums : (t : Bool) → (cond t (latched b) b).sums ≡ added_up b.sums (sums (cond t (taken_over b.settings.format b.track) no_excess) no_excess)
  unfolding latched
  latched_sums true = ap (sums _) (sym counter_none)
  latched_sums false = same_sums

  sent_sums : (t u : Bool) → (cond t (next_byte (cond u (second_latched b) b)) (gives (silence ∷ []) b)).next.sums ≡
      added_up b.sums (sums (cond (t && u) (taken_over b.settings.format b.track) no_excess) no_excess)
  unfolding next_byte second_latched
  sent_sums true true = ap (sums _) (sym counter_none)
  sent_sums true false = same_sums
  sent_sums false u = same_sums

  awake_sums : (e : Event) → (awake b e).next.sums ≡ added_up b.sums (sums (limit_throws b e) (counter_throws b e))
  unfolding awake on_period on_host latching sending with_byte_ready
  awake_sums (Motion dx dy) = ap (λ (l : Excess). sums l (added b.sums.counter (counted_over b.track.counter dx dy))) (sym limit_none)
  awake_sums (Buttons n) = buttons_sums n b ∙ same_sums
  awake_sums (Host n) = obeyed_sums (command_of n) (dropped b) ∙ (dropped_sums b ∙ same_sums)
  awake_sums Latch = latched_sums (not (bytes_left b) && wanted b)
  awake_sums Send = sent_sums (bytes_left b) (second_now b)
  awake_sums Period = same_sums

  ruled_sums : (e : Event) (g l d : Bool) (x y : Step) → x.next.sums ≡ b.sums → y.next.sums ≡ b.sums → (cond g x (cond l y (cond d (asleep b e) (awake b e)))).next.sums ≡
      added_up b.sums (cond (g || l || d) no_sums (sums (limit_throws b e) (counter_throws b e)))
  ruled_sums e true l d x y p q = p ∙ same_sums
  ruled_sums e false true d x y p q = q ∙ same_sums
  ruled_sums e false false true x y p q = asleep_sums b e ∙ same_sums
  ruled_sums e false false false x y p q = awake_sums e

  pub stepped_sums : (e : Event) → (step_of b e).next.sums ≡ added_up b.sums (thrown b e)
  unfolding step_of thrown
  stepped_sums e = ruled_sums e (not (good b)) (above_seven e) (dormant b) _ _ refl refl

  -- and a 64-bit number as before
  pub stepped_long : (e : Event) → are_long (step_of b e).next.sums ≡ true
  stepped_long e = rw (stepped_sums e) (both _ _ (added_long b.sums.limit (thrown b e).limit) (added_long b.sums.counter (thrown b e).counter))

pub fresh_sums : (b : BallBox) → FreshPromise b → b.sums ≡ no_sums
unfolding fresh_box
fresh_sums b f = ap (λ (x : BallBox). x.sums) f

pub sums_after : (b : BallBox) (e : Event) (r : Stepped) → StepPromise b e r → are_long b.sums ≡ true → r.next.sums ≡ added_up b.sums (thrown b e)
sums_after b e r s h = ap (λ (a : Stepped). a.next.sums) s ∙ stepped_sums b h e

-- "The line words stay as they are": but for the sums a step tells no two boxes apart that differ in them alone
either_box : (t : Bool) (x y x' y' : BallBox) → but_sums x ≡ but_sums x' → but_sums y ≡ but_sums y' → but_sums (cond t x y) ≡ but_sums (cond t x' y')
either_box true x y x' y' p q = p
either_box false x y x' y' p q = q

either_step : (t : Bool) (x y x' y' : Step) → seen x ≡ seen x' → seen y ≡ seen y' → seen (cond t x y) ≡ seen (cond t x' y')
either_step true x y x' y' p q = p
either_step false x y x' y' p q = q

obeyed_blind : (c : Command) (b : BallBox) → but_sums (obeyed c b) ≡ but_sums (obeyed c (but_sums b))
obeyed_blind c b = ap but_sums (sym (obeyed_beside no_sums c b))

module _ (b : BallBox) where
  buttons_blind : (n : ℕ) → but_sums (on_buttons n b) ≡ but_sums (on_buttons n (but_sums b))
  unfolding on_buttons
  buttons_blind n = either_box (eqb n b.settings.buttons) _ _ _ _ refl refl

  latching_blind : but_sums (latching b) ≡ but_sums (latching (but_sums b))
  unfolding latching latched latched_report to_show
  latching_blind = either_box (not (bytes_left b) && wanted b) (latched b) b (latched (but_sums b)) (but_sums b) refl refl

  ready_blind : but_sums (with_byte_ready b) ≡ but_sums (with_byte_ready (but_sums b))
  unfolding with_byte_ready second_latched
  ready_blind = either_box (second_now b) _ _ _ _ refl refl

  dropped_blind : but_sums (dropped b) ≡ but_sums (dropped (but_sums b))
  unfolding dropped
  dropped_blind = either_box (bytes_left b) _ _ _ _ refl refl

  host_blind : (c : Command) → but_sums (obeyed c (dropped b)) ≡ but_sums (obeyed c (dropped (but_sums b)))
  host_blind c = obeyed_blind c (dropped b) ∙ (ap (λ (x : BallBox). but_sums (obeyed c x)) dropped_blind ∙ sym (obeyed_blind c (dropped (but_sums b))))

  awake_blind : (e : Event) → seen (awake b e) ≡ seen (awake (but_sums b) e)
  unfolding seen awake on_period on_host sending next_byte
  awake_blind (Motion dx dy) = refl
  awake_blind (Buttons n) = ap (λ (x : BallBox). seen (gives [] x)) (buttons_blind n)
  awake_blind (Host n) = ap (λ (x : BallBox). seen (gives (on_host n b).words x)) (host_blind (command_of n))
  awake_blind Latch = ap (λ (x : BallBox). seen (gives [] x)) latching_blind
  awake_blind Send = either_step (bytes_left b) _ _ _ _ (ap (λ (x : BallBox). seen (next_byte x)) ready_blind) refl
  awake_blind Period = refl

  asleep_blind : (e : Event) → seen (asleep b e) ≡ seen (asleep (but_sums b) e)
  unfolding seen asleep woken
  asleep_blind (Motion dx dy) = refl
  asleep_blind (Buttons n) = refl
  asleep_blind (Host n) = refl
  asleep_blind Latch = refl
  asleep_blind Send = refl
  asleep_blind Period = refl

  refused_blind : (n : ℕ) → seen (refused n b) ≡ seen (refused n (but_sums b))
  unfolding seen
  refused_blind n = refl

  step_blind : (e : Event) → seen (step_of b e) ≡ seen (step_of (but_sums b) e)
  unfolding step_of good
  step_blind e =
      either_step (not (good b)) _ _ _ _ (refused_blind bad_state)
      (either_step (above_seven e) _ _ _ _ (refused_blind bad_buttons) (either_step (dormant b) _ _ _ _ (asleep_blind e) (awake_blind e)))

pub words_stay : (b c : BallBox) (e : Event) (r s : Stepped) → but_sums b ≡ but_sums c → StepPromise b e r → StepPromise c e s → seen (outcome r) ≡ seen (outcome s)
words_stay b c e r s k p q =
    ap seen (says b e r p) ∙ (step_blind b e ∙ (ap (λ (x : BallBox). seen (step_of x e)) k ∙ (sym (step_blind c e) ∙ sym (ap seen (says c e s q)))))
