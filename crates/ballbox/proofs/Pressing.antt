-- What the steps do with what is remembered, sentence by sentence of the request.
use Prim.Native.Nat.{ℕ}
use mathlib.Core.Path.{◌≡◌, refl, ap, ◌∙◌}
use mathlib.Core.Bool.{Bool, true, false, cond, or-true}
use mathlib.Core.List.{List, [], ◌∷◌}
use native.Mathlib.Omega.{arith}
use lib.Dec.{eqb, ltb}
use lib.ListN.{length}
use borrow.Author.Tests.{lt-ltb, eqb-true}
use Rattle.numbers.proofs.Choices.{cases}
use Rattle.numbers.proofs.Tested.{right}
use Rattle.wire.specs.Line.{size_by}
use Rattle.ballbox.specs.Box.{Step, dormant, due}
use Rattle.ballbox.specs.Presses.{remembered, any_remembered, none, remembering, showing_first, showing}
use Rattle.ballbox.specs.Latching.{latched, with_second, second_latched}
use Rattle.ballbox.specs.Commands.{is_stream, command_of, obeyed}
use Rattle.ballbox.specs.Events.{on_buttons, bytes_left, wanted, second_now, with_byte_ready, memory_after, latching, next_byte, sending, dropped, on_host, awake}
use Rattle.ballbox.specs.Good.{good}
use Rattle.ballbox.specs.Promises.{StepPromise}
use Rattle.ballbox.specs.declared.BallBox.{BallBox}
use Rattle.ballbox.specs.declared.Command.{Command}
use Rattle.ballbox.specs.declared.Event.TheVariants.{Buttons, Host}
use Rattle.ballbox.specs.declared.Stepped.{Stepped}
use Rattle.ballbox.proofs.Outgoing.{left_idle, size_known}
use Rattle.ballbox.proofs.Parts.{letter_known, parts}
use Rattle.ballbox.proofs.Remembering.{remembered_none, remembered_hidden, remembered_length}
use Rattle.ballbox.proofs.Obeying.{command_empties, obeyed_leaves}
use Rattle.ballbox.proofs.Refusals.{awake_step}
use Rattle.ballbox.proofs.Cases.{latching_wanted, sending_byte, sending_silence}

-- "Buttons no longer sets due itself"
pub buttons_due : (n : ℕ) (b : BallBox) → due (on_buttons n b) ≡ due b
unfolding on_buttons
buttons_due n b = cases (λ (x : BallBox). due x ≡ due b) (eqb n b.settings.buttons) (λ e. refl) (λ e. refl)

-- "In stream modes the box shall remember button states"; "prompt mode remembers nothing"
pub buttons_remembered : (n : ℕ) (b : BallBox) → eqb n b.settings.buttons ≡ false → (on_buttons n b).memory ≡ cond (is_stream b.settings.mode) (remembering n b.memory) b.memory
unfolding on_buttons
buttons_remembered n b e = rw e

module _ (b : BallBox) (n : ℕ) (r : Stepped) (s : StepPromise b (Buttons n) r) (g : good b ≡ true) (d : dormant b ≡ false) (l : ltb 7 n ≡ false) (e : eqb n b.settings.buttons ≡ false) where
  pressed : r.next ≡ on_buttons n b
  unfolding awake
  pressed = ap (λ (x : Step). x.next) (awake_step b (Buttons n) r s g l d)

  pub change_remembered : is_stream b.settings.mode ≡ true → (r.next.memory ≡ remembering n b.memory) × (due r.next ≡ due b)
  change_remembered m = (ap (λ (x : BallBox). x.memory) pressed ∙ (buttons_remembered n b e ∙ rw m), ap due pressed ∙ buttons_due n b)

  pub change_in_prompt : is_stream b.settings.mode ≡ false → r.next.memory ≡ b.memory
  change_in_prompt m = ap (λ (x : BallBox). x.memory) pressed ∙ (buttons_remembered n b e ∙ rw m)

-- "While any state is remembered a report counts as due"
pub remembered_wanted : (b : BallBox) (n : ℕ) (ns : List ℕ) → good b ≡ true → remembered b.memory ≡ n ∷ ns → wanted b ≡ true
remembered_wanted b n ns g e =
    let c = b.memory.count in
    rw (lt-ltb 0 c (omega (arith, remembered_length b.memory (parts b g).memory, ap length e)), or-true (due b))

-- "D, P, `d` and the format commands empty the memory"; the others leave it
pub obeyed_memory : (c : Command) (b : BallBox) → (obeyed c b).memory ≡ cond (command_empties c) none b.memory
obeyed_memory c b = (obeyed_leaves c b).1

-- breaking off leaves what is remembered
pub dropped_remembered : (b : BallBox) → remembered (dropped b).memory ≡ remembered b.memory
unfolding dropped
dropped_remembered b =
    cases (λ (x : BallBox). remembered x.memory ≡ remembered b.memory) (bytes_left b) (λ e. remembered_hidden b.memory) (λ e. refl)

pub host_remembered : (b : BallBox) (n : ℕ) (r : Stepped) → StepPromise b (Host n) r → good b ≡ true → dormant b ≡ false → remembered r.next.memory ≡ cond (command_empties (command_of n)) [] (remembered b.memory)
unfolding awake on_host
host_remembered b n r s g d =
    ap (λ (x : Step). remembered x.next.memory) (awake_step b (Host n) r s g refl d) ∙
    (ap remembered (obeyed_memory (command_of n) (dropped b)) ∙
    go (command_empties (command_of n)))
  where
    go : (t : Bool) → remembered (cond t none (dropped b).memory) ≡ cond t [] (remembered b.memory)
    go true = remembered_none
    go false = dropped_remembered b

-- a report that is latched shows the first, if there is one
pub latch_shows : (b : BallBox) → bytes_left b ≡ false → wanted b ≡ true → (latching b).memory ≡ showing_first b.memory
unfolding latched
latch_shows b l w = ap (λ (x : BallBox). x.memory) (latching_wanted b l w)

-- what sending leaves: "until the report's last byte has gone"
ready_memory : (b : BallBox) → (next_byte (with_byte_ready b)).next.memory ≡ memory_after b.going b.memory
unfolding next_byte with_byte_ready second_latched with_second memory_after
ready_memory b = cases (λ (x : BallBox). memory_after x.going x.memory ≡ memory_after b.going b.memory) (second_now b) (λ e. refl) (λ e. refl)

pub send_busy : (b : BallBox) → bytes_left b ≡ true → (sending b).next.memory ≡ memory_after b.going b.memory
send_busy b l = ap (λ (x : Step). x.next.memory) (sending_byte b l) ∙ ready_memory b

pub send_idle : (b : BallBox) → bytes_left b ≡ false → (sending b).next.memory ≡ b.memory
send_idle b l = ap (λ (x : Step). x.next.memory) (sending_silence b l)

-- where no bytes are left none is being shown, so a reply's last byte removes none
pub idle_shows_none : (b : BallBox) → good b ≡ true → bytes_left b ≡ false → showing b.memory ≡ false
idle_shows_none b g l = go (showing b.memory) refl
  where
    go : (t : Bool) → showing b.memory ≡ t → t ≡ false
    go false e = refl
    go true e =
        let p = parts b g in
        let f = b.settings.format in
        let z = (left_idle f b.going p.going l).length0 in
        let k = eqb-true b.going.length (size_by f) (right (any_remembered b.memory) _ (rw e at p.shows)) in
        absurd (omega (arith, size_known f (letter_known b.settings p.settings)))
