-- What the host's bytes do: the ignored rest, prompt mode, and the replies.
use Prim.Native.Nat.{ℕ, ◌+◌, ◌*◌}
use mathlib.Core.Path.{◌≡◌, refl, ap, ◌∙◌}
use mathlib.Core.Bool.{Bool, true, false, cond, ◌||◌}
use mathlib.Core.List.{List, [], ◌∷◌}
use lib.Dec.{eqb}
use borrow.Author.Tests.{eqb-true}
use Rattle.numbers.proofs.Choices.{other, neither, cases}
use Rattle.frames.specs.Words.{break}
use Rattle.wire.specs.Line.{letter_of, named_by, known}
use Rattle.wire.specs.declared.Format.{Format}
use Rattle.ballbox.specs.Box.{mode_d, nothing, going_from, with_going, with_memory, Step, due, dormant}
use Rattle.ballbox.specs.Presses.{none, hidden}
use Rattle.ballbox.specs.Commands.{letter_p, space, letterf, lettert, byte05, letterd, is_stream, command_of, is_command, ack, code_of, code_byte, reply_to, obeyed}
use Rattle.ballbox.specs.Events.{gives, quietly, bytes_left, broken_off, dropped, on_host, awake}
use Rattle.ballbox.specs.Good.{good}
use Rattle.ballbox.specs.Promises.{outcome, StepPromise}
use Rattle.ballbox.specs.declared.Settings.{Settings}
use Rattle.ballbox.specs.declared.Going.{Going}
use Rattle.ballbox.specs.declared.BallBox.{BallBox}
use Rattle.ballbox.specs.declared.Command.{Command}
use Rattle.ballbox.specs.declared.Command.TheVariants.{SetFormat, SetStream, SetPrompt, AskReport, AskAck, AskCode, AskLetters, AskButtons, Sleep, Ignored}
use Rattle.ballbox.specs.declared.Event.TheVariants.{Host}
use Rattle.ballbox.specs.declared.Stepped.{Stepped}
use Rattle.wire.proofs.Letters.{letter_named}
use Rattle.ballbox.proofs.Parts.{mode_known, parts}
use Rattle.ballbox.proofs.Refusals.{awake_step}
use Rattle.ballbox.proofs.Cases.{dropped_busy, dropped_idle}

pub rest_ignored : (n : ℕ) → is_command n ≡ false → command_of n ≡ Ignored
unfolding command_of known named_by
rest_ignored n h =
    let a2 = known n || is_stream n in
    let a3 = a2 || eqb n mode_d in
    let a4 = a3 || eqb n letter_p in
    let a5 = a4 || eqb n space in
    let a6 = a5 || eqb n letterf in
    let a7 = a6 || eqb n lettert in
    let a8 = a7 || eqb n byte05 in
    let e9 = neither a8 (eqb n letterd) h in
    let e8 = neither a7 (eqb n byte05) e9.0 in
    let e7 = neither a6 (eqb n lettert) e8.0 in
    let e6 = neither a5 (eqb n letterf) e7.0 in
    let e5 = neither a4 (eqb n space) e6.0 in
    let e4 = neither a3 (eqb n letter_p) e5.0 in
    let e3 = neither a2 (eqb n mode_d) e4.0 in
    let e2 = neither (known n) (is_stream n) e3.0 in
    rw (e2.0, e2.1, e3.1, e4.1, e5.1, e6.1, e7.1, e8.1, e9.1)

-- a command leaves its reply to be sent, and where it has none what was going
abbrev pub going_or : Going → List ℕ → Going
going_or g [] = g
going_or g (b ∷ bytes) = going_from (b ∷ bytes)

-- it empties the memory, or leaves it
abbrev pub command_empties : Command → Bool
command_empties (SetFormat f) = true
command_empties (SetStream m) = false
command_empties SetPrompt = true
command_empties AskReport = true
command_empties AskAck = false
command_empties AskCode = false
command_empties AskLetters = false
command_empties AskButtons = false
command_empties Sleep = true
command_empties Ignored = false

pub obeyed_leaves : (c : Command) (b : BallBox) → ((obeyed c b).going ≡ going_or b.going (reply_to b c)) × ((obeyed c b).memory ≡ cond (command_empties c) none b.memory)
unfolding obeyed
obeyed_leaves (SetFormat f) b = (refl, refl)
obeyed_leaves (SetStream m) b = (refl, refl)
obeyed_leaves SetPrompt b = (refl, refl)
obeyed_leaves AskReport b = (refl, refl)
obeyed_leaves AskAck b = (refl, refl)
obeyed_leaves AskCode b = (refl, refl)
obeyed_leaves AskLetters b = (refl, refl)
obeyed_leaves AskButtons b = (refl, refl)
obeyed_leaves Sleep b = (refl, refl)
obeyed_leaves Ignored b = (refl, refl)

pub obeyed_going : (c : Command) (b : BallBox) → (obeyed c b).going ≡ going_or b.going (reply_to b c)
obeyed_going c b = (obeyed_leaves c b).0

-- a byte heard awake
module _ (b : BallBox) (n : ℕ) (r : Stepped) (s : StepPromise b (Host n) r) (g : good b ≡ true) (d : dormant b ≡ false) where
  pub heard : outcome r ≡ gives (broken_off b) (obeyed (command_of n) (dropped b))
  unfolding awake on_host
  heard = awake_step b (Host n) r s g refl d

  next_is : r.next ≡ obeyed (command_of n) (dropped b)
  next_is = ap (λ (a : Step). a.next) heard

  -- an ignored byte breaks off and changes nothing else, but that what was broken off shows nothing
  pub ignored_breaks : is_command n ≡ false → bytes_left b ≡ true → outcome r ≡ gives (break ∷ []) (with_memory (hidden b.memory) (with_going nothing b))
  unfolding obeyed
  ignored_breaks h l = rw (l, rest_ignored n h, dropped_busy b l) at heard

  pub ignored_idle : is_command n ≡ false → bytes_left b ≡ false → outcome r ≡ quietly b
  unfolding obeyed
  ignored_idle h l = rw (l, rest_ignored n h, dropped_idle b l) at heard

-- what is dropped leaves the settings
pub dropped_settings : (b : BallBox) → (dropped b).settings ≡ b.settings
unfolding dropped
dropped_settings b = cases (λ (x : BallBox). x.settings ≡ b.settings) (bytes_left b) (λ e. refl) (λ e. refl)

pub dropped_awake : (b : BallBox) → dormant (dropped b) ≡ dormant b
unfolding dropped
dropped_awake b = cases (λ (x : BallBox). dormant x ≡ dormant b) (bytes_left b) (λ e. refl) (λ e. refl)

-- "prompt mode, whose letter is D however it was set": a mode of a good box that is no stream mode is D
pub prompt_letter : (b : BallBox) → good b ≡ true → is_stream b.settings.mode ≡ false → b.settings.mode ≡ mode_d
prompt_letter b g s =
    eqb-true b.settings.mode mode_d (other (is_stream b.settings.mode) (eqb b.settings.mode mode_d) (mode_known b.settings (parts b g).settings) s)

module _ (b : BallBox) (r : Stepped) (g : good b ≡ true) (d : dormant b ≡ false) where
  -- D and P set it
  pub prompt_by_d : StepPromise b (Host mode_d) r → (r.next.settings.mode ≡ mode_d) × (due r.next ≡ false)
  unfolding command_of obeyed known named_by
  prompt_by_d s = let e = next_is b mode_d r s g d in (ap (λ (x : BallBox). x.settings.mode) e, ap due e)

  pub prompt_by_p : StepPromise b (Host letter_p) r → (r.next.settings.mode ≡ mode_d) × (due r.next ≡ true)
  unfolding command_of obeyed known named_by
  prompt_by_p s = let e = next_is b letter_p r s g d in (ap (λ (x : BallBox). x.settings.mode) e, ap due e)

  -- "Space: ACK."
  pub reply_to_space : StepPromise b (Host space) r → r.next.going ≡ going_from ack
  unfolding command_of obeyed known named_by
  reply_to_space s = ap (λ (x : BallBox). x.going) (next_is b space r s g d)

  -- "`f`: one byte, 10H plus twice the code"
  pub reply_to_f : (f : Format) → b.settings.format ≡ letter_of f → StepPromise b (Host letterf) r → r.next.going ≡ going_from ((0x10 + 2 * code_of f) ∷ [])
  unfolding command_of obeyed code_byte known named_by
  reply_to_f f e s =
      ap (λ (x : BallBox). x.going) (next_is b letterf r s g d) ∙
      ap (λ (c : ℕ). going_from (c ∷ [])) (ap (λ (x : Settings). code_byte x.format) (dropped_settings b) ∙ rw (ap named_by e ∙ letter_named f))

  pub awake_after_f : StepPromise b (Host letterf) r → dormant r.next ≡ false
  unfolding command_of obeyed known named_by
  awake_after_f s = ap dormant (next_is b letterf r s g d) ∙ (dropped_awake b ∙ d)

  -- "`t`: format letter, mode letter."
  pub reply_to_t : StepPromise b (Host lettert) r → r.next.going ≡ going_from (b.settings.format ∷ b.settings.mode ∷ [])
  unfolding command_of obeyed known named_by
  reply_to_t s =
      ap (λ (x : BallBox). x.going) (next_is b lettert r s g d) ∙
      ap (λ (x : Settings). going_from (x.format ∷ x.mode ∷ [])) (dropped_settings b)

  -- "05H: buttons, 0, 0."
  pub reply_to_05 : StepPromise b (Host byte05) r → r.next.going ≡ going_from (b.settings.buttons ∷ 0 ∷ 0 ∷ [])
  unfolding command_of obeyed known named_by
  reply_to_05 s =
      ap (λ (x : BallBox). x.going) (next_is b byte05 r s g d) ∙
      ap (λ (x : Settings). going_from (x.buttons ∷ 0 ∷ 0 ∷ [])) (dropped_settings b)
