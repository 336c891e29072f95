-- A good box that is awake is set to a format by its letter, whatever was going.
use mathlib.Core.Path.{◌≡◌, refl, ◌∙◌, ap}
use mathlib.Core.Bool.{true, false, cond}
use mathlib.Core.List.{[], ◌∷◌}
use Rattle.frames.specs.Words.{break}
use Rattle.wire.specs.Line.{letter_of, named_by, known}
use Rattle.frames.specs.Passages.{nothing}
use Rattle.wire.specs.declared.Format.{Format}
use Rattle.wire.specs.declared.Format.TheVariants.{Mm, Microsoft, Absolute, Relative, FiveByte, ThreeByte, Hexadecimal}
use Rattle.ballbox.specs.Box.{dormant}
use Rattle.ballbox.specs.Box as box
use Rattle.ballbox.specs.Presses.{remembered}
use Rattle.ballbox.specs.Commands.{command_of, obeyed}
use Rattle.ballbox.specs.Events.{gives, bytes_left, dropped, on_host, awake}
use Rattle.ballbox.specs.Good.{good}
use Rattle.ballbox.specs.Promises.{sent_words, step_of, StepPromise}
use Rattle.ballbox.specs.declared.BallBox.{BallBox}
use Rattle.ballbox.specs.declared.Stepped.{Stepped}
use Rattle.ballbox.specs.declared.Command.TheVariants.{SetFormat}
use Rattle.ballbox.specs.declared.Event.TheVariants.{Host}
use Rattle.ballbox.proofs.Single.{says}
use Rattle.ballbox.proofs.Goodness.{stepped_good}
use Rattle.ballbox.proofs.Refusals.{ruled}
use Rattle.history.specs.Carried.{SetTo}
use Rattle.history.proofs.Hosts.{none_left}
use Rattle.history.proofs.Asking.{dropped_alike}

sets_format : (f : Format) → command_of (letter_of f) ≡ SetFormat (letter_of f)
unfolding command_of known named_by
sets_format Mm = refl
sets_format Microsoft = refl
sets_format Absolute = refl
sets_format Relative = refl
sets_format FiveByte = refl
sets_format ThreeByte = refl
sets_format Hexadecimal = refl

set_by : (f : Format) (b : BallBox) → good b ≡ true → dormant b ≡ false → step_of b (Host (letter_of f)) ≡ gives (cond (bytes_left b) (break ∷ []) []) (obeyed (SetFormat (letter_of f)) (dropped b))
unfolding awake on_host
set_by f b k d = ruled b (Host (letter_of f)) false k refl d ∙ rw (sets_format f)

-- the box that comes back
pub set_to : (f : Format) (b : BallBox) (a : Stepped) → good b ≡ true → dormant b ≡ false → StepPromise b (Host (letter_of f)) a → SetTo f a.next nothing
unfolding obeyed
set_to f b a k d p =
    let e : a.next ≡ obeyed (SetFormat (letter_of f)) (dropped b) = ap (λ (x : box.Step). x.next) (says b (Host (letter_of f)) a p ∙ set_by f b k d) in
    rw e
    (record {
      good = rw (← e) (ap (λ (x : Stepped). good x.next) p ∙ stepped_good b (Host (letter_of f)) k);
      awake = (dropped_alike b).dormant ∙ d;
      format = refl;
      carries = none_left b;
      sound = tt;
    })

-- and the word that it gave: 256 where bytes were left, or none
pub set_words : (f : Format) (b : BallBox) (a : Stepped) → good b ≡ true → dormant b ≡ false → StepPromise b (Host (letter_of f)) a → sent_words a ≡ cond (bytes_left b) (break ∷ []) []
set_words f b a k d p = ap (λ (x : box.Step). x.words) (says b (Host (letter_of f)) a p ∙ set_by f b k d)

-- it remembers nothing
pub letter_empties : (f : Format) (b : BallBox) (a : Stepped) → good b ≡ true → dormant b ≡ false → StepPromise b (Host (letter_of f)) a → remembered a.next.memory ≡ []
unfolding obeyed remembered
letter_empties f b a k d p = ap (λ (x : box.Step). remembered x.next.memory) (says b (Host (letter_of f)) a p ∙ set_by f b k d)
