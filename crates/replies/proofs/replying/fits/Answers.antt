-- `fits`: by the reply.
use Rattle.std.proofs.Common.{Option, Some}
use Prim.Native.Nat.{ℕ}
use mathlib.Core.Path.{◌≡◌, refl, ◌∙◌, ap}
use mathlib.Core.Bool.{Bool}
use Rattle.replies.specs.Replying.{fits}
use Rattle.replies.specs.declared.Kind.{Kind}
use Rattle.replies.proofs.replying.fits.Goals as goal

at : {k j : Option Kind} (place byte : ℕ) {t : Bool} → k ≡ j → t ≡ fits j place byte → t ≡ fits k place byte
at place byte e h = rw e h

pub returns-in-None : goal.returns-in-None
unfolding fits
returns-in-None c = rw c.in-None.is

pub returns-in-Some-Ack : goal.returns-in-Some-Ack
unfolding fits
returns-in-Some-Ack c = at _ _ (c.in-Some-Ack.is ∙ ap Some (rw c.in-Some-Ack.is at c.in-Some-Ack.field-0-is)) refl

pub returns-in-Some-Code : goal.returns-in-Some-Code
unfolding fits
returns-in-Some-Code c = at _ _ (c.in-Some-Code.is ∙ ap Some (rw c.in-Some-Code.is at c.in-Some-Code.field-0-is)) (c.is_some.ensures ∙ c.letter_of_code.ensures.some)

pub returns-in-Some-Letters : goal.returns-in-Some-Letters
unfolding fits
returns-in-Some-Letters c = at _ _ (c.in-Some-Letters.is ∙ ap Some (rw c.in-Some-Letters.is at c.in-Some-Letters.field-0-is)) c.letter_fits.ensures

pub returns-in-Some-Buttons : goal.returns-in-Some-Buttons
unfolding fits
returns-in-Some-Buttons c = at _ _ (c.in-Some-Buttons.is ∙ ap Some (rw c.in-Some-Buttons.is at c.in-Some-Buttons.field-0-is)) refl
