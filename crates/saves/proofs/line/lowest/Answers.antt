-- By the bit.
use mathlib.Core.Path.{◌≡◌, refl, ◌∙◌}
use mathlib.Core.Bool.{Bool, true, false, cond}
use native.Mathlib.Nat.{div-one}
use mir.Val.{bool_byte}
use Rattle.numbers.specs.Bits.{bit}
use Rattle.saves.proofs.line.lowest.Goals as goal

one_or_none : (b : Bool) → bool_byte b ≡ cond b 1 0
one_or_none true = refl
one_or_none false = refl

pub returns : goal.returns
unfolding bit
returns c = rw (div-one c.args.buttons) (c.from.ensures ∙ one_or_none _)
