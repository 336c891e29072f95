-- The two tests, told as a number.
use mathlib.Core.Path.{◌≡◌, refl, ◌∙◌}
use mathlib.Core.Bool.{Bool, true, false}
use borrow.Author.Tests.{eq-eqb, ne_eqb}
use native.Mathlib.Nat.{div-one}
use mir.Val.{bool_byte}
use Rattle.numbers.specs.Bits.{value, bit}
use Rattle.saves.proofs.rules.new_lowest.Goals as goal
use Rattle.saves.proofs.rules.new_lowest.Goals.{then-now-eq1, else-now-eq1}

as_value : (b : Bool) → bool_byte b ≡ value b
as_value true = refl
as_value false = refl

pub returns : goal.returns
unfolding bit
returns c = rw (div-one c.args.now, div-one c.args.was)
    (c.from.ensures ∙ as_value _ ∙ (elim c.if-now-eq1.branch [
      | then-now-eq1 w ↦ rw (w.from-is, eq-eqb _ _ w.if-now-eq1.true)
      | else-now-eq1 w ↦ rw (w.from-is, ne_eqb _ _ w.if-now-eq1.false)
    ]))
