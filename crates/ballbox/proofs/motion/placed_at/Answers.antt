-- `placed_at`: the sum in 32 bits, held.
use borrow.Author.Rules.{rules}
use lib.IntN.{◌+ℤ◌}
use mathlib.Core.Path.{◌≡◌, ap, ◌∙◌}
use mir.Syntax.{w16, w32}
use mir.Val.{to_z, of_z}
use Rattle.ballbox.specs.Motion.{placed_at}
use Rattle.ballbox.specs.Thrown.{bounded}
use Rattle.ballbox.specs.declared.Bounded.{Bounded}
use Rattle.numbers.proofs.Machine.{kept, passed}
use Rattle.ballbox.proofs.motion.placed_at.Goals as goal

pub returns : goal.returns
unfolding placed_at bounded
returns c =
    let f = c.ranges in
    let e = passed ◌+ℤ◌ w16 f.a f.b c.total.ensures in
    let v : to_z w16 (of_z w16 c.held-place.result.value) ≡ c.held-place.result.value = search rules in
    v ∙ ap (λ (x : Bounded). x.value) (c.held-place.ensures ∙ ap (bounded _ _) (kept w32 c.total.type_inv e))
