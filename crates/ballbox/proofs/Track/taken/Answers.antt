-- `taken`: either axis limited.
use borrow.Author.Rules.{rules}
use Prim.Native.Nat.{ℕ}
use lib.IntN.{ℤ}
use mathlib.Core.Path.{◌≡◌, ap, ap₂, ◌∙◌}
use mir.Syntax.{w16}
use mir.Val.{to_z, of_z}
use Rattle.ballbox.specs.Latching.{limited, limit_excess, taken, taken_over}
use Rattle.ballbox.specs.Thrown.{both}
use Rattle.ballbox.specs.declared.Bounded.{Bounded}
use Rattle.ballbox.specs.declared.Pair.{Pair}
use Rattle.ballbox.proofs.Track.taken.Goals as goal

abbrev limited_to : ℕ → ℤ → Bounded
limited_to letter v = record { value = limited letter v; excess = limit_excess letter v }

pub returns : goal.returns
unfolding taken taken_over both
returns c =
    let l = c.args.letter in
    let m = c.movement-movement in
    let x : to_z w16 (of_z w16 m.result.x) ≡ m.result.x = search rules in
    let y : to_z w16 (of_z w16 m.result.y) ≡ m.result.y = search rules in
    let ex = c.limited-x.ensures ∙ ap (limited_to l) (x ∙ ap (λ (p : Pair). p.x) m.ensures) in
    let ey = c.limited-y.ensures ∙ ap (limited_to l) (y ∙ ap (λ (p : Pair). p.y) m.ensures) in
    c.both.ensures ∙ ap₂ both ex ey
