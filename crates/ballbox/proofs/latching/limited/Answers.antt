-- `limited`: held by the limits of the format.
use borrow.Author.Rules.{rules}
use mathlib.Core.Path.{◌≡◌, ap, ◌∙◌}
use mir.Facts.{sfits_widen}
use mir.Syntax.{w16, w32}
use mir.Val.{to_z, of_z}
use Rattle.ballbox.specs.Latching.{limited, limit_excess}
use Rattle.ballbox.specs.Thrown.{bounded}
use Rattle.wire.specs.declared.Range.{Range}
use Rattle.ballbox.proofs.latching.limited.Goals as goal

pub returns : goal.returns
unfolding limited limit_excess bounded
returns c =
    let r = c.limits-range in
    let low : to_z w16 (of_z w16 r.result.low) ≡ r.result.low = search rules in
    let high : to_z w16 (of_z w16 r.result.high) ≡ r.result.high = search rules in
    let v : to_z w32 (of_z w32 (to_z w16 (of_z w16 c.args.v))) ≡ c.args.v = search (rules, sfits_widen) in
    simp (low, high, v) at c.held.ensures ∙ ap (λ (x : Range). bounded x.low x.high c.args.v) r.ensures
