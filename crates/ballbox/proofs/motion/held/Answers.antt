-- `held`: below, above, or between.
use borrow.Author.Rules.{rules}
use lib.Signed.{lt_z}
use mathlib.Core.Path.{◌≡◌, sym, ◌∙◌}
use mir.Facts.{sfits_widen, to_z-of_z}
use mir.Syntax.{w16, w32, w64}
use mir.Val.{SFits, to_z, of_z}
use Rattle.ballbox.specs.Thrown.{bounded}
use Rattle.numbers.proofs.Held.{between_fits}
use Rattle.numbers.proofs.Machine.{kept}
use Rattle.numbers.specs.Signed.{held, excess}
use Rattle.ballbox.proofs.motion.held.Goals as goal

pub returns-then-x-low : goal.returns-then-x-low
unfolding bounded held excess
returns-then-x-low c =
    let low_test : lt_z (to_z w32 (of_z w32 c.args.x)) (to_z w32 (of_z w32 (to_z w16 (of_z w16 c.args.lo)))) ≡ lt_z c.args.x c.args.lo = search (rules, sfits_widen) in
    let e = simp (to_z-of_z c.ranges.x, to_z-of_z c.ranges.lo) at c.beyond.ensures in
    simp (sym low_test ∙ c.if-x-low.true, to_z-of_z c.ranges.lo, kept w64 c.beyond.type_inv e)

pub returns-then-high-x : goal.returns-then-high-x
unfolding bounded held excess
returns-then-high-x c =
    let low_test : lt_z (to_z w32 (of_z w32 c.args.x)) (to_z w32 (of_z w32 (to_z w16 (of_z w16 c.args.lo)))) ≡ lt_z c.args.x c.args.lo = search (rules, sfits_widen) in
    let high_test : lt_z (to_z w32 (of_z w32 (to_z w16 (of_z w16 c.args.hi)))) (to_z w32 (of_z w32 c.args.x)) ≡ lt_z c.args.hi c.args.x = search (rules, sfits_widen) in
    let e = simp (to_z-of_z c.ranges.x, to_z-of_z c.ranges.hi) at c.beyond-then-high-x.ensures in
    simp (sym low_test ∙ c.if-x-low.false, sym high_test ∙ c.if-high-x.true, to_z-of_z c.ranges.hi, kept w64 c.beyond-then-high-x.type_inv e)

pub overflow_cast-result : goal.overflow_cast-result
overflow_cast-result c =
    let low_test : lt_z (to_z w32 (of_z w32 c.args.x)) (to_z w32 (of_z w32 (to_z w16 (of_z w16 c.args.lo)))) ≡ lt_z c.args.x c.args.lo = search (rules, sfits_widen) in
    let high_test : lt_z (to_z w32 (of_z w32 (to_z w16 (of_z w16 c.args.hi)))) (to_z w32 (of_z w32 c.args.x)) ≡ lt_z c.args.hi c.args.x = search (rules, sfits_widen) in
    let between : SFits w16 c.args.x = between_fits c.ranges.lo c.ranges.hi (sym low_test ∙ c.if-x-low.false)
    (sym high_test ∙ c.if-high-x.false) in
    let f = between in search rules

pub returns : goal.returns
unfolding bounded held excess
returns c =
    let low_test : lt_z (to_z w32 (of_z w32 c.args.x)) (to_z w32 (of_z w32 (to_z w16 (of_z w16 c.args.lo)))) ≡ lt_z c.args.x c.args.lo = search (rules, sfits_widen) in
    let high_test : lt_z (to_z w32 (of_z w32 (to_z w16 (of_z w16 c.args.hi)))) (to_z w32 (of_z w32 c.args.x)) ≡ lt_z c.args.hi c.args.x = search (rules, sfits_widen) in
    let between : SFits w16 c.args.x = between_fits c.ranges.lo c.ranges.hi (sym low_test ∙ c.if-x-low.false)
    (sym high_test ∙ c.if-high-x.false) in
    simp
    (sym low_test ∙ c.if-x-low.false, sym high_test ∙ c.if-high-x.false, to_z-of_z c.ranges.x, to_z-of_z between)
