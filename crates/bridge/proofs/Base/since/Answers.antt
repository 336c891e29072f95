-- No base, or the difference on either axis.
use borrow.Author.Rules.{rules}
use borrow.Author.Tests.{not-true, not-false}
use lib.IntN.{◌-ℤ◌}
use Rattle.bridge.specs.Remembered.{since_base}
use Rattle.bridge.proofs.Near.{difference_fits, widened}
use Rattle.bridge.proofs.Base.since.Goals as goal

pub returns-then-not-self : goal.returns-then-not-self
unfolding since_base
returns-then-not-self c = rw (not-true c.args.self.set c.if-not-self.true)

pub returns : goal.returns
unfolding since_base
returns c =
    let r = c.args.report in
    let b = c.args.self in
    rw (
      not-false b.set c.if-not-self.false,
      widened ◌-ℤ◌ (λ a b h k. difference_fits h k) r.x1 b.x (search rules) (search rules) c.from.ensures c.from-2.ensures,
      widened ◌-ℤ◌ (λ a b h k. difference_fits h k) r.y1 b.y (search rules) (search rules) c.from-3.ensures c.from-4.ensures,
    )
