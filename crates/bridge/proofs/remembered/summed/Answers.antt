-- Either axis.
use borrow.Author.Rules.{rules}
use lib.IntN.{◌+ℤ◌}
use Rattle.numbers.proofs.Held.{sum_fits}
use Rattle.bridge.proofs.Near.{widened}
use Rattle.bridge.proofs.remembered.summed.Goals as goal

pub returns : goal.returns
returns c =
    let r = c.args.report in
    rw (
      widened ◌+ℤ◌ (λ a b h k. sum_fits h k) r.x1 r.x2 (search rules) (search rules) c.from.ensures c.from-2.ensures,
      widened ◌+ℤ◌ (λ a b h k. sum_fits h k) r.y1 r.y2 (search rules) (search rules) c.from-3.ensures c.from-4.ensures,
    )
