-- `good`: rule by rule.
use borrow.Author.Rules.{rules}
use lib.ListN.{length}
use mathlib.Core.Path.{◌≡◌}
use borrow.Author.Tests.{eq-eqb}
use Rattle.puckreader.specs.Good.{good}
use Rattle.puckreader.proofs.PuckReader.good.Goals as goal

pub returns : goal.returns
unfolding good
returns c = let three : length c.args.self.kept ≡ 3 = search rules in simp (eq-eqb _ _ three, c.holds-2.ensures, c.holds.ensures, c.holds_first.ensures, c.size_from.ensures)
