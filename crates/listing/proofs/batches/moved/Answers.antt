-- `moved`: the numbers are those that stand there.
use borrow.Author.Rules.{rules}
use Prim.Native.Nat.{ℕ, ◌+◌}
use mathlib.Core.Path.{◌≡◌}
use lib.IntN.{ℤ, pos}
use lib.ListN.{get_or}
use mir.Syntax.{w16}
use mir.Val.{SFits, to_z, of_z}
use mir.Facts.{to_z-of_z}
use Rattle.listing.specs.Batches.{report_at}
use Rattle.listing.proofs.Small.{sum_fits, sum_few}
use Rattle.listing.proofs.batches.moved.Goals as goal

pub returns : goal.returns
unfolding report_at
returns c = let a = c.args in
    let number : ℕ → ℤ = λ i. get_or a.told.now (a.from + i) (pos 0) in
    let n1 : to_z w16 (of_z w16 (number 1)) ≡ number 1 = search rules in
    let n2 : SFits w16 (number 2) = search rules in
    let n4 : SFits w16 (number 4) = search rules in
    let n3 : SFits w16 (number 3) = search rules in
    let n5 : SFits w16 (number 5) = search rules in (
      (λ n. rw (c.buttons.ensures, c.plain.ensures, c.sum.ensures, c.sum-2.ensures, n1, to_z-of_z n2, to_z-of_z n3, to_z-of_z n4, to_z-of_z n5, to_z-of_z (sum_fits n2 n4), to_z-of_z (sum_fits n3 n5))),
      rw (c.sum.ensures, to_z-of_z n2, to_z-of_z n4, to_z-of_z (sum_fits n2 n4)) (sum_few n2 n4),
      rw (c.sum-2.ensures, to_z-of_z n3, to_z-of_z n5, to_z-of_z (sum_fits n3 n5)) (sum_few n3 n5),
    )
