-- `next_at`: by the sign of the number.
use borrow.Author.Rules.{rules}
use mathlib.Core.Path.{◌≡◌}
use lib.IntN.{pos}
use lib.ListN.{get_or}
use mir.Syntax.{w16}
use mir.Val.{to_z, of_z}
use Rattle.listing.specs.Batches.{next_at}
use Rattle.listing.proofs.batches.next_at.Goals as goal

pub returns-then-told-from-lt0 : goal.returns-then-told-from-lt0
unfolding next_at
returns-then-told-from-lt0 c =
    let a = c.args in let same : to_z w16 (of_z w16 (get_or a.told.now a.from (pos 0))) ≡ get_or a.told.now a.from (pos 0) = search rules in
    rw (← same, c.if-told-from-lt0.true)

pub returns-else-told-from-lt0 : goal.returns-else-told-from-lt0
unfolding next_at
returns-else-told-from-lt0 c =
    let a = c.args in let same : to_z w16 (of_z w16 (get_or a.told.now a.from (pos 0))) ≡ get_or a.told.now a.from (pos 0) = search rules in
    rw (← same, c.if-told-from-lt0.false)
