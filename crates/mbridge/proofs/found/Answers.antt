-- What was found, case by case.
use Rattle.std.proofs.Common.{refl, inl, inr}
use Rattle.mbridge.specs.Recording.{bridge_behind, lines_for}
use Rattle.mbridge.proofs.found.Goals as goal

pub returns-in-Nothing : goal.returns-in-Nothing
unfolding bridge_behind lines_for
returns-in-Nothing c = elim c.in-Nothing.is [ inl e ↦ rw e (record { next = refl; lines = refl }) | inr e ↦ rw e (record { next = refl; lines = refl }) ]

pub returns-in-Bad : goal.returns-in-Bad
unfolding bridge_behind lines_for
returns-in-Bad c = rw c.in-Bad.is (record { next = refl; lines = c.numbered.ensures })

pub returns-in-Over : goal.returns-in-Over
unfolding bridge_behind lines_for
returns-in-Over c = rw c.in-Over.is (record { next = refl; lines = c.bytes_to.ensures })
