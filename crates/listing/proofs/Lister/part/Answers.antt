-- `part`: lines of words, or else a byte.
use Rattle.fold.proofs.Parts.{part_none}
use Rattle.listing.specs.Feeding.{feeds}
use Rattle.listing.proofs.Lister.part.Goals as goal

pub returns-then-q-ne0 : goal.returns-then-q-ne0
returns-then-q-ne0 c = record { stands = c.quickly-q.ensures; stops = λ z. absurd (c.if-q-ne0.true z) }

pub returns : goal.returns
returns c = rw (part_none feeds c.quickly-q.ensures.part c.if-q-ne0.false) at c.first.ensures
