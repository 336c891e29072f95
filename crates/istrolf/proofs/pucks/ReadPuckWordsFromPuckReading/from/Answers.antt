-- The number of the refusal.
use Rattle.istrolf.proofs.pucks.ReadPuckWordsFromPuckReading.from.Goals as goal

pub returns : goal.returns
returns c = rw c.number_if.ensures
