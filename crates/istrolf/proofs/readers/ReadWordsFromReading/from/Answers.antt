-- The number of the refusal, and the next reader packed.
use Rattle.istrolf.proofs.readers.ReadWordsFromReading.from.Goals as goal

pub returns : goal.returns
returns c = rw (c.number_if.ensures, c.from.ensures)
