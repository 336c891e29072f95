-- The number of the refusal, reply and next reader packed.
use Rattle.istrolf.proofs.told.HeardWordsFromHeardLine.from.Goals as goal

pub returns : goal.returns
returns c = rw (c.number_if.ensures, c.from-2.ensures, c.from.ensures)
