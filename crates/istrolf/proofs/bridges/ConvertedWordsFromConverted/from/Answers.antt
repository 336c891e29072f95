-- The number of the refusal, and the next bridge packed.
use Rattle.istrolf.proofs.bridges.ConvertedWordsFromConverted.from.Goals as goal

pub returns : goal.returns
returns c = rw (c.number_if.ensures, c.from.ensures)
