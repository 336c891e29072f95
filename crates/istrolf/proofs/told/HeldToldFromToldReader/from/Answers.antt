-- The report reader packed, and the number of the reply.
use Rattle.istrolf.proofs.told.HeldToldFromToldReader.from.Goals as goal

pub returns : goal.returns
returns c = rw (c.from.ensures, c.kind_number.ensures)
