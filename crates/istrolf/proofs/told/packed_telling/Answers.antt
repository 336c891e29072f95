-- The next reader packed, or the old one.
use Rattle.istrolf.proofs.told.packed_telling.Goals as goal

pub returns-in-Ok : goal.returns-in-Ok
returns-in-Ok c = rw (c.in-Ok.is, c.from.ensures)

pub returns-in-Err : goal.returns-in-Err
returns-in-Err c = rw (c.in-Err.is, c.from-in-Err.ensures, c.number.ensures)
