-- The fresh reader packed.
use mathlib.Core.Path.{ap}
use Rattle.istrolf.specs.Readers.{packed_fresh}
use Rattle.istrolf.proofs.readers.istrolf_reader_fresh.Goals as goal

pub returns-in-Ok : goal.returns-in-Ok
returns-in-Ok c = rw c.from.ensures (ap packed_fresh c.in-Ok.ensures)

pub returns-in-Err : goal.returns-in-Err
returns-in-Err c = rw (c.from-in-Err.ensures, c.number.ensures, c.default.ensures) (ap packed_fresh c.in-Err.ensures)
