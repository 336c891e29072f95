-- What the port tells, packed.
use Rattle.istrolf.proofs.ports.istrolf_port_byte.Goals as goal

pub returns : goal.returns
returns c = rw (c.from.ensures, c.byte.ensures)
