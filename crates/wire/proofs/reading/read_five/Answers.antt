-- `read_five`: the fields of U.
use mir.Syntax.{w16}
use Rattle.numbers.proofs.Machine.{kept}
use Rattle.wire.proofs.Fields.{buttons_u}
use Rattle.wire.specs.Reading.{read_u}
use Rattle.wire.proofs.reading.read_five.Goals as goal

pub returns : goal.returns
unfolding read_u
returns c = simp (kept w16 c.unwrapped_byte.type_inv c.unwrapped_byte.ensures, kept w16 c.unwrapped_byte-2.type_inv c.unwrapped_byte-2.ensures, kept w16 c.unwrapped_byte-3.type_inv c.unwrapped_byte-3.ensures, kept w16 c.unwrapped_byte-4.type_inv c.unwrapped_byte-4.ensures, buttons_u c.args.b1)
