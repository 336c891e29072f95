-- `has_minus`: no byte, or the first.
use Rattle.text.proofs.Digits.{no_byte, first_byte}
use Rattle.text.proofs.decimals.has_minus.Goals as goal

pub returns-then-bytes-eq0 : goal.returns-then-bytes-eq0
returns-then-bytes-eq0 c = no_byte c.args.bytes.now c.if-bytes-eq0.true

pub returns : goal.returns
returns c = first_byte c.args.bytes.now c.if-bytes-eq0.false
