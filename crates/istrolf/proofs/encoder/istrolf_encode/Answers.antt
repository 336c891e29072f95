-- The answer's two numbers.
use Rattle.istrolf.proofs.encoder.istrolf_encode.Goals as goal

pub returns : goal.returns
returns c = rw (c.number_in.ensures, c.length_in.ensures) c.encode-encoded.ensures
