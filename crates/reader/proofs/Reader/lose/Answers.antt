-- `lose`: the byte is dropped with the kept.
use Rattle.reader.specs.Rules.{lose}
use Rattle.reader.proofs.Reader.lose.Goals as goal

pub returns : goal.returns
unfolding lose
returns c = rw (c.no_bytes.ensures, c.marked.ensures, c.requires.0)
