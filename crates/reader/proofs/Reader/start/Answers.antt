-- `start`: the byte alone is kept.
use Rattle.reader.specs.Rules.{start}
use Rattle.reader.proofs.Reader.start.Goals as goal

pub returns : goal.returns
unfolding start
returns c = rw (c.dropping-answer.ensures, c.requires)
