-- `first`: by what the word gives.
use Rattle.reader.proofs.Loop.{first_begins}
use Rattle.reader.proofs.Reader.first.Goals as goal

pub returns : goal.returns
returns c = first_begins c.args.self c.args.words.now c.args.out.now c.requires.1 c.requires.2 c.word-heard.ensures c.counted.ensures
