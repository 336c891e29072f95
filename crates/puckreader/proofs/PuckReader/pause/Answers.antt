-- `pause`: the kept dropped.
use Rattle.puckreader.proofs.Kept.{held, kept_count}
use Rattle.puckreader.proofs.PuckReader.pause.Goals as goal

pub returns : goal.returns
returns c = rw (c.answering.ensures, c.dropping.ensures, c.holding.ensures, kept_count _ (held _ c.requires))
