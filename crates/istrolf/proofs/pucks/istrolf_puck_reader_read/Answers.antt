-- The read below, packed.
use mathlib.Core.Path.{ap, ◌∙◌}
use Rattle.istrolf.specs.Pucks.{whole}
use Rattle.istrolf.specs.declared.ReadPuckWords.{ReadPuckWords}
use Rattle.istrolf.proofs.pucks.istrolf_puck_reader_read.Goals as goal

pub returns : goal.returns
returns c = ap (λ (w : ReadPuckWords). whole w c.read.new.out) c.from.ensures ∙ c.read.ensures
