-- The fresh lister packed.
use Rattle.istrolf.proofs.listers.istrolf_lister_fresh.Goals as goal

pub returns : goal.returns
returns c = rw (c.from.ensures, c.fresh.ensures)
