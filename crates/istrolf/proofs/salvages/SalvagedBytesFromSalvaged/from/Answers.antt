-- The mark as a number.
use Rattle.ballbox.proofs.Marks.{as_number}
use Rattle.istrolf.proofs.salvages.SalvagedBytesFromSalvaged.from.Goals as goal

pub returns : goal.returns
returns c = simp (as_number c.args.told.whole)
