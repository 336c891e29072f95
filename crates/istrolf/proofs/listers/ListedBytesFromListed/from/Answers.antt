-- The number of the refusal, the mark as a number, and the next lister packed.
use Rattle.ballbox.proofs.Marks.{as_number}
use Rattle.istrolf.proofs.listers.ListedBytesFromListed.from.Goals as goal

pub returns : goal.returns
returns c = simp (c.number_if.ensures, c.from.ensures, as_number c.args.listed.ended)
