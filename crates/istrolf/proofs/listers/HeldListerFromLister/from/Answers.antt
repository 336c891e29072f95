-- The marks as numbers.
use Rattle.ballbox.proofs.Marks.{as_number}
use Rattle.istrolf.proofs.listers.HeldListerFromLister.from.Goals as goal

pub returns : goal.returns
returns c = let m = c.args.lister in
    simp (c.from.ensures, as_number m.scanner.ended)
