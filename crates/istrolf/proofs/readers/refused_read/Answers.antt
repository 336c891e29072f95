-- The old reader and no report.
use Rattle.istrolf.proofs.readers.refused_read.Goals as goal

pub returns : goal.returns
returns c = rw c.no_report.ensures
