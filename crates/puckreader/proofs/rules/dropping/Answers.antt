-- `dropping`: nothing, or so many.
use Rattle.puckreader.proofs.Word.{drops_some}
use Rattle.puckreader.proofs.rules.dropping.Goals as goal

pub returns-else-k-eq0 : goal.returns-else-k-eq0
returns-else-k-eq0 c = drops_some _ c.if-k-eq0.false
