-- `fresh`: a fresh report reader.
use mathlib.Core.Path.{ap}
use Rattle.std.proofs.lemmas.Result.{err_from_is_err_and}
use Rattle.reader.specs.State.{NewReader}
use Rattle.replies.specs.Replying.{nothing}
use Rattle.replies.specs.Rules.{told_reader}
use Rattle.replies.specs.Promises.{NewToldReader, new_told}
use Rattle.replies.proofs.ToldReader.fresh.Goals as goal

unfoldable behind : NewReader → NewToldReader
behind n = new_told n.refusal (told_reader n.reader nothing)

pub returns-in_err-reader : goal.returns-in_err-reader
unfolding behind
returns-in_err-reader c =
    let p = err_from_is_err_and c.from_residual.result c.from_residual.ensures.1 in
    rw (p.1, p.2) (ap behind c.in_err-reader.ensures)

pub returns : goal.returns
unfolding behind
returns c = rw c.nothing.ensures (ap behind c.in_ok-reader.ensures)
