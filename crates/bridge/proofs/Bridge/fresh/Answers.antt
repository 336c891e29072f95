-- The reader's fresh one, and nothing remembered.
use mathlib.Core.Path.{ap}
use Rattle.std.proofs.lemmas.Result.{err_from_is_err_and}
use Rattle.reader.specs.State.{NewReader}
use Rattle.bridge.specs.Promises.{NewBridge, with_none, fresh_of}
use Rattle.bridge.proofs.Bridge.fresh.Goals as goal

unfoldable behind : NewReader → NewBridge
behind n = record { refusal = n.refusal; bridge = with_none n.reader }

pub returns-in_err-reader : goal.returns-in_err-reader
unfolding fresh_of behind
returns-in_err-reader c =
    let p = err_from_is_err_and c.from_residual.result c.from_residual.ensures.1 in
    rw (p.1, p.2) (ap behind c.in_err-reader.ensures)

pub returns : goal.returns
unfolding fresh_of behind
returns c = rw c.none.ensures (ap behind c.in_ok-reader.ensures)
