-- A fresh bridge, and the line of V.
use mathlib.Core.Path.{◌∙◌, ap}
use Rattle.bridge.specs.Promises.{NewBridge}
use Rattle.bridge.proofs.Goodness.{fresh_or}
use Rattle.mbridge.specs.Recording.{bridge_behind, lines_for}
use Rattle.mbridge.proofs.format.Goals as goal

pub returns : goal.returns
unfolding bridge_behind lines_for
returns c = record { next = fresh_or _ _ c.unwrap_or_default.ensures ∙ ap (λ (n : NewBridge). n.bridge) c.fresh.ensures; lines = c.bytes_to.ensures }
