-- `encoded`: an accepted report is written.
use mathlib.Core.Path.{ap, ◌∙◌}
use Rattle.ballbox.proofs.Accepting.{encoded_bytes}
use Rattle.wire.specs.Encoder.{Encoding}
use Rattle.ballbox.proofs.latching.encoded.Goals as goal

pub returns : goal.returns
returns c = ap (λ (e : Encoding). e.buffer) c.encode.ensures ∙ encoded_bytes _ _ c.requires
