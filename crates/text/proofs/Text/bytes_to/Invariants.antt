-- Byte after byte.
use mathlib.Core.Path.{◌≡◌}
use lib.ListN.{take}
use Rattle.text.specs.Growth.{slice, filled_by}
use Rattle.text.proofs.Text.bytes_to.Given as goal

abbrev pub invariant-loop-b : goal.invariant-loop-b
invariant-loop-b l = slice l.out l.to ≡ filled_by (slice l.initial.out l.at) (take l.b-index l.bytes)
