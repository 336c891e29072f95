-- Byte after byte.
use mathlib.Core.Path.{◌≡◌}
use lib.ListN.{take}
use Rattle.text.specs.Growth.{grown_by}
use Rattle.mtable.proofs.words.Given as goal

abbrev pub invariant-loop-b : goal.invariant-loop-b
invariant-loop-b l = l.r ≡ grown_by l.initial.r (take l.b-index l.bytes)
