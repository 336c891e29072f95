-- Comma after comma.
use mathlib.Core.Path.{◌≡◌}
use Rattle.text.specs.Growth.{grown_by}
use Rattle.mtable.specs.Table.{commas}
use Rattle.mtable.proofs.empty.Given as goal

abbrev pub invariant-loop-k : goal.invariant-loop-k
invariant-loop-k l = l.r ≡ grown_by l.initial.r (commas l.k)
