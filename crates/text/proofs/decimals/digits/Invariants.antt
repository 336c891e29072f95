-- `digits`: those behind the place are written.
use mathlib.Core.Path.{◌≡◌}
use lib.Seq.{sets}
use Rattle.text.specs.Decimals.{digits_of}
use Rattle.text.proofs.decimals.digits.Given as goal

abbrev pub invariant-loop-k : goal.invariant-loop-k
invariant-loop-k l = sets l.out l.at (digits_of l.k l.v) ≡ sets l.initial.out l.at (digits_of l.places l.n)
