-- The words passed fit their places, and the rest of the run is to be tested.
use mathlib.Core.Path.{◌≡◌}
use lib.ListN.{take, drop}
use Rattle.salvage.proofs.Fitting.{fit_from}
use Rattle.salvage.proofs.run_starts.Given as goal

abbrev pub invariant-loop-place : goal.invariant-loop-place
invariant-loop-place l = fit_from l.letter 0 (take l.size l.words) ≡ fit_from l.letter l.place (drop l.place (take l.size l.words))
