-- `tells`: at the loop's head the words before it are taken, and their answers told.
use mathlib.Core.Path.{◌≡◌}
use mathlib.Core.Bool.{true}
use Rattle.reader.specs.Good.{good}
use Rattle.reader.proofs.Tells.{Telling}
use Rattle.reader.proofs.Reader.tells.Given as goal

abbrev pub invariant-loop-at : goal.invariant-loop-at
invariant-loop-at l = Telling l.initial.r l.words l.initial.out l.r l.at l.used l.out × (good l.r ≡ true) × (l.r.format ≡ l.initial.r.format)
