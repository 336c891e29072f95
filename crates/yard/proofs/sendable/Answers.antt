-- A fresh check of a known letter is good.
use mathlib.Core.Path.{sym}
use Rattle.yard.proofs.Keeps.{none_good}
use Rattle.yard.proofs.sendable.Goals as goal

pub sendable-requires : goal.sendable-requires
sendable-requires c = rw c.none_gone.ensures (none_good _ (sym c.if-known.ensures))
