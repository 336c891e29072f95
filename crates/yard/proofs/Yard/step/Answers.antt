-- A good check has a place for a byte more.
use mathlib.Core.Path.{sym}
use Rattle.yard.proofs.Keeps.{below_size_lem}
use Rattle.yard.proofs.Yard.step.Goals as goal

pub word-requires : goal.word-requires
word-requires c = below_size_lem c.args.self (sym c.if-good.ensures)
