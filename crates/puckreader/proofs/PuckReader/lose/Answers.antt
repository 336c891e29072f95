-- `lose`: the byte and the kept dropped.
use native.Mathlib.Omega.{arith}
use native.Mathlib.Numerals.{add-one}
use Rattle.puckreader.proofs.Kept.{held, kept_count, count_small}
use Rattle.puckreader.proofs.PuckReader.lose.Goals as goal

pub overflow_add-self : goal.overflow_add-self
overflow_add-self c = omega (arith, count_small _ (held _ c.requires))

pub returns : goal.returns
returns c = rw (c.answering.ensures, c.holding.ensures, kept_count _ (held _ c.requires), add-one)
