-- None of a letter that is not in the table, and then by its size.
use mathlib.Core.Path.{sym, ◌∙◌}
use native.Mathlib.Omega.{arith}
use Rattle.salvage.proofs.Fitting.{starts_none}
use Rattle.salvage.proofs.starts.Goals as goal

pub returns-else-size-ne0 : goal.returns-else-size-ne0
returns-else-size-ne0 c =
    let a = c.args in
    rw c.if-size-ne0.false (sym (starts_none a.letter a.words.now (sym c.size-size.ensures ∙ c.if-size-ne0.false)))

pub run_starts-requires : goal.run_starts-requires
run_starts-requires c = (c.size-size.ensures, omega (arith, c.if-size-ne0.true))
