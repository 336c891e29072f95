-- A letter of the table, and no more.
use mathlib.Core.Path.{sym, ◌∙◌}
use Rattle.driver.proofs.Reading.{one_letter, no_letter}
use Rattle.driver.proofs.lines.format.Goals as goal

pub returns-then-known : goal.returns-then-known
returns-then-known c = rw (one_letter _ c.if-bytes-eq1.true, sym c.known.ensures ∙ c.if-known.true)

pub returns-else-known : goal.returns-else-known
returns-else-known c = rw (one_letter _ c.if-bytes-eq1.true, sym c.known.ensures ∙ c.if-known.false)

pub returns-else-bytes-eq1 : goal.returns-else-bytes-eq1
returns-else-bytes-eq1 c = no_letter _ c.if-bytes-eq1.false
