-- A letter of the table.
use mathlib.Core.Path.{sym, ◌∙◌}
use Rattle.listing.specs.Lines.{format_in}
use Rattle.listing.proofs.lines.format.Goals as goal

pub returns-then-known : goal.returns-then-known
unfolding format_in
returns-then-known c = rw (sym c.known.ensures ∙ c.if-known.true)

pub returns : goal.returns
unfolding format_in
returns c = rw (sym c.known.ensures ∙ c.if-known.false)
