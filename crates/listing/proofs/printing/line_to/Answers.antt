-- The fields, and a newline behind them.
use mathlib.Core.Path.{sym, ◌∙◌}
use mathlib.Core.List.{[], ◌∷◌}
use Rattle.listing.specs.Printing.{head_of, form_of, line_of}
use Rattle.listing.proofs.Grown.{filled_append}
use Rattle.listing.proofs.printing.line_to.Goals as goal

pub returns : goal.returns
unfolding line_of
returns c = let a = c.args in c.byte_to.ensures ∙ rw c.fields-end.ensures (sym (filled_append _ (head_of a.width (form_of a.item)) (10 ∷ [])))
