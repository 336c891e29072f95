-- At the first line, with a fresh box.
use mathlib.Core.Path.{◌∙◌, ap}
use mathlib.Core.Bool.{false}
use Rattle.driver.specs.Feeding.{at_line}
use Rattle.driver.proofs.Driver.fresh.Goals as goal

pub returns : goal.returns
returns c = c.at_line.ensures ∙ ap (at_line 0 false 0) c.fresh.ensures
