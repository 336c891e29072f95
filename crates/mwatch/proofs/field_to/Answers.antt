-- A tab and the number.
use mathlib.Core.Path.{◌∙◌, ap}
use mir.Facts.{to_z-of_z}
use Rattle.text.specs.Growth.{filled_by}
use Rattle.text.specs.Decimals.{plain, decimal_of}
use Rattle.text.specs.declared.Text.{Text}
use Rattle.mwatch.proofs.Looking.{few_field}
use Rattle.mwatch.proofs.field_to.Goals as goal

pub returns : goal.returns
returns c =
    let x = c.args.x in
    let d = rw (to_z-of_z c.ranges.x) at c.decimal_to.ensures in
    record { so = d ∙ ap (λ (t : Text). filled_by t (decimal_of plain x)) c.byte_to-behind.ensures; few = few_field x c.ranges.x }
