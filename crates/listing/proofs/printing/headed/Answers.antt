-- The letter, and the width behind a tab.
use native.Mathlib.Omega.{arith}
use mir.Syntax.{w64}
use mir.Facts.{to_z_pos}
use Rattle.listing.specs.Printing.{line_of}
use Rattle.listing.proofs.Grown.{grown_append}
use Rattle.listing.proofs.printing.headed.Goals as goal

pub returns : goal.returns
unfolding line_of
returns c = simp (grown_append, to_z_pos w64 {n = c.args.width} (omega arith), c.with-3.ensures, c.decimal.ensures, c.with-2.ensures, c.with.ensures, c.none.ensures)
