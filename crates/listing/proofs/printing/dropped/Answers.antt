-- `dropped`: the letter and the fields, one behind the other.
use native.Mathlib.Omega.{arith}
use mir.Syntax.{w64}
use mir.Facts.{to_z_pos}
use Rattle.listing.proofs.Grown.{filled_append}
use Rattle.listing.proofs.printing.dropped.Goals as goal

pub returns : goal.returns
returns c = let a = c.args in
    simp (filled_append, c.number.ensures, c.number-second.ensures, c.byte_to-first.ensures, to_z_pos w64 {n = a.n} (omega arith), to_z_pos w64 {n = a.k} (omega arith))
