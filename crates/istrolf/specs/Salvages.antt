-- What a salvage tells as C holds it: the same fields, and a number for the mark.
use Rattle.std.specs.Prelude.{ℕ, List}
use Rattle.salvaged.specs.Promises as salvaged
use Rattle.salvaged.specs.declared.Salvaged.{Salvaged}
use Rattle.ballbox.specs.Marks.{mark}
use Rattle.istrolf.specs.declared.SalvagedBytes.{SalvagedBytes}

abbrev pub packed : Salvaged → SalvagedBytes
packed s = record { whole = mark s.whole; written = s.written }

-- what a call gives back, and every byte of the lent slice after it
pub record Whole : Type 0 where
  pub told : SalvagedBytes
  pub out : List ℕ

abbrev pub whole : SalvagedBytes → List ℕ → Whole
whole told out = record { told = told; out = out }

abbrev pub packed_whole : salvaged.Whole → Whole
packed_whole w = whole (packed w.salvaged) w.out
