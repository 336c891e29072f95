-- "Good reader: [..] kept bytes below the size, each valid in place, the rest 0".
use Rattle.std.specs.Prelude.{ℕ, Bool, cond, ◌&&◌, ◌||◌, length, get_or, eqb, ltb, leb}
use Rattle.vsxxx.specs.Reports.{size_from, fits_start, fits_behind}
use Rattle.puckreader.specs.declared.PuckReader.{PuckReader}

abbrev pub first_of : PuckReader → ℕ
first_of r = get_or r.kept 0 0

-- "kept bytes below the size", which the first of them tells
abbrev pub below_size : PuckReader → Bool
below_size r = eqb r.count 0 || ltb r.count (size_from (first_of r))

-- "each valid in place, the rest 0"
abbrev pub first_placed : PuckReader → Bool
first_placed r = cond (ltb 0 r.count) (fits_start (first_of r)) (eqb (first_of r) 0)

abbrev pub later_placed : PuckReader → ℕ → Bool
later_placed r place = cond (ltb place r.count) (fits_behind (first_of r) place (get_or r.kept place 0)) (eqb (get_or r.kept place 0) 0)

unfoldable pub good : PuckReader → Bool
good r = eqb (length r.kept) 3 && leb r.count 3 && below_size r && first_placed r && later_placed r 1 && later_placed r 2
