-- "Good reader: a known format; kept bytes below the size, each valid in place, the rest 0; awaiting only in U, T, W with none kept."
use Rattle.std.specs.Prelude.{ℕ, Bool, not, cond, ◌&&◌, ◌||◌, length, get_or, ltb, eqb}
use Rattle.numbers.specs.Tests.{each}
use Rattle.wire.specs.Line.{size_by, known}
use Rattle.wire.specs.Places.{fits_by}
use Rattle.reader.specs.State.{unmarked}
use Rattle.reader.specs.declared.Reader.{Reader}

-- "kept bytes below the size"
abbrev pub below_size : Reader → Bool
below_size r = ltb r.count (size_by r.format)

-- "each valid in place, the rest 0"
unfoldable pub placed : Reader → ℕ → ℕ → Bool
placed r place byte = cond (ltb place r.count) (fits_by r.format place byte) (eqb byte 0)

-- the five places of a reader
abbrev pub all_placed : Reader → Bool
all_placed r = eqb (length r.kept) 5 && each (λ i. placed r i (get_or r.kept i 0)) 5

-- "awaiting only in U, T, W with none kept"
abbrev pub awaits_rightly : Reader → Bool
awaits_rightly r = not r.awaiting || (unmarked r.format && eqb r.count 0)

unfoldable pub good : Reader → Bool
good r = known r.format && below_size r && all_placed r && awaits_rightly r
