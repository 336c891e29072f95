-- What a check is: its format, the first and the last byte of the report that is going, how many have gone, and whether
-- it has ended.
use Rattle.std.specs.Prelude.{ℕ, Bool, true, false, eqb}
use Rattle.numbers.specs.Bits.{value}
use Rattle.yard.specs.declared.Yard.{Yard}

abbrev pub yard : ℕ → ℕ → ℕ → ℕ → Bool → Yard
yard letter first last count ended = record { format = letter; first = first; last = last; count = count; ended = value ended }

-- it has ended: 1 stands for yes
abbrev pub ended : Yard → Bool
ended y = eqb y.ended 1

-- between reports: no byte of one has gone
abbrev pub none_gone : ℕ → Yard
none_gone letter = yard letter 0 0 0 false

-- a word has come that no box could send
abbrev pub over : ℕ → Yard
over letter = yard letter 0 0 0 true
