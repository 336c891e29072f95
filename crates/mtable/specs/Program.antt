-- What the program writes of an input, and what it tells of it.
use Rattle.std.specs.Prelude.{[], ◌∷◌}
use Rattle.shell.specs.Standing.{Program, program}
use Rattle.mtable.specs.Table.{table_of, told_of}

-- THE TABLE OF A LISTING, and on standard error the line of a fault
abbrev pub mtable : Program
mtable = program (109 ∷ 116 ∷ 97 ∷ 98 ∷ 108 ∷ 101 ∷ []) table_of told_of
