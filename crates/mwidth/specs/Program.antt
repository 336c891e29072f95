-- What the program writes of an input, and what it tells of it.
use Rattle.std.specs.Prelude.{[], ◌∷◌}
use Rattle.shell.specs.Standing.{Program, program}
use Rattle.readback.specs.Other.{other_of}
use Rattle.mwidth.specs.Told.{told_of}

-- THE LISTING AT THE OTHER WIDTH, and on standard error the line that was not rewritten
abbrev pub mwidth : Program
mwidth = program (109 ∷ 119 ∷ 105 ∷ 100 ∷ 116 ∷ 104 ∷ []) other_of told_of
