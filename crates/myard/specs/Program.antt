-- What the program writes of an input.
use Rattle.std.specs.Prelude.{[], ◌∷◌}
use Rattle.shell.specs.Standing.{Program, program, silent}
use Rattle.myard.specs.Judging.{judgement_of}

-- "myard": THE JUDGEMENT OF ITS RECORDING, and nothing on standard error
abbrev pub myard : Program
myard = program (109 ∷ 121 ∷ 97 ∷ 114 ∷ 100 ∷ []) judgement_of silent
