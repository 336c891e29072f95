-- What the program writes of an input.
use Rattle.std.specs.Prelude.{[], ◌∷◌}
use Rattle.shell.specs.Standing.{Program, program, silent}
use Rattle.mbridge.specs.Recording.{bridged_of}

-- "mbridge": THE RECORDING OF V, and nothing on standard error
abbrev pub mbridge : Program
mbridge = program (109 ∷ 98 ∷ 114 ∷ 105 ∷ 100 ∷ 103 ∷ 101 ∷ []) bridged_of silent
