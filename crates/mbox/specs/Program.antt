-- What the program writes of an input.
use Rattle.std.specs.Prelude.{[], ◌∷◌}
use Rattle.shell.specs.Standing.{Program, program, silent}
use Rattle.driver.specs.Driving.{recording_of}

-- "mbox": THE RECORDING OF ITS SCRIPT, and nothing on standard error
abbrev pub mbox : Program
mbox = program (109 ∷ 98 ∷ 111 ∷ 120 ∷ []) recording_of silent
