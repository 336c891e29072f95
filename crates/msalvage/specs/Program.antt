-- What the program writes of an input.
use Rattle.std.specs.Prelude.{[], ◌∷◌}
use Rattle.shell.specs.Standing.{Program, program, silent}
use Rattle.salvaged.specs.Listing.{salvage_of}

-- "msalvage": THE SALVAGE OF ITS RECORDING, and nothing on standard error
abbrev pub msalvage : Program
msalvage = program (109 ∷ 115 ∷ 97 ∷ 108 ∷ 118 ∷ 97 ∷ 103 ∷ 101 ∷ []) salvage_of silent
