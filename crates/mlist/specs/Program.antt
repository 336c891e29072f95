-- What the program writes of an input.
use Rattle.std.specs.Prelude.{[], ◌∷◌}
use Rattle.shell.specs.Standing.{Program, program, silent}
use Rattle.listing.specs.Listing.{listing_of}

-- "mlist": THE LISTING OF ITS INPUT, and nothing on standard error
abbrev pub mlist : Program
mlist = program (109 ∷ 108 ∷ 105 ∷ 115 ∷ 116 ∷ []) listing_of silent
