-- Where the program stands between blocks.
use Rattle.std.specs.Prelude.{ℕ, ◌≤◌, List, [], ◌++◌, length, take, Result, Ok, Err}
use Rattle.shell.specs.Standing.{Stands, Closes, Failed, silent}
use Rattle.shell.specs.declared.Failure.{Failure}
use Rattle.salvaged.specs.Listing.{salvage_of}
use Rattle.msalvage.specs.Program.{msalvage}

-- these bytes are read, and nothing is written yet
abbrev pub Holds : ℕ → List ℕ → Type 0
Holds t bytes = Stands msalvage t (λ q. salvage_of (bytes ++ q)) silent

-- all that is read, so many bytes, stands at the front of the buffer, and its salvage is left to be written; or a read failed
abbrev pub Filled : ℕ → List ℕ → Result ℕ Failure → Type 0
Filled t input (Ok n) = (n ≤ length input) × Closes msalvage t (salvage_of (take n input)) []
Filled t input (Err e) = Failed msalvage t
