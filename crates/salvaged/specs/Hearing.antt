-- A log in a lent slice of 4,096 places, as it is read.
use Rattle.std.specs.Prelude.{ℕ, ◌<◌, ◌≤◌, ◌^◌, ◌≡◌, List, length, take}
use Rattle.salvage.specs.Picking.{most_words}
use Rattle.listing.specs.Scanning.{width}
use Rattle.listing.specs.declared.Found.{Found}
use Rattle.listing.specs.declared.Found.TheVariants as found
use Rattle.listing.proofs.Few.{ShortGiven}
use Rattle.salvaged.specs.Log.{Log, log}
use Rattle.salvaged.specs.declared.Heard.{Heard}

-- the number of a bad line is within the width
abbrev pub Numbered : Found → Type 0
Numbered found.Nothing = Unit {0}
Numbered (found.Format f) = Unit {0}
Numbered (found.Word n w) = Unit {0}
Numbered (found.Bad n) = n < 10 ^ width
Numbered found.Over = Unit {0}
Numbered found.End = Unit {0}

-- the log that is in the slice
abbrev pub log_in : Heard → List ℕ → Log
log_in h slice = log h.letter (take h.count slice) h.alone

-- within its 4,096 places, and what stands alone has a short line
pub record Fine (h : Heard) (slice : List ℕ) : Type 0 where
  pub few : h.count ≤ most_words
  pub long : length slice ≡ most_words
  pub short : ShortGiven h.alone

-- what is heard is this log
pub record Hears (is : Log) (h : Heard) (slice : List ℕ) : Type 0 where
  pub fine : Fine h slice
  pub same : log_in h slice ≡ is
