-- Where the program stands between bytes, and between reads.
use Rattle.std.specs.Prelude.{ℕ, ◌≤◌, ◌≡◌, true, List, ◌++◌, length, take}
use Rattle.text.specs.Growth.{slice, filled_by}
use Rattle.listing.specs.Scanning.{scanned_byte}
use Rattle.listing.specs.declared.Found.{Found}
use Rattle.listing.proofs.Scanned.{all_found}
use Rattle.listing.proofs.Ended.{Within}
use Rattle.bridge.specs.Good.{good}
use Rattle.bridge.specs.declared.Bridge.{Bridge}
use Rattle.shell.specs.Standing.{Stands, silent}
use Rattle.mbridge.specs.Recording.{bridge_behind, lines_for, lines_from}
use Rattle.mbridge.specs.Program.{mbridge}
use Rattle.mbridge.specs.declared.Put.{Put}
use Rattle.mbridge.specs.declared.bridging.Bridging.{Bridging}
use Rattle.mbridge.specs.declared.Taken.{Taken}

-- the places that a byte of the input needs at most: a report becomes 33 V reports of three bytes, and the line of a byte has six at most
abbrev pub most : ℕ
most = 594

-- what was found is written behind so many bytes of a slice
pub record Puts (b : Bridge) (f : Found) (before : List ℕ) (at : ℕ) (r : Put) (after : List ℕ) : Type 0 where
  pub next : r.next ≡ bridge_behind b f
  pub lines : slice after r.used ≡ filled_by (slice before at) (lines_for b f)

-- a byte of the input, and what is found at it
pub record Takes (s : Bridging) (c : ℕ) (before : List ℕ) (at : ℕ) (r : Taken) (after : List ℕ) : Type 0 where
  pub scanned : r.next.scanner ≡ (scanned_byte s.scanner c).next
  pub next : r.next.bridge ≡ bridge_behind s.bridge (scanned_byte s.scanner c).found
  pub lines : slice after r.used ≡ filled_by (slice before at) (lines_for s.bridge (scanned_byte s.scanner c).found)

-- what is still to be written of whatever follows
abbrev pub rest_of : Bridging → List ℕ → List ℕ
rest_of s q = lines_from s.bridge (all_found s.scanner q)

-- while more is to be read
pub record Ready (s : Bridging) : Type 0 where
  pub sound : good s.bridge ≡ true
  pub within : Within s.scanner

-- BETWEEN BYTES: the lines at the front of the slice are to be shown, and then what the bytes that are left, and all behind them, give
pub record Midway (t : ℕ) (s : Bridging) (used : ℕ) (out left : List ℕ) : Type 0 where
  pub room : used ≤ length out
  pub sound : good s.bridge ≡ true
  pub stands : Stands mbridge t (λ q. take used out ++ rest_of s (left ++ q)) silent
