-- What is held of a listing between reads: the front of a line.
use Rattle.std.specs.Prelude.{ℕ, ◌+◌, ◌*◌, ◌-◌, ◌≤◌, ◌≡◌, true, List, length}
use Rattle.text.specs.Lengths.{length_to}
use Rattle.listing.specs.Lines.{newline}
use Rattle.listing.specs.Scanning.{most_lines}
use Rattle.readback.specs.Steps.{good}
use Rattle.readback.specs.Pieces.{longest}
use Rattle.readback.specs.declared.Readback.{Readback}

-- a good reader, and bytes that are a line which is not whole yet
pub record Ready (r : Readback) (held : List ℕ) : Type 0 where
  pub sound : good r ≡ true
  pub part : length_to newline held ≡ length held
  pub few : length held ≤ longest

-- how far the end of every listing is, in bytes
abbrev pub to_go : Readback → ℕ → ℕ
to_go r held = (longest + 1) * (most_lines + 2 - r.lines) + (longest - held)
