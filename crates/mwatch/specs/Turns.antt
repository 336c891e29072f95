-- Text in a slice.
use Rattle.std.specs.Prelude.{ℕ, ◌≤◌, ◌≡◌, List, length}
use Rattle.text.specs.Growth.{slice, filled_by}

-- text, of so many bytes at most, stands from a place on
pub record Put (most : ℕ) (before : List ℕ) (at : ℕ) (text after : List ℕ) (behind : ℕ) : Type 0 where
  pub so : slice after behind ≡ filled_by (slice before at) text
  pub few : length text ≤ most
