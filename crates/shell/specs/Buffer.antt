-- A buffer that holds the front of a line while more is read behind it.
use Rattle.std.specs.Prelude.{◌≡◌, ℕ, ◌+◌, ◌<◌, ◌≤◌, List, ◌++◌, length, take, drop, Result, IfOk, IsErr}
use Rattle.shell.specs.Outside.{Brought}
use Rattle.shell.specs.declared.Failure.{Failure}

-- a read behind the bytes that are held: they stay, and what it brought follows them
pub record Behind (name : List ℕ) (held t t' : ℕ) (got : Result ℕ Failure) (input after : List ℕ) : Type 0 where
  pub long : length after ≡ length input
  pub within : held ≤ length input → IfOk got (λ n. held + n ≤ length after)
  pub stays : held ≤ length input → take held after ≡ take held input
  pub brought : held ≤ length input → Brought name t t' got (drop held after)
  pub unread : length input < held → (t' ≡ t) × (after ≡ input) × IsErr got

-- so many bytes from a place on stand at the front, and what was behind them is as it was
pub record Moved (from count : ℕ) (input after : List ℕ) : Type 0 where
  pub fits : from + count ≤ length input → after ≡ take count (drop from input) ++ drop count input
  pub unmoved : length input < from + count → after ≡ input
