-- Bytes as one number, by which the test of a good box goes. No public promise cites it.
use Rattle.std.specs.Prelude.{ℕ, zero, suc, ◌+◌, ◌*◌, List}
use Rattle.wire.specs.Reading.{at}

-- so many bytes, from the i-th on, as one number, the first lowest
abbrev pub number_from : ℕ → ℕ → List ℕ → ℕ
number_from zero i l = 0
number_from (suc k) i l = at i l + 256 * number_from k (suc i) l
