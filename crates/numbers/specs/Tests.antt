-- A test at many numbers.
use Rattle.std.specs.Prelude.{ℕ, zero, suc, Bool, true, ◌&&◌}

-- it holds at each number below n
abbrev pub each : (ℕ → Bool) → ℕ → Bool
each test zero = true
each test (suc n) = each test n && test n
