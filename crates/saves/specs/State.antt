-- What a watch is: whether the buttons are known, and which were down when they were seen last.
use Rattle.std.specs.Prelude.{ℕ}
use Rattle.saves.specs.declared.Watch.{Watch}

-- one that has seen buttons, or was told them
abbrev pub watching : ℕ → Watch
watching n = record { known = 1; last = n }

-- a fresh one
abbrev pub unaware : Watch
unaware = record { known = 0; last = 0 }
