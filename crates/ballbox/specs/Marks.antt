-- A mark of a state: a number, 0 or 1.
use Rattle.std.specs.Prelude.{ℕ, Bool, cond, eqb, leb}

abbrev pub mark : Bool → ℕ
mark b = cond b 1 0

-- the mark that a number stands for
abbrev pub marked : ℕ → Bool
marked n = eqb n 1

-- what stands for a mark
abbrev pub is_mark : ℕ → Bool
is_mark n = leb n 1
