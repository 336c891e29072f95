-- Whether the line is gone: the twentieth read in a row that brought nothing, in the second of the first.
use Rattle.std.specs.Prelude.{ℕ, ◌+◌, Bool, cond, ltb, Option, Some, None}
use Rattle.hearing.specs.declared.Clock.{Clock}

abbrev pub clock : ℕ → Option Clock
clock empty = Some (record { empty = empty })

-- the clock behind a read; none where the line is gone
abbrev pub turned_of : Clock → Bool → Bool → Option Clock
turned_of c came same = cond came (clock 0) (cond (ltb c.empty 19) (clock (c.empty + 1)) (cond same None (clock 0)))
