-- "Show what the limit threw away": a number with its excess, and the sums of excesses.
use Rattle.std.specs.Prelude.{ℤ, pos}
use Rattle.numbers.specs.Signed.{held, excess, held_long}
use Rattle.ballbox.specs.declared.Bounded.{Bounded}
use Rattle.ballbox.specs.declared.BoundedPair.{BoundedPair}
use Rattle.ballbox.specs.declared.Excess.{Excess}
use Rattle.ballbox.specs.declared.Sums.{Sums}

-- "Whatever limits a movement shall also give back the excess, with its sign"
unfoldable pub bounded : ℤ → ℤ → ℤ → Bounded
bounded lo hi x = record { value = held lo hi x; excess = excess lo hi x }

-- "per axis"
abbrev pub excesses : ℤ → ℤ → Excess
excesses x y = record { x = x; y = y }

unfoldable pub both : Bounded → Bounded → BoundedPair
both x y = record { value = record { x = x.value; y = y.value }; excess = excesses x.excess y.excess }

abbrev pub no_excess : Excess
no_excess = excesses (pos 0) (pos 0)

-- "in 64-bit sums held at the ends of their range"
unfoldable pub added : Excess → Excess → Excess
added s e = excesses (held_long s.x e.x) (held_long s.y e.y)

-- "the two kinds apart": over the report's limit, and over the counter's 16 bits
abbrev pub sums : Excess → Excess → Sums
sums limit counter = record { limit = limit; counter = counter }

abbrev pub no_sums : Sums
no_sums = sums no_excess no_excess
