-- Motion, and what moved means.
use Rattle.std.specs.Prelude.{ℕ, Bool, cond, ◌||◌, eqb, ℤ, pos, ◌+ℤ◌}
use Rattle.std.specs.Int.Signed.{lt_z}
use Rattle.numbers.specs.Signed.{held, held_sum, sum_excess}
use Rattle.wire.specs.Line.{letter_of}
use Rattle.wire.specs.declared.Format.TheVariants.{Absolute}
use Rattle.ballbox.specs.Thrown.{excesses}
use Rattle.ballbox.specs.Box.{pair, zeros}
use Rattle.ballbox.specs.declared.Pair.{Pair}
use Rattle.ballbox.specs.declared.Track.{Track}
use Rattle.ballbox.specs.declared.Excess.{Excess}

-- "Each counter takes the sum, held at -32768 and 32767."
unfoldable pub counted : Pair → ℤ → ℤ → Pair
counted c dx dy = pair (held_sum c.x dx) (held_sum c.y dy)

-- "and whatever holds the counter at 16 bits likewise"
unfoldable pub counted_over : Pair → ℤ → ℤ → Excess
counted_over c dx dy = excesses (sum_excess c.x dx) (sum_excess c.y dy)

-- "The position takes it too, held in 0 to 4095."
unfoldable pub placed_at : ℤ → ℤ → ℤ
placed_at p d = held (pos 0) (pos 4095) (p +ℤ d)

unfoldable pub placed : Pair → ℤ → ℤ → Pair
placed p dx dy = pair (placed_at p.x dx) (placed_at p.y dy)

unfoldable pub moved_by : ℤ → ℤ → Track → Track
moved_by dx dy t = record { counter = counted t.counter dx dy; position = placed t.position dx dy; last = t.last }

-- two pairs differ: one number is below or above the other
abbrev pub differ : ℤ → ℤ → Bool
differ a b = lt_z a b || lt_z b a

unfoldable pub apart : Pair → Pair → Bool
apart p q = differ p.x q.x || differ p.y q.y

abbrev pub is_a : ℕ → Bool
is_a letter = eqb letter (letter_of Absolute)

-- "Moved means: in A, position differs from last position; else a counter is not 0."
unfoldable pub has_moved : ℕ → Track → Bool
has_moved letter t = cond (is_a letter) (apart t.position t.last) (apart t.counter zeros)
