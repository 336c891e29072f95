-- What one word does to a good check.
use Rattle.std.specs.Prelude.{ℕ, ◌+◌, Bool, false, cond, eqb, leb, Option, Some, None, Result, Ok, Err}
use Rattle.frames.specs.Words.{is_byte, break, silence}
use Rattle.wire.specs.Line.{size_by}
use Rattle.wire.specs.Numbers.{success, bad_word}
use Rattle.wire.specs.Refusals.{number_of}
use Rattle.wire.specs.declared.refusal.Refusal.{Refusal}
use Rattle.yard.specs.Stands.{stands_by}
use Rattle.yard.specs.State.{yard, ended, none_gone, over}
use Rattle.yard.specs.declared.Yard.{Yard}
use Rattle.yard.specs.declared.Judged.{Judged}

-- a word that a box can send, and one that none can: behind it none can be sent
abbrev pub can : Yard → Judged
can next = record { refusal = success; can = 1; next = next }

abbrev pub cannot : ℕ → Judged
cannot letter = record { refusal = success; can = 0; next = over letter }

-- whether one can: 1 stands for yes
abbrev pub sent : Judged → Bool
sent j = eqb j.can 1

-- "A refusal returns the old state"
abbrev pub refusing : ℕ → Yard → Judged
refusing n y = record { refusal = n; can = 0; next = y }

-- what is told of a word: the check behind it, where a box can send it; or that none can; or why it is refused
abbrev pub told : Yard → Result (Option Yard) Refusal → Judged
told y (Ok (Some next)) = can next
told y (Ok None) = cannot y.format
told y (Err r) = refusing (number_of r) y

-- a byte more of the report has gone
unfoldable pub first_with : Yard → ℕ → ℕ
first_with y b = cond (eqb y.count 0) b y.first

unfoldable pub one_more : Yard → ℕ → Yard
one_more y b = yard y.format (first_with y b) b (y.count + 1) false

-- a byte that can stand in the next place of the report; behind the last of its bytes none has gone
unfoldable pub byte_can : Yard → ℕ → Judged
byte_can y b =
    cond (stands_by y.format y.count y.first y.last b)
    (cond (eqb (y.count + 1) (size_by y.format)) (can (none_gone y.format)) (can (one_more y b)))
    (cannot y.format)

-- "or 257 when nothing is going": a silence stands between reports only
unfoldable pub silence_of : Yard → Judged
silence_of y = cond (eqb y.count 0) (can (none_gone y.format)) (cannot y.format)

-- "A host byte may now break off a report of which no byte has gone, so a lone 256 can stand on the line. The yard check of §11 accepts it": a break
-- stands anywhere. "A word above 257 anywhere is refusal 4", behind a word that cannot be sent too.
unfoldable pub word_of : Yard → ℕ → Judged
word_of y w =
    cond (leb w silence)
    (cond (ended y) (cannot y.format)
    (cond (is_byte w) (byte_can y w)
    (cond (eqb w break) (can (none_gone y.format))
    (silence_of y))))
    (refusing bad_word y)
