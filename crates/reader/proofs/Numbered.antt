-- The number of a refusal is not that of success.
use mathlib.Core.Path.{◌≡◌}
use native.Mathlib.Omega.{arith}
use Rattle.wire.specs.Numbers.{success}
use Rattle.wire.specs.Refusals.{number_of}
use Rattle.wire.specs.declared.refusal.Refusal.{Refusal}
use Rattle.wire.specs.declared.refusal.Refusal.TheVariants.{NoSuchLetter, ButtonsAboveSeven, BadWord, BufferTooShort, BadState, FaultyLine, FirstXNotHeld}
use Rattle.wire.specs.declared.refusal.Refusal.TheVariants.{FirstYNotHeld, SecondXNotHeld, SecondYNotHeld, NoReply, MarkedFormat, TooManyWords, NumberTooWide}

pub refuses : (r : Refusal) → number_of r ≡ success → ⊥
refuses NoSuchLetter e = omega arith
refuses ButtonsAboveSeven e = omega arith
refuses BadWord e = omega arith
refuses BufferTooShort e = omega arith
refuses BadState e = omega arith
refuses FaultyLine e = omega arith
refuses FirstXNotHeld e = omega arith
refuses FirstYNotHeld e = omega arith
refuses SecondXNotHeld e = omega arith
refuses SecondYNotHeld e = omega arith
refuses NoReply e = omega arith
refuses MarkedFormat e = omega arith
refuses TooManyWords e = omega arith
refuses NumberTooWide e = omega arith
