-- Why a call is refused, by name, and the number given back for it: "0 is success"; 2 is given no more.
use Rattle.std.specs.Prelude.{ℕ, Option, None, Some, Result, Ok, Err}
use Rattle.wire.specs.Numbers.{success, bad_state, bad_letter, bad_buttons, bad_first_x, bad_first_y, bad_second_x, bad_second_y, short_buffer, bad_word}
use Rattle.wire.specs.declared.Movement.{Movement}
use Rattle.wire.specs.declared.Movement.TheVariants.{FirstX, FirstY, SecondX, SecondY}
use Rattle.wire.specs.declared.refusal.Refusal.{Refusal}
use Rattle.wire.specs.declared.refusal.Refusal.TheVariants.{NoSuchLetter, ButtonsAboveSeven, BadWord, BufferTooShort, BadState, FaultyLine, FirstXNotHeld}
use Rattle.wire.specs.declared.refusal.Refusal.TheVariants.{FirstYNotHeld, SecondXNotHeld, SecondYNotHeld, NoReply, MarkedFormat, TooManyWords, NumberTooWide}

abbrev pub number_of : Refusal → ℕ
number_of NoSuchLetter = bad_letter
number_of ButtonsAboveSeven = bad_buttons
number_of BadWord = bad_word
number_of BufferTooShort = short_buffer
number_of BadState = bad_state
number_of FaultyLine = 7
number_of FirstXNotHeld = bad_first_x
number_of FirstYNotHeld = bad_first_y
number_of SecondXNotHeld = bad_second_x
number_of SecondYNotHeld = bad_second_y
number_of NoReply = 12
number_of MarkedFormat = 13
number_of TooManyWords = 14
number_of NumberTooWide = 15

-- the number given back for an answer
abbrev pub number_in : {A : Type 0} → Result A Refusal → ℕ
number_in (Ok a) = success
number_in (Err r) = number_of r

-- the refusal of a report for a movement that its format does not hold
abbrev pub refusal_for : Movement → Refusal
refusal_for FirstX = FirstXNotHeld
refusal_for FirstY = FirstYNotHeld
refusal_for SecondX = SecondXNotHeld
refusal_for SecondY = SecondYNotHeld

-- and the number given back beside counts: 0 where there is no refusal
abbrev pub number_if : Option Refusal → ℕ
number_if None = success
number_if (Some r) = number_of r
