-- The numbers of the refusals tell them apart, and none is 0 or 2.
use Prim.Native.Nat.{ℕ}
use mathlib.Core.Path.{◌≡◌, refl, sym, ◌∙◌, ap}
use mathlib.Core.Bool.{cond}
use native.Mathlib.Omega.{arith}
use lib.Dec.{eqb}
use Rattle.std.proofs.Common.{Option, None, Some, Result, Ok, Err}
use Rattle.wire.specs.Refusals.{number_of, number_if}
use Rattle.wire.specs.declared.refusal.Refusal.{Refusal}
use Rattle.wire.specs.declared.refusal.Refusal.TheVariants.{NoSuchLetter, ButtonsAboveSeven, BadWord, BufferTooShort, BadState, FaultyLine, FirstXNotHeld}
use Rattle.wire.specs.declared.refusal.Refusal.TheVariants.{FirstYNotHeld, SecondXNotHeld, SecondYNotHeld, NoReply, MarkedFormat, TooManyWords, NumberTooWide}

-- the refusal that has a number
pub refusal_by : ℕ → Refusal
refusal_by number =
    cond (eqb number 1) NoSuchLetter
    (cond (eqb number 3) ButtonsAboveSeven
    (cond (eqb number 4) BadWord
    (cond (eqb number 5) BufferTooShort
    (cond (eqb number 6) BadState
    (cond (eqb number 7) FaultyLine
    (cond (eqb number 8) FirstXNotHeld
    (cond (eqb number 9) FirstYNotHeld
    (cond (eqb number 10) SecondXNotHeld
    (cond (eqb number 11) SecondYNotHeld
    (cond (eqb number 12) NoReply
    (cond (eqb number 13) MarkedFormat
    (cond (eqb number 14) TooManyWords
    NumberTooWide))))))))))))

pub same_refusal : (r : Refusal) → refusal_by (number_of r) ≡ r
unfolding refusal_by
same_refusal NoSuchLetter = refl
same_refusal ButtonsAboveSeven = refl
same_refusal BadWord = refl
same_refusal BufferTooShort = refl
same_refusal BadState = refl
same_refusal FaultyLine = refl
same_refusal FirstXNotHeld = refl
same_refusal FirstYNotHeld = refl
same_refusal SecondXNotHeld = refl
same_refusal SecondYNotHeld = refl
same_refusal NoReply = refl
same_refusal MarkedFormat = refl
same_refusal TooManyWords = refl
same_refusal NumberTooWide = refl

pub numbers_apart : (r s : Refusal) → number_of r ≡ number_of s → r ≡ s
numbers_apart r s e = sym (same_refusal r) ∙ ap refusal_by e ∙ same_refusal s

-- "0 is success"
pub never_success : (r : Refusal) → number_of r ≡ 0 → ⊥
never_success NoSuchLetter e = omega arith
never_success ButtonsAboveSeven e = omega arith
never_success BadWord e = omega arith
never_success BufferTooShort e = omega arith
never_success BadState e = omega arith
never_success FaultyLine e = omega arith
never_success FirstXNotHeld e = omega arith
never_success FirstYNotHeld e = omega arith
never_success SecondXNotHeld e = omega arith
never_success SecondYNotHeld e = omega arith
never_success NoReply e = omega arith
never_success MarkedFormat e = omega arith
never_success TooManyWords e = omega arith
never_success NumberTooWide e = omega arith

-- "2 is given no more"
pub no_refusal_two : (r : Refusal) → number_of r ≡ 2 → ⊥
no_refusal_two NoSuchLetter e = omega arith
no_refusal_two ButtonsAboveSeven e = omega arith
no_refusal_two BadWord e = omega arith
no_refusal_two BufferTooShort e = omega arith
no_refusal_two BadState e = omega arith
no_refusal_two FaultyLine e = omega arith
no_refusal_two FirstXNotHeld e = omega arith
no_refusal_two FirstYNotHeld e = omega arith
no_refusal_two SecondXNotHeld e = omega arith
no_refusal_two SecondYNotHeld e = omega arith
no_refusal_two NoReply e = omega arith
no_refusal_two MarkedFormat e = omega arith
no_refusal_two TooManyWords e = omega arith
no_refusal_two NumberTooWide e = omega arith

-- So a record that has the number of an answer, and its value where it is none of them, tells two answers apart.
pub result_apart : {A R : Type 0} (told : Result A Refusal → R) (number : R → ℕ) (value : R → A)
    → ((a : A) → number (told (Ok a)) ≡ 0)
    → ((r : Refusal) → number (told (Err r)) ≡ number_of r)
    → ((a : A) → value (told (Ok a)) ≡ a)
    → (x y : Result A Refusal) → told x ≡ told y → x ≡ y
result_apart told number value zero is valued (Ok a) (Ok b) e = ap Ok (sym (valued a) ∙ ap value e ∙ valued b)
result_apart told number value zero is valued (Ok a) (Err s) e = absurd (never_success s (sym (is s) ∙ ap number (sym e) ∙ zero a))
result_apart told number value zero is valued (Err r) (Ok b) e = absurd (never_success r (sym (is r) ∙ ap number e ∙ zero b))
result_apart told number value zero is valued (Err r) (Err s) e = ap Err (numbers_apart r s (sym (is r) ∙ ap number e ∙ is s))

-- and so does the number beside counts
pub if_apart : (a b : Option Refusal) → number_if a ≡ number_if b → a ≡ b
if_apart None None e = refl
if_apart None (Some s) e = absurd (never_success s (sym e))
if_apart (Some r) None e = absurd (never_success r e)
if_apart (Some r) (Some s) e = ap Some (numbers_apart r s e)
