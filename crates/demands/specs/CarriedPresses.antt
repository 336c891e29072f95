-- Laws of presses: what a format carries of them, and what its finished reports show.
use Rattle.std.specs.Prelude.{ℕ, ◌≤◌, ◌≡◌, refl, Bool, true, false, List, [], ◌∷◌, map}
use Rattle.std.proofs.Common.{arith}
use Rattle.numbers.specs.Bits.{O, number, bit}
use Rattle.frames.specs.Passages.{Passage, silent, finished, broken}
use Rattle.wire.specs.Messages.{Message, report, reply, finished_reports}
use Rattle.wire.specs.Buttons.{Button, left, middle, right, is_down, presses, buttons_of, buttons_sent, buttons_in}
use Rattle.wire.specs.declared.Format.{Format}
use Rattle.wire.specs.declared.Format.TheVariants.{Mm, Microsoft, Absolute, Relative, FiveByte, ThreeByte, Hexadecimal}
use Rattle.wire.proofs.Buttons as buttons

-- V never shows M
no_middle : (x y : Bool) → bit 1 (number (x ∷ O ∷ y ∷ [])) ≡ false
unfolding bit number
no_middle true true = refl
no_middle true false = refl
no_middle false true = refl
no_middle false false = refl

none_in_v : (was : Bool) (states : List ℕ) → presses (is_down middle) was (map (buttons_in Microsoft) states) ≡ 0
unfolding presses
none_in_v was [] = refl
none_in_v was (s ∷ states) = rw (no_middle (bit 2 s) (bit 0 s), none_in_v false states)

-- What a format carries of states has no more presses of a button than they have: as many, or, of M in V, none.
pub carried_fewer : (f : Format) (button : Button) (was : Bool) (states : List ℕ)
    → presses (is_down button) was (map (buttons_in f) states) ≤ presses (is_down button) was states
carried_fewer f left was states = omega (arith, buttons.presses_carried f (is_down left) (buttons.carries_left f) was states)
carried_fewer f right was states = omega (arith, buttons.presses_carried f (is_down right) (buttons.carries_right f) was states)
carried_fewer Microsoft middle was states = omega (arith, none_in_v was states)
carried_fewer Mm middle was states = omega (arith, buttons.presses_carried Mm (is_down middle) (λ n. refl) was states)
carried_fewer Absolute middle was states = omega (arith, buttons.presses_carried Absolute (is_down middle) (λ n. refl) was states)
carried_fewer Relative middle was states = omega (arith, buttons.presses_carried Relative (is_down middle) (λ n. refl) was states)
carried_fewer FiveByte middle was states = omega (arith, buttons.presses_carried FiveByte (is_down middle) (λ n. refl) was states)
carried_fewer ThreeByte middle was states = omega (arith, buttons.presses_carried ThreeByte (is_down middle) (λ n. refl) was states)
carried_fewer Hexadecimal middle was states = omega (arith, buttons.presses_carried Hexadecimal (is_down middle) (λ n. refl) was states)

-- the buttons of the finished reports are what f carries of those that were latched
pub as_shown : (f : Format) (passages : List (Passage Message)) → buttons_of (finished_reports f passages) ≡ map (buttons_in f) (buttons_sent passages)
as_shown f [] = refl
as_shown f (silent ∷ passages) = as_shown f passages
as_shown f (finished (report l) ∷ passages) = rw (buttons.carried_in f l.report, as_shown f passages)
as_shown f (finished (reply bytes) ∷ passages) = as_shown f passages
as_shown f (broken n m ∷ passages) = as_shown f passages
