-- The ranges of the hexadecimal digits are the look-up 0123456789ABCDEF, at every byte and at every number below 16.
use Prim.Native.Nat.{ℕ, ◌<◌}
use mathlib.Core.Path.{◌≡◌}
use lib.ListN.{get_or}
use Rattle.numbers.proofs.Tested.{agree, equal}
use Rattle.wire.specs.Digits.{is_digit, digit, undigit, sixteen, among, place_from}

-- which bytes are digits
pub ranges_among : (b : ℕ) → b < 256 → is_digit b ≡ among sixteen b
unfolding among
ranges_among b h = agree is_digit (among sixteen) 256 tt b h

-- digit to number: its place in the look-up
pub number_looked_up : (b : ℕ) → b < 256 → undigit b ≡ place_from 0 sixteen b
unfolding undigit place_from
number_looked_up b h = equal undigit (place_from 0 sixteen) 256 tt b h

-- number to digit: what stands at this place
pub digit_looked_up : (n : ℕ) → n < 16 → digit n ≡ get_or sixteen n 0
unfolding digit
digit_looked_up n h = equal digit (λ n. get_or sixteen n 0) 16 tt n h
