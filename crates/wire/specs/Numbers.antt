-- Numbers given back: "Tested in that order, where they apply; 0 is success."
use Rattle.std.specs.Prelude.{ℕ, ◌≡◌}
use mathlib.Core.List.{List, Memᴰ}

abbrev pub success : ℕ
success = 0

-- "a state that breaks the rules below"
abbrev pub bad_state : ℕ
bad_state = 6

-- "a format letter not in the table"
abbrev pub bad_letter : ℕ
bad_letter = 1

-- "buttons above 7"
abbrev pub bad_buttons : ℕ
bad_buttons = 3

-- "movement the format cannot hold, either pair": "8 first x, 9 first y, 10 second x, 11 second y, in 2's old place"; 2 is given no more
abbrev pub bad_first_x : ℕ
bad_first_x = 8

abbrev pub bad_first_y : ℕ
bad_first_y = 9

abbrev pub bad_second_x : ℕ
bad_second_x = 10

abbrev pub bad_second_y : ℕ
bad_second_y = 11

-- "encoder's buffer shorter than the report"
abbrev pub short_buffer : ℕ
short_buffer = 5

-- "a line word above 257"
abbrev pub bad_word : ℕ
bad_word = 4

-- "A refusal has a number from the list": what a call leaves is no refusal, or one of the refusals that may be
pub data RefusesRightly {A : Type 0} (number : A → ℕ) (refusals : List A) (a : A) : Type 0 where
  accepted : number a ≡ success → RefusesRightly number refusals a
  refusal : Memᴰ a refusals → RefusesRightly number refusals a
