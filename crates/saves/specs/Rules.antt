-- What a report does, and what the numbers of a long read are to a watch.
use Rattle.std.specs.Prelude.{ℕ, ◌%◌, Bool, not, cond, ◌&&◌, List, [], ◌∷◌, eqb, ℤ, pos, negsuc}
use Rattle.numbers.specs.Bits.{number}
use Rattle.wire.specs.Buttons.{Button, left, middle, right, is_down}
use Rattle.wire.specs.declared.Report.{Report}
use Rattle.saves.specs.State.{watching}
use Rattle.saves.specs.declared.Watch.{Watch}
use Rattle.saves.specs.declared.Told.{Told}

-- "Buttons are 4L+2M+R": those that are down now and were not
abbrev pub is_new : Button → ℕ → ℕ → Bool
is_new button now was = is_down button now && not (is_down button was)

unfoldable pub new_in : ℕ → ℕ → ℕ
new_in now was = number (is_new left now was ∷ is_new middle now was ∷ is_new right now was ∷ [])

-- what is told with a report: the buttons now, and which went down and up
abbrev pub told : ℕ → ℕ → ℕ → Told
told now down up = record { next = watching now; down = down; up = up }

-- the buttons of a report: what changed since the last were seen; of the first nothing is told, unless they were known
unfoldable pub hears : Watch → ℕ → Told
hears w now = cond (eqb w.known 0) (told now 0 0) (told now (new_in now w.last) (new_in w.last now))

abbrev pub heard_of : Watch → Report → Told
heard_of w r = hears w r.buttons

-- "Over many words the reader writes five 16-bit signed numbers a report (buttons, x1, y1, x2, y2)": the buttons among
-- numbers. A number below 0 is no button, else its low three bits count; what is left behind the last whole five is not
-- looked at.
abbrev pub low_three : ℤ → ℕ
low_three (pos n) = n % 8
low_three (negsuc n) = 0

unfoldable pub buttons_among : List ℤ → List ℕ
buttons_among [] = []
buttons_among (b ∷ []) = []
buttons_among (b ∷ x1 ∷ []) = []
buttons_among (b ∷ x1 ∷ y1 ∷ []) = []
buttons_among (b ∷ x1 ∷ y1 ∷ x2 ∷ []) = []
buttons_among (b ∷ x1 ∷ y1 ∷ x2 ∷ y2 ∷ numbers) = low_three b ∷ buttons_among numbers

-- the numbers that are written for reports
abbrev pub fives : List Report → List ℤ
fives [] = []
fives (r ∷ reports) = pos r.buttons ∷ r.x1 ∷ r.y1 ∷ r.x2 ∷ r.y2 ∷ fives reports
