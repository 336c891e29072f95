-- Buttons and presses: which are down, how often one goes down, and what reports show of them.
use Rattle.std.specs.Prelude.{ℕ, ◌+◌, ◌≡◌, Bool, not, cond, ◌&&◌, List, [], ◌∷◌, map}
use Rattle.numbers.specs.Bits.{O, number, bit}
use Rattle.frames.specs.Passages.{Passage, UnderWay, finished_by, begun_by, going_by}
use Rattle.wire.specs.Messages.{Message, report, reply}
use Rattle.wire.specs.declared.Report.{Report}
use Rattle.wire.specs.declared.Format.{Format}
use Rattle.wire.specs.declared.Format.TheVariants.{Mm, Microsoft, Absolute, Relative, FiveByte, ThreeByte, Hexadecimal}

-- "Buttons are 4L+2M+R": a button, and whether it is down
pub data Button : Type 0 where
  left : Button
  middle : Button
  right : Button

abbrev pub is_down : Button → ℕ → Bool
is_down left n = bit 2 n
is_down middle n = bit 1 n
is_down right n = bit 0 n

-- A press is down behind up. The presses of a button, told by its test, over states; `was` says whether it was down
-- before them.
unfoldable pub presses : (ℕ → Bool) → Bool → List ℕ → ℕ
presses down was [] = 0
presses down was (s ∷ states) = cond (down s && not was) 1 0 + presses down (down s) states

-- the buttons of reports
abbrev pub buttons_of : List Report → List ℕ
buttons_of reports = map (λ (r : Report). r.buttons) reports

-- the presses among reports: behind buttons that are known, and from the first report on where none are
abbrev pub presses_from : (ℕ → Bool) → ℕ → List Report → ℕ
presses_from down n reports = presses down (down n) (buttons_of reports)

abbrev pub presses_among : (ℕ → Bool) → List Report → ℕ
presses_among down [] = 0
presses_among down (r ∷ reports) = presses_from down r.buttons reports

-- the buttons of a report as it was latched; of the finished ones on a line; of all of which a byte may have gone; and
-- of the one that is going
abbrev pub latched_buttons : Message → List ℕ
latched_buttons (report l) = l.report.buttons ∷ []
latched_buttons (reply bytes) = []

abbrev pub buttons_sent : List (Passage Message) → List ℕ
buttons_sent passages = finished_by latched_buttons passages

abbrev pub buttons_begun : List (Passage Message) → List ℕ
buttons_begun passages = begun_by latched_buttons passages

abbrev pub buttons_going : UnderWay Message → List ℕ
buttons_going going = going_by latched_buttons going

-- the buttons as a format carries them: "V drops M"
abbrev pub buttons_in : Format → ℕ → ℕ
buttons_in Mm n = n
buttons_in Microsoft n = number (bit 2 n ∷ O ∷ bit 0 n ∷ [])
buttons_in Absolute n = n
buttons_in Relative n = n
buttons_in FiveByte n = n
buttons_in ThreeByte n = n
buttons_in Hexadecimal n = n

-- a format carries a button: its reports show whether it is down
abbrev pub CarriedBy : Format → (ℕ → Bool) → Type 0
CarriedBy f down = (n : ℕ) → down (buttons_in f n) ≡ down n
