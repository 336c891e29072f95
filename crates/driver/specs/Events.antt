-- The events that lines ask of a box.
use Rattle.std.specs.Prelude.{ℕ, zero, suc, ◌<◌, ◌≡◌, Bool, true, false, not, ◌&&◌, List, [], ◌∷◌, ◌++◌, length}
use Rattle.listing.specs.Lines.{lines_in}
use Rattle.listing.specs.Scanning.{most_lines}
use Rattle.ballbox.specs.Promises.{above_seven}
use Rattle.ballbox.specs.declared.Event.{Event}
use Rattle.ballbox.specs.declared.Event.TheVariants.{Latch, Send}
use Rattle.driver.specs.Lines.{said_by}
use Rattle.driver.specs.declared.Order.{Order}
use Rattle.driver.specs.declared.Order.TheVariants as order

-- "so many times latch and send"
abbrev pub slot_events : ℕ → List Event
slot_events zero = []
slot_events (suc k) = Latch ∷ Send ∷ slot_events k

-- the events of a line behind the first, and of such lines
abbrev pub events_in : Order → List Event
events_in order.Bad = []
events_in (order.Format f) = []
events_in (order.Single e) = e ∷ []
events_in (order.Slots k) = slot_events k

abbrev pub events_of : List (List ℕ) → List Event
events_of [] = []
events_of (l ∷ ls) = events_in (said_by l) ++ events_of ls

-- a line behind the first is not bad, nor its event one that the box refuses, which is buttons above 7; and lines that all pass
abbrev pub passes : Order → Bool
passes order.Bad = false
passes (order.Format f) = false
passes (order.Single e) = not (above_seven e)
passes (order.Slots k) = true

abbrev pub all_pass : List (List ℕ) → Bool
all_pass [] = true
all_pass (l ∷ ls) = passes (said_by l) && all_pass ls

-- an input whose first line says the format f, then lines that all pass, no line too many, and then the rest
pub record Tries (input : List ℕ) (f : ℕ) (lines rest : List (List ℕ)) : Type 0 where
  pub first : List ℕ
  pub is : lines_in input ≡ first ∷ (lines ++ rest)
  pub says : said_by first ≡ order.Format f
  pub pass : all_pass lines ≡ true
  pub few : length lines < most_lines

-- a line that says no format
abbrev pub no_format : Order → Bool
no_format order.Bad = true
no_format (order.Format f) = false
no_format (order.Single e) = true
no_format (order.Slots k) = true
