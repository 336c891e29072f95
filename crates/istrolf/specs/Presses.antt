-- What the press theorem promises of a box in C.
use Rattle.std.specs.Prelude.{ℕ, suc, ◌*◌, ◌≤◌, ◌≡◌, true, List, ◌++◌, length}
use Rattle.frames.specs.Passages.{Passage, UnderWay}
use Rattle.wire.specs.Line.{size_by}
use Rattle.wire.specs.Messages.{Message}
use Rattle.ballbox.specs.Presses.{remembered}
use Rattle.ballbox.specs.declared.BallBox.{BallBox}
use Rattle.ballbox.specs.declared.Event.{Event}
use Rattle.ballbox.specs.declared.Stepped.{Stepped}
use Rattle.history.specs.History.{passages_of, going_after}
use Rattle.history.specs.Presses.{no_host, states_over, shown_by, ShownAgain, slots_in, last_box}
use Rattle.demands.specs.Presses.{AllShown}

-- what it sent, and the states that a box remembers
abbrev pub sent : BallBox → UnderWay Message → List Event → List (Passage Message)
sent b going events = passages_of b going events

abbrev pub remembered_by : BallBox → List ℕ
remembered_by b = remembered b.memory

-- the states remembered and the changes are shown in order, each by a report of its own; a broken-off report is followed by another with the same
-- buttons; and with k remembered, after (k + 1) reports' worth of slots without a byte of the host's those k have been shown
pub record Shown (b : BallBox) (going : UnderWay Message) (events : List Event) (answers : List Stepped) : Type 0 where
  pub in_order : states_over b (remembered_by b) events ≡ shown_by (sent b going events) ++ remembered_by (last_box b answers)
  pub again : ShownAgain (sent b going events) (going_after b going events)
  pub within : no_host events ≡ true
      → suc (length (remembered_by b)) * size_by b.settings.format ≤ slots_in events
      → AllShown b events (shown_by (sent b going events)) (last_box b answers)
