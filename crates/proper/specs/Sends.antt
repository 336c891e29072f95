-- "some box of ours, set to that format and then asked only for reports, can send those words from there on"
use Rattle.std.specs.Prelude.{ℕ, ◌≡◌, Bool, true, false, ◌&&◌, List, [], ◌∷◌, leb}
use Rattle.numbers.specs.Signed.{least, most}
use Rattle.wire.specs.Line.{letter_of}
use Rattle.wire.specs.Holds.{◌to◌, within}
use Rattle.wire.specs.declared.Format.{Format}
use Rattle.ballbox.specs.Box.{dormant}
use Rattle.ballbox.specs.Good.{good}
use Rattle.ballbox.specs.Promises.{StepPromise}
use Rattle.ballbox.specs.declared.BallBox.{BallBox}
use Rattle.ballbox.specs.declared.Stepped.{Stepped}
use Rattle.ballbox.specs.declared.Event.{Event}
use Rattle.ballbox.specs.declared.Event.TheVariants.{Motion, Buttons, Host, Latch, Send, Period}
use Rattle.history.specs.Runs.{RunPromise, words_given}
use Rattle.history.specs.Asked.{only_asks}

-- the box is "set to that format" by its letter, and "then asked only for reports": events, and answers to them that the promise of the public step
-- permits; "those words from there on" are theirs, without a word that the letter itself gave
pub record SendsFrom (box : BallBox) (f : Format) (words : List ℕ) : Type 0 where
  pub set : Stepped
  pub is_set : StepPromise box (Host (letter_of f)) set
  pub events : List Event
  pub asked : only_asks events ≡ true
  pub answers : List Stepped
  pub run : RunPromise set.next events answers
  pub given : words_given answers ≡ words

-- "some box of ours": a good one that is awake
abbrev pub CanSend : Format → List ℕ → Type 0
CanSend f words = (box : BallBox) × (good box ≡ true) × (dormant box ≡ false) × SendsFrom box f words

-- the numbers of an event are such as a caller can hand in: 16 bits signed, a byte, and buttons that are not refused
abbrev pub handed : Event → Bool
handed (Motion dx dy) = within (least to most) dx && within (least to most) dy
handed (Buttons n) = leb n 7
handed (Host byte) = leb byte 255
handed Latch = true
handed Send = true
handed Period = true

unfoldable pub all_handed : List Event → Bool
all_handed [] = true
all_handed (e ∷ events) = handed e && all_handed events
