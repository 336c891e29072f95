-- "Is that a proper ball box?": the yard check says yes exactly where a box of ours can send the words, and a no gives the first word at which none can.
use Rattle.std.specs.Prelude.{ℕ, ◌<◌, ◌≤◌, ◌≡◌, true, false, List, [], ◌∷◌, length, take}
use Rattle.wire.specs.Line.{letter_of}
use Rattle.wire.specs.Numbers.{success}
use Rattle.wire.specs.declared.Format.{Format}
use Rattle.wire.specs.declared.Format.TheVariants.{Mm, FiveByte}
use Rattle.ballbox.specs.Box.{dormant}
use Rattle.ballbox.specs.Good.{good}
use Rattle.ballbox.specs.Promises.{FreshPromise, StepPromise}
use Rattle.ballbox.specs.declared.BallBox.{BallBox}
use Rattle.ballbox.specs.declared.Stepped.{Stepped}
use Rattle.ballbox.specs.declared.Event.TheVariants.{Host}
use Rattle.history.specs.Runs.{RunPromise, words_given}
use Rattle.yard.specs.Log.{judgement, passes}
use Rattle.yard.specs.Promises.{CheckPromise}
use Rattle.yard.specs.declared.Checked.{Checked}
use Rattle.yard.proofs.Computing.{computing}
use Rattle.proper.specs.Sends.{SendsFrom, CanSend, all_handed}
use Rattle.proper.proofs.Answered as answered

module _ (f : Format) (words : List ℕ) (a : Checked) (told : CheckPromise (letter_of f) words a) where
  -- "say yes exactly when some box of ours, set to that format and then asked only for reports, can send those words from there on": where it says yes
  -- a fresh box can, by events whose numbers can be handed in
  pub yes : passes a ≡ true → (b : BallBox) → FreshPromise b → (s : SendsFrom b f words) × (all_handed s.events ≡ true)
  yes = answered.yes f words a told

  -- and where any good box that is awake can, it says yes
  pub only : CanSend f words → a ≡ judgement (length words) (length words)
  only = answered.only f words a told

  -- "A no gives the first word at which the words so far can no longer be sent": a fresh box can send the words before it, by events
  -- whose numbers can be handed in,
  pub before : a.refusal ≡ success → (b : BallBox) → FreshPromise b → (s : SendsFrom b f (take a.sendable words)) × (all_handed s.events ≡ true)
  before = answered.before f words a told

  -- no good box that is awake can send them with it, or with more,
  pub beyond : a.refusal ≡ success → (n : ℕ) → a.sendable < n → n ≤ length words → CanSend f (take n words) → ⊥
  beyond = answered.beyond f words a told

  -- and it is a word of the log
  pub place : a.refusal ≡ success → passes a ≡ false → a.sendable < length words
  place = answered.place f words a told

-- "can send" leaves no choice to the box: whatever answers the promise of the public step permits, to the letter and to the events, give these words
pub whatever_answers : (b : BallBox) (f : Format) (words : List ℕ) → good b ≡ true → dormant b ≡ false → (s : SendsFrom b f words)
    → (set : Stepped) (answers : List Stepped)
    → StepPromise b (Host (letter_of f)) set
    → RunPromise set.next s.events answers
    → words_given answers ≡ words
whatever_answers = answered.whatever_answers

-- the lines of the runs that are worked out in Worked pass
pub worked_s : (a : Checked) → CheckPromise (letter_of Mm) (0x90 ∷ 0x05 ∷ 0x03 ∷ 257 ∷ 0x9C ∷ 0x00 ∷ 0x00 ∷ []) a → a ≡ judgement 7 7
unfolding computing
worked_s a p = p

pub worked_u : (a : Checked) → CheckPromise (letter_of FiveByte) (0x87 ∷ 0x85 ∷ 0x00 ∷ 0x85 ∷ 0x00 ∷ 257 ∷ 0x83 ∷ 0x00 ∷ 0x00 ∷ 0x00 ∷ 0x00 ∷ []) a
    → a ≡ judgement 11 11
unfolding computing
worked_u a p = p
