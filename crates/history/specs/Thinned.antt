-- A run of which idle Sends were left out, each of which gave a silence and left the box as it was.
use Rattle.std.specs.Prelude.{ℕ, ◌≡◌, List, [], ◌∷◌}
use Rattle.frames.specs.Words.{silence}
use Rattle.ballbox.specs.Events.{gives}
use Rattle.ballbox.specs.Promises.{step_of}
use Rattle.ballbox.specs.declared.BallBox.{BallBox}
use Rattle.ballbox.specs.declared.Event.{Event}
use Rattle.ballbox.specs.declared.Event.TheVariants.{Send}
use Rattle.ballbox.specs.declared.Stepped.{Stepped}
use Rattle.history.specs.Runs.{words_given}

-- `Thins b events answers fewer answered`: of the run the events `fewer` and the answers `answered` are left
pub data Thins : BallBox → List Event → List Stepped → List Event → List Stepped → Type 0 where
  ended : {b : BallBox} → Thins b [] [] [] []
  same : {b : BallBox} {e : Event} {a : Stepped} {events fewer : List Event} {answers answered : List Stepped}
      → Thins a.next events answers fewer answered
      → Thins b (e ∷ events) (a ∷ answers) (e ∷ fewer) (a ∷ answered)
  idle : {b : BallBox} {a : Stepped} {events fewer : List Event} {answers answered : List Stepped}
      → step_of b Send ≡ gives (silence ∷ []) b
      → Thins b events answers fewer answered
      → Thins b (Send ∷ events) (a ∷ answers) fewer answered

-- a choice of such Sends by which the words are these
pub record Chosen (b : BallBox) (events : List Event) (answers : List Stepped) (words : List ℕ) : Type 0 where
  pub fewer : List Event
  pub answered : List Stepped
  pub thins : Thins b events answers fewer answered
  pub words_are : words_given answered ≡ words
