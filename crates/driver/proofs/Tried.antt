-- What the lister finds in the recording of an input: the format, the words that the public box gave, numbered by their lines, and the end; or, behind the words, a bad line.
use Prim.Native.Nat.{ℕ, ◌+◌, ◌-◌, ◌≤◌, ◌<◌}
use mathlib.Core.Path.{◌≡◌, ◌∙◌, ap}
use mathlib.Core.Bool.{true, false}
use mathlib.Core.List.{List, [], ◌∷◌, ◌++◌}
use lib.ListN.{length, take}
use Rattle.frames.specs.Words.{line_words}
use Rattle.wire.specs.Line.{known}
use Rattle.listing.specs.Scanning.{width, most_lines}
use Rattle.listing.specs.Scanning as scanning
use Rattle.listing.specs.declared.Found.{Found}
use Rattle.listing.specs.declared.Found.TheVariants.{Format, Bad, Over, End}
use Rattle.ballbox.specs.Box.{fresh_box}
use Rattle.ballbox.specs.Promises.{StepPromise}
use Rattle.ballbox.specs.declared.Stepped.{Stepped}
use Rattle.ballbox.specs.declared.Event.TheVariants.{Host}
use Rattle.history.specs.Runs.{RunPromise, words_given}
use Rattle.driver.specs.Lines.{said_by}
use Rattle.driver.specs.Recorded.{all_lines}
use Rattle.driver.specs.Driving.{records_of, recording_of}
use Rattle.driver.specs.Events.{events_of, passes, Tries}
use Rattle.driver.specs.declared.Record.{Record}
use Rattle.driver.proofs.BoxWords.{box_words, box_words_bad, box_words_over}
use Rattle.driver.proofs.Listed.{numbered, found_whole, found_too_long, found_bad, found_over}

recorded_as : (input : List ℕ) (rs : List Record) → records_of input ≡ rs → scanning.recording_of width (recording_of input) ≡ scanning.recording_of width (all_lines rs)
unfolding recording_of
recorded_as input rs e = ap (λ (l : List Record). scanning.recording_of width (all_lines l)) e

-- a format, numbered words, and an end
abbrev pub Finds : List ℕ → ℕ → List ℕ → Found → Type 0
Finds input f words end = scanning.recording_of width (recording_of input) ≡ Format f ∷ (numbered 1 words ++ end ∷ [])

-- any answers that the promise permits to the letter, which is one of the table, and to the events; none of their words is above 257
module _ {input : List ℕ} {f : ℕ} {lines : List (List ℕ)} (tries : Tries input f lines []) (a : Stepped) (answers : List Stepped)
    (set : StepPromise fresh_box (Host f) a) (run : RunPromise a.next (events_of lines) answers)
    (letter : known f ≡ true) (legal : line_words (words_given answers) ≡ true) where
  pub whole_found : length (words_given answers) < most_lines → Finds input f (words_given answers) End
  whole_found k = recorded_as input _ (box_words tries a answers set run) ∙ found_whole f (words_given answers) letter legal k

  pub long_found : most_lines ≤ length (words_given answers) → Finds input f (take (most_lines - 1) (words_given answers)) Over
  long_found k = recorded_as input _ (box_words tries a answers set run) ∙ found_too_long f (words_given answers) letter legal k

module _ {input : List ℕ} {f : ℕ} {lines rest : List (List ℕ)} {l : List ℕ} (tries : Tries input f lines (l ∷ rest)) (a : Stepped) (answers : List Stepped)
    (set : StepPromise fresh_box (Host f) a) (run : RunPromise a.next (events_of lines) answers)
    (letter : known f ≡ true) (legal : line_words (words_given answers) ≡ true) (k : length (words_given answers) + 1 < most_lines) where
  pub bad_found : passes (said_by l) ≡ false → length lines + 1 < most_lines → Finds input f (words_given answers) (Bad (length (words_given answers) + 2))
  bad_found fails few = recorded_as input _ (box_words_bad tries a answers set run fails few) ∙ found_bad f (words_given answers) letter legal (length lines + 2) k

  pub over_found : length lines + 1 ≡ most_lines → Finds input f (words_given answers) (Bad (length (words_given answers) + 2))
  over_found all = recorded_as input _ (box_words_over tries a answers set run all) ∙ found_over f (words_given answers) letter legal k
