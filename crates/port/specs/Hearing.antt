-- A line and the program that hears it: what came, the silences that stood on the line behind it, and the waits in which
-- the program saw nothing come.
use Rattle.std.specs.Prelude.{ℕ, zero, suc, ◌<◌, ◌≡◌, List, [], ◌∷◌, ◌++◌}
use Rattle.frames.specs.Words.{break, silence}
use Rattle.port.specs.Delivered.{Came, delivered_one, delivered, word_of}
use Rattle.port.specs.Sessions.{Event, lost, reads, throws, waits, sum}

-- something came; or bytes are known to be lost, here or in what came about that time, the words of which the program
-- throws away
pub data What : Type 0 where
  came : Came → What
  missed : List Came → What

pub record Moment : Type 0 where
  pub what : What
  pub silences : ℕ
  pub waited : List ℕ

-- what the program hands to the port
abbrev pub events_at : What → List Event
events_at (came c) = reads (delivered_one c)
events_at (missed about) = throws (delivered about) ++ (lost ∷ [])

abbrev pub events_of : List Moment → List Event
events_of [] = []
events_of (m ∷ moments) = events_at m.what ++ (waits m.waited ++ events_of moments)

-- so many silences
abbrev pub silent : ℕ → List ℕ
silent zero = []
silent (suc n) = silence ∷ silent n

-- the words that stood on the line, with a 256 where bytes are known to be lost
abbrev pub word_at : ℕ → What → ℕ
word_at clears (came c) = word_of clears c
word_at clears (missed about) = break

abbrev pub stood : ℕ → List Moment → List ℕ
stood clears [] = []
stood clears (m ∷ moments) = word_at clears m.what ∷ (silent m.silences ++ stood clears moments)

-- what is asked of the program and of all below it: where no silence stood on the line, no waits of its length are handed
-- in
abbrev pub Sure : ℕ → List Moment → Type 0
Sure q [] = Unit {0}
Sure q (m ∷ moments) = (m.silences ≡ 0 → sum m.waited < q) × Sure q moments

-- from the opening of the port on: the silences that stood before anything came, and the waits, and then the moments
pub record Arrival : Type 0 where
  pub silences : ℕ
  pub waited : List ℕ
  pub moments : List Moment

abbrev pub events_from : Arrival → List Event
events_from a = waits a.waited ++ events_of a.moments

abbrev pub stood_from : ℕ → Arrival → List ℕ
stood_from clears a = silent a.silences ++ stood clears a.moments

abbrev pub SureFrom : ℕ → Arrival → Type 0
SureFrom q a = (a.silences ≡ 0 → sum a.waited < q) × Sure q a.moments
