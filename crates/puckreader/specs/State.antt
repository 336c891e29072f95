-- What the reader of the VSXXX holds, and what it answers.
use Rattle.std.specs.Prelude.{ℕ, List, [], ◌∷◌, ◌++◌, length, take, replicate, ℤ, pos}
use Rattle.frames.specs.Frame as frame
use Rattle.vsxxx.specs.Reports.{PuckReport, movement, self_test, six_of}
use Rattle.puckreader.specs.declared.PuckReader.{PuckReader}
use Rattle.puckreader.specs.declared.PuckAnswer.{PuckAnswer}
use Rattle.puckreader.specs.declared.PuckAnswer.TheVariants.{Nothing, Movement, Test, Dropped}

-- "up to size minus one bytes": three places, of which the first hold the kept bytes, and the others 0
abbrev pub reader : List ℕ → ℕ → PuckReader
reader kept count = record { kept = kept; count = count }

abbrev pub kept_in : PuckReader → List ℕ
kept_in r = take r.count r.kept

abbrev pub three : List ℕ → List ℕ
three bytes = take 3 (bytes ++ replicate 3 0)

abbrev pub holding : List ℕ → PuckReader
holding bytes = reader (three bytes) (length bytes)

-- "Fresh: no bytes"
abbrev pub fresh : PuckReader
fresh = holding []

-- "Each word is answered by nothing, a report, or a number of bytes dropped"; a report is a movement or a self-test
abbrev pub told : frame.Answer PuckReport → PuckAnswer
told frame.nothing = Nothing
told (frame.report (movement r)) = Movement r
told (frame.report (self_test t)) = Test t
told (frame.dropped k) = Dropped k

-- for each case its numbers
abbrev pub numbers_of : PuckAnswer → List ℤ
numbers_of Nothing = []
numbers_of (Movement r) = six_of (movement r)
numbers_of (Test t) = six_of (self_test t)
numbers_of (Dropped k) = pos k ∷ []

-- what a step gives back: a number, the reader, and the answer
pub record PuckRead : Type 0 where
  pub refusal : ℕ
  pub next : PuckReader
  pub answer : PuckAnswer
