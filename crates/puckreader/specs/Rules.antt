-- What one word does. The rules are those of every reader of a marked format: a byte that fits its place is kept, and
-- the last gives the report; a first byte starts a report anywhere, and the kept are dropped; a byte that no rule takes
-- is dropped with the kept; 256 and 257 drop the kept. Which byte fits where, and how many bytes a report has, the
-- frame of the two reports says.
use Rattle.std.specs.Prelude.{ℕ, cond, leb, Result, Ok, Err}
use Rattle.frames.specs.Words.{silence}
use Rattle.frames.specs.Frame.{State, has, kept, step}
use Rattle.frames.specs.Frame as frame
use Rattle.wire.specs.Numbers.{success, bad_word}
use Rattle.wire.specs.Refusals.{number_of}
use Rattle.wire.specs.declared.refusal.Refusal.{Refusal}
use Rattle.vsxxx.specs.Reports.{PuckReport, puck_frame}
use Rattle.puckreader.specs.State.{PuckRead, kept_in, holding, told}
use Rattle.puckreader.specs.declared.PuckReader.{PuckReader}
use Rattle.puckreader.specs.declared.PuckStep.{PuckStep}
use Rattle.puckreader.specs.declared.PuckAnswer.TheVariants.{Nothing}

-- "A refusal returns the old state", and answers nothing
abbrev pub refusing : ℕ → PuckReader → PuckRead
refusing n r = record { refusal = n; next = r; answer = Nothing }

-- a word that is not refused, and what a step's result comes to
abbrev pub taken : PuckStep → PuckRead
taken s = record { refusal = success; next = s.next; answer = s.answer }

abbrev pub read_in : PuckReader → Result PuckStep Refusal → PuckRead
read_in r (Ok s) = taken s
read_in r (Err e) = refusing (number_of e) r

abbrev pub answered : State × frame.Answer PuckReport → PuckRead
answered x = record { refusal = success; next = holding (kept x.0); answer = told x.1 }

-- a word, to a good reader: "a line word above 257" is refused
unfoldable pub word_of : PuckReader → ℕ → PuckRead
word_of r w = cond (leb w silence) (answered (step puck_frame (has (kept_in r)) w)) (refusing bad_word r)
