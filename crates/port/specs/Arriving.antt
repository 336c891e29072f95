-- What comes at a tty of the words that a box gives.
use Rattle.std.specs.Prelude.{ℕ, ◌<◌, List, [], ◌∷◌, ◌++◌}
use Rattle.frames.specs.Words.{silence}
use Rattle.port.specs.Marks.{cleared}
use Rattle.port.specs.Delivered.{Came, sound, damaged, broken}
use Rattle.port.specs.Hearing.{What, came, missed, Moment, silent, Arrival}

-- what can be seen to be damage: a byte that came damaged, of any value, a break, or bytes that are known to be lost, with
-- what came about that time thrown away
pub data Harm : What → Type 0 where
  is_damaged : (x : ℕ) → Harm (came (damaged x))
  is_broken : Harm (came broken)
  is_missed : (about : List Came) → Harm (missed about)

abbrev pub moment : What → ℕ → List ℕ → Moment
moment what silences waited = record { what = what; silences = silences; waited = waited }

-- `Comes clears moments words`: what comes, moment by moment, of a box's words. A byte comes sound, with any bit 7 where
-- the port clears it; or a stretch of any words, one or more or none, is seen to be damage. So a byte or a 256 may come
-- damaged or as a break (a stretch of one), bytes may run together (more), a break or a damaged byte may come in (none),
-- and bytes that are lost, by the line, the driver or the program, are told to the port before anything else comes.
-- Behind each stand its silences. A silence need not stand.
pub data Comes (clears : ℕ) : List Moment → List ℕ → Type 0 where
  nothing : Comes clears [] []
  sounds : (b silences : ℕ) (waited : List ℕ) {moments : List Moment} {words : List ℕ}
      → b < 256
      → Comes clears moments words
      → Comes clears (moment (came (sound b)) silences waited ∷ moments) (cleared clears b ∷ (silent silences ++ words))
  harmed : {what : What} → Harm what
      → (gone : List ℕ) (silences : ℕ) (waited : List ℕ) {moments : List Moment} {words : List ℕ}
      → Comes clears moments words
      → Comes clears (moment what silences waited ∷ moments) (gone ++ (silent silences ++ words))
  stands_not : {moments : List Moment} {words : List ℕ} → Comes clears moments words → Comes clears moments (silence ∷ words)

-- from the opening of the port on
pub data Arrives (clears : ℕ) : Arrival → List ℕ → Type 0 where
  arrives : (silences : ℕ) (waited : List ℕ) {moments : List Moment} {words : List ℕ}
      → Comes clears moments words
      → Arrives clears (record { silences = silences; waited = waited; moments = moments }) (silent silences ++ words)
