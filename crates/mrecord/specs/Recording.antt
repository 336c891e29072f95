-- The recording of what was heard: the lines of the words that the port tells, up to where it is full.
use Rattle.std.specs.Prelude.{ℕ, ◌-◌, Bool, cond, ◌&&◌, List, [], ◌∷◌, ◌++◌, eqb, ltb, pos}
use Rattle.frames.specs.Words.{break, silence}
use Rattle.text.specs.Decimals.{plain, decimal_of}
use Rattle.port.specs.Marks.{opened}
use Rattle.shell.specs.Standing.{Program, program}
use Rattle.hearing.specs.Words.{line_gone}
use Rattle.hearing.specs.Turns.{over}
use Rattle.hearing.specs.declared.session.Session.{Session}
use Rattle.mrecord.specs.declared.Tape.{Tape}

-- "`B` decimal byte, `X` (256), `Q` (257)"
unfoldable pub line_of : ℕ → List ℕ
line_of w = cond (eqb w break) (88 ∷ 10 ∷ []) (cond (eqb w silence) (81 ∷ 10 ∷ []) (66 ∷ 9 ∷ decimal_of plain (pos w) ++ 10 ∷ []))

-- how many lines are left behind the line of a word: none behind a silence among the last thousand lines
unfoldable pub behind_line : ℕ → ℕ → ℕ
behind_line left w = cond (eqb w silence && ltb left 1000) 0 left

-- the lines of words, where so many are left
unfoldable pub lines_of : ℕ → List ℕ → List ℕ
lines_of left [] = []
lines_of left (w ∷ words) = cond (eqb left 0) [] (line_of w ++ lines_of (behind_line (left - 1) w) words)

-- "mrecord: ", "the recording is full", ", at a silence"
abbrev pub name : List ℕ
name = 109 ∷ 114 ∷ 101 ∷ 99 ∷ 111 ∷ 114 ∷ 100 ∷ []

abbrev pub speaks : List ℕ → List ℕ
speaks words = name ++ 58 ∷ 32 ∷ words

abbrev is_full : List ℕ
is_full = 116 ∷ 104 ∷ 101 ∷ 32 ∷ 114 ∷ 101 ∷ 99 ∷ 111 ∷ 114 ∷ 100 ∷ 105 ∷ 110 ∷ 103 ∷ 32 ∷ 105 ∷ 115 ∷ 32 ∷ 102 ∷ 117 ∷ 108 ∷ 108 ∷ []

abbrev at_silence : List ℕ
at_silence = 44 ∷ 32 ∷ 97 ∷ 116 ∷ 32 ∷ 97 ∷ 32 ∷ 115 ∷ 105 ∷ 108 ∷ 101 ∷ 110 ∷ 99 ∷ 101 ∷ 10 ∷ []

abbrev pub full_at_silence : List ℕ
full_at_silence = speaks (is_full ++ at_silence)

abbrev pub full : List ℕ
full = speaks (is_full ++ 10 ∷ [])

abbrev pub gone : List ℕ
gone = speaks (line_gone ++ 10 ∷ [])

-- what is told where it ends behind these words, of which the last was written before them: no line is left, or else the line is gone
abbrev pub full_behind : ℕ → List ℕ
full_behind last = cond (eqb last silence) full_at_silence full

unfoldable pub end_of : ℕ → ℕ → List ℕ → List ℕ
end_of last left [] = cond (eqb left 0) (full_behind last) gone
end_of last left (w ∷ words) = cond (eqb left 0) (full_behind last) (end_of w (behind_line (left - 1) w) words)

-- what a tape is still to write of words, and to tell where it ends behind them
abbrev pub text : Tape → List ℕ → List ℕ
text tape words = lines_of tape.left words

abbrev pub tells : Tape → List ℕ → List ℕ
tells tape words = end_of tape.last tape.left words

-- and of what is heard next
abbrev pub rest : Session Tape → List ℕ → List ℕ
rest = over text

abbrev pub told : Session Tape → List ℕ → List ℕ
told = over tells

-- the first line, and a second where it goes on behind a silence
abbrev pub first_line : ℕ → List ℕ
first_line letter = 70 ∷ 9 ∷ letter ∷ 10 ∷ []

abbrev pub first_lines : ℕ → Bool → List ℕ
first_lines letter begins = first_line letter ++ cond begins (line_of silence) []

-- a tape of 999,999 lines on which those stand
abbrev pub fresh : ℕ → Bool → Session Tape
fresh tenths begins = record { port = opened 0 tenths; teller = record { left = cond begins 999997 999998; last = 0 } }

-- a program of this name
abbrev pub named : (List ℕ → List ℕ) → (List ℕ → List ℕ) → Program
named = program name

-- THE RECORDING OF WHAT IT HEARS. A silence is so many tenths of a second; the recording begins with a silence where `begins` is true
abbrev pub mrecord : ℕ → ℕ → Bool → Program
mrecord letter tenths begins = named (λ heard. first_lines letter begins ++ rest (fresh tenths begins) heard) (told (fresh tenths begins))
