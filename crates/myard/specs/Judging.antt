-- What is said of a recording: `Y`, or `N` and the line of the first impossible word; a bad line is `E` and its number.
use Rattle.std.specs.Prelude.{ℕ, ◌+◌, cond, List, [], ◌∷◌, ◌++◌, pos}
use Rattle.text.specs.Decimals.{plain, decimal_of}
use Rattle.listing.specs.Scanning.{width, recording_of}
use Rattle.listing.specs.declared.Found.{Found}
use Rattle.listing.specs.declared.Found.TheVariants as found
use Rattle.yard.specs.Log.{passes}
use Rattle.yard.specs.Promises.{check_of}
use Rattle.yard.specs.declared.Checked.{Checked}
use Rattle.myard.specs.declared.Verdict.{Verdict}
use Rattle.myard.specs.declared.Verdict.TheVariants.{Yes, No, Bad, Over}

-- the format of a recording, which comes first
abbrev pub format_in : List Found → ℕ
format_in [] = 0
format_in (found.Nothing ∷ fs) = 0
format_in (found.Format letter ∷ fs) = letter
format_in (found.Word n w ∷ fs) = 0
format_in (found.Bad n ∷ fs) = 0
format_in (found.Over ∷ fs) = 0
format_in (found.End ∷ fs) = 0

-- its words
abbrev pub words_in : List Found → List ℕ
words_in [] = []
words_in (found.Nothing ∷ fs) = words_in fs
words_in (found.Format letter ∷ fs) = words_in fs
words_in (found.Word n w ∷ fs) = w ∷ words_in fs
words_in (found.Bad n ∷ fs) = words_in fs
words_in (found.Over ∷ fs) = words_in fs
words_in (found.End ∷ fs) = words_in fs

-- what the check says of them: yes, or no and the line of the first word that cannot be sent. Line 1 is the format's, so the word at a place, counted
-- from 0, stands two lines on.
abbrev pub judged : Checked → Verdict
judged c = cond (passes c) Yes (No (2 + c.sendable))

-- unless a line is bad, wherever it stands, or one too many: then that is said
abbrev pub unless : List Found → Verdict → Verdict
unless [] v = v
unless (found.Nothing ∷ fs) v = unless fs v
unless (found.Format letter ∷ fs) v = unless fs v
unless (found.Word n w ∷ fs) v = unless fs v
unless (found.Bad n ∷ fs) v = Bad n
unless (found.Over ∷ fs) v = Over
unless (found.End ∷ fs) v = unless fs v

-- the verdict on a recording, and on an input
abbrev pub verdict_in : List Found → Verdict
verdict_in fs = unless fs (judged (check_of (format_in fs) (words_in fs)))

unfoldable pub verdict_on : List ℕ → Verdict
verdict_on input = verdict_in (recording_of width input)

-- the line that is written; its numbers have no leading zeros
abbrev pub numbered : ℕ → ℕ → List ℕ
numbered letter n = letter ∷ 0x09 ∷ decimal_of plain (pos n) ++ (0x0A ∷ [])

abbrev pub yes : List ℕ
yes = 0x59 ∷ 0x0A ∷ []

abbrev pub over : List ℕ
over = 0x45 ∷ 0x09 ∷ 0x6F ∷ 0x76 ∷ 0x65 ∷ 0x72 ∷ 0x0A ∷ []

abbrev pub line_for : Verdict → List ℕ
line_for Yes = yes
line_for (No n) = numbered 0x4E n
line_for (Bad n) = numbered 0x45 n
line_for Over = over

-- THE JUDGEMENT of an input
unfoldable pub judgement_of : List ℕ → List ℕ
judgement_of input = line_for (verdict_on input)
