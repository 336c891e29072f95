-- The same as it is heard: what is found goes to the check, one after the other, and byte by byte.
use Rattle.std.specs.Prelude.{ℕ, ◌≤◌, ◌≡◌, Bool, cond, List, [], ◌∷◌, length}
use Rattle.text.specs.Growth.{capacity, text_of}
use Rattle.text.specs.declared.Text.{Text}
use Rattle.wire.specs.Line.{letter_of}
use Rattle.wire.specs.declared.Format.TheVariants.{FiveByte}
use Rattle.listing.specs.Scanning.{unfed, scanned_byte, closed_of, end_of}
use Rattle.listing.specs.declared.Scanner.{Scanner}
use Rattle.listing.specs.declared.Scan.{Scan}
use Rattle.listing.specs.declared.Found.{Found}
use Rattle.listing.specs.declared.Found.TheVariants as found
use Rattle.yard.specs.Rules.{sent}
use Rattle.yard.specs.Promises.{fresh_of, step_of}
use Rattle.yard.specs.declared.Yard.{Yard}
use Rattle.myard.specs.Judging.{line_for}
use Rattle.myard.specs.declared.Verdict.{Verdict}
use Rattle.myard.specs.declared.Verdict.TheVariants.{Yes, No, Bad, Over}
use Rattle.myard.specs.declared.Judge.{Judge}

-- the first word that cannot be sent is told; a bad line, wherever it stands, takes its place
abbrev pub told : Verdict → ℕ → Verdict
told Yes line = No line
told (No n) line = No n
told (Bad n) line = Bad n
told Over line = Over

unfoldable pub judged_by : Verdict → Bool → ℕ → Verdict
judged_by v can line = cond can v (told v line)

-- what is found goes to the check
abbrev pub yard_after : Yard → Found → Yard
yard_after y found.Nothing = y
yard_after y (found.Format letter) = (fresh_of letter).yard
yard_after y (found.Word line w) = (step_of y w).next
yard_after y (found.Bad n) = y
yard_after y found.Over = y
yard_after y found.End = y

abbrev pub verdict_after : Yard → Verdict → Found → Verdict
verdict_after y v found.Nothing = v
verdict_after y v (found.Format letter) = v
verdict_after y v (found.Word line w) = judged_by v (sent (step_of y w)) line
verdict_after y v (found.Bad n) = Bad n
verdict_after y v found.Over = Over
verdict_after y v found.End = v

-- over all that is found
unfoldable pub verdict_from : Yard → Verdict → List Found → Verdict
verdict_from y v [] = v
verdict_from y v (f ∷ fs) = verdict_from (yard_after y f) (verdict_after y v f) fs

-- before a format has come
abbrev pub waiting : Yard
waiting = (fresh_of (letter_of FiveByte)).yard

-- the same byte by byte: the scanner, the check behind it, and what is to be said
abbrev pub judge : Scanner → Yard → Verdict → Judge
judge s y v = record { scanner = s; yard = y; verdict = v }

abbrev pub unheard : Judge
unheard = judge unfed waiting Yes

abbrev pub heard : Judge → Scanner → Found → Judge
heard j next f = judge next (yard_after j.yard f) (verdict_after j.yard j.verdict f)

abbrev pub scanned_to : Judge → Scan → Judge
scanned_to j s = heard j s.next s.found

unfoldable pub behind_byte : Judge → ℕ → Judge
behind_byte j c = scanned_to j (scanned_byte j.scanner c)

unfoldable pub behind_bytes : Judge → List ℕ → Judge
behind_bytes j [] = j
behind_bytes j (c ∷ cs) = behind_bytes (behind_byte j c) cs

unfoldable pub last_of : Judge → Judge
last_of j = let k = scanned_to j (closed_of j.scanner) in scanned_to k (end_of k.scanner)

-- what a judge says of whatever follows
unfoldable pub said_of : Judge → List ℕ → List ℕ
said_of j input = line_for (last_of (behind_bytes j input)).verdict

-- a text that holds all of a line
abbrev pub Holds : Text → List ℕ → Type 0
Holds t bytes = (t ≡ text_of bytes) × (length bytes ≤ capacity)
