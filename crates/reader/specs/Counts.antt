-- What is counted: bytes in, bytes in reports, bytes dropped. "256 and 257 are never counted as bytes."
use Rattle.std.specs.Prelude.{ℕ, ◌+◌, cond, List, [], ◌∷◌, ◌++◌, ℤ}
use Rattle.frames.specs.Words.{is_byte}
use Rattle.wire.specs.declared.Report.{Report}
use Rattle.reader.specs.State.{five_of}
use Rattle.reader.specs.declared.Answer.{Answer}
use Rattle.reader.specs.declared.Answer.TheVariants as answer

-- the bytes among words
abbrev pub byte_in : ℕ → ℕ
byte_in w = cond (is_byte w) 1 0

unfoldable pub bytes_in : List ℕ → ℕ
bytes_in [] = 0
bytes_in (w ∷ words) = byte_in w + bytes_in words

-- the reports and the dropped bytes of an answer, and the numbers that it writes
abbrev pub reports_in : Answer → ℕ
reports_in answer.Nothing = 0
reports_in (answer.Report p) = 1
reports_in (answer.Dropped k) = 0

abbrev pub dropped_in : Answer → ℕ
dropped_in answer.Nothing = 0
dropped_in (answer.Report p) = 0
dropped_in (answer.Dropped k) = k

abbrev pub written_in : Answer → List ℤ
written_in answer.Nothing = []
written_in (answer.Report p) = five_of p
written_in (answer.Dropped k) = []

-- and of many: the reports handed out, one after the other, and their numbers
abbrev pub handed_out : List Answer → List Report
handed_out [] = []
handed_out (answer.Nothing ∷ answers) = handed_out answers
handed_out (answer.Report p ∷ answers) = p ∷ handed_out answers
handed_out (answer.Dropped k ∷ answers) = handed_out answers

abbrev pub numbers : List Report → List ℤ
numbers [] = []
numbers (p ∷ reports) = five_of p ++ numbers reports

unfoldable pub dropped_among : List Answer → ℕ
dropped_among [] = 0
dropped_among (a ∷ answers) = dropped_in a + dropped_among answers
