-- What the functions of a VSXXX puck's reader give back to C.
use Rattle.std.specs.Prelude.{ℕ, List, ℤ}
use Rattle.fold.specs.Calls.{counts}
use Rattle.vsxxx.specs.declared.SelfTest.{SelfTest}
use Rattle.puckreader.specs.Line.{PuckReading, Long}
use Rattle.puckreader.specs.declared.PuckReader.{PuckReader}
use Rattle.puckreader.specs.State.{PuckRead}
use Rattle.puckreader.specs.declared.PuckAnswer.{PuckAnswer}
use Rattle.puckreader.specs.declared.PuckAnswer.TheVariants as answer
use Rattle.istrolf.specs.Readers.{no_report}
use Rattle.istrolf.specs.declared.ReadPuckWord.{ReadPuckWord}
use Rattle.istrolf.specs.declared.ReadPuckWords.{ReadPuckWords}

-- no self-test, as C sees it
abbrev pub no_test : SelfTest
no_test = record { revision = 0; maker = 0; device = 0; error = 0; buttons = 0 }

-- what a word is answered by: nothing, a movement, a self-test, or a number of bytes dropped
abbrev pub answered : ℕ → PuckReader → PuckAnswer → ReadPuckWord
answered n next answer.Nothing = record { refusal = n; movements = 0; tests = 0; dropped = 0; next = next; movement = no_report; test = no_test }
answered n next (answer.Movement r) = record { refusal = n; movements = 1; tests = 0; dropped = 0; next = next; movement = r; test = no_test }
answered n next (answer.Test t) = record { refusal = n; movements = 0; tests = 1; dropped = 0; next = next; movement = no_report; test = t }
answered n next (answer.Dropped k) = record { refusal = n; movements = 0; tests = 0; dropped = k; next = next; movement = no_report; test = no_test }

abbrev pub packed_read : PuckRead → ReadPuckWord
packed_read s = answered s.refusal s.next s.answer

abbrev pub packed_reading : PuckReading → ReadPuckWords
packed_reading a = record { refusal = a.refusal; next = a.next; taken = a.taken; reports = a.reports; dropped = a.dropped }

-- what a long read gives back, and every number of the lent slice after it
abbrev pub whole : ReadPuckWords → List ℤ → Long
whole a out = record { refusal = a.refusal; next = a.next; taken = a.taken; counts = counts a.reports a.dropped; out = out }
