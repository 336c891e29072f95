-- The answers to the words of a line, told one after the other in a lent slice.
use Rattle.std.specs.Prelude.{ℕ, ◌+◌, Bool, cond, List, [], ◌∷◌, ◌++◌, length, drop, leb, ℤ, pos, negsuc}
use Rattle.fold.specs.Fold.{Machine}
use Rattle.fold.specs.Calls.{Call}
use Rattle.fold.specs.Calls as calls
use Rattle.wire.specs.Numbers.{bad_state}
use Rattle.reader.specs.Good.{good}
use Rattle.reader.specs.State.{five_of}
use Rattle.reader.specs.Rules.{word_of}
use Rattle.wire.specs.Refusals.{number_if}
use Rattle.reader.specs.declared.Reader.{Reader}
use Rattle.reader.specs.declared.Answers as declared
use Rattle.reader.specs.declared.Answer.{Answer}
use Rattle.reader.specs.declared.Answer.TheVariants as answer

-- "Each word is answered by nothing, a report, or a number of bytes dropped": 0; minus 1, and the five numbers of the report; the number of bytes
abbrev pub told_in : Answer → List ℤ
told_in answer.Nothing = pos 0 ∷ []
told_in (answer.Report p) = negsuc 0 ∷ five_of p
told_in (answer.Dropped k) = pos k ∷ []

-- the reader as a machine over the words of a line, each answer told
abbrev pub tells : Machine Reader Answer ℤ
tells = record { refusal = λ r w. (word_of r w).refusal; next = λ r w. (word_of r w).next; answer = λ r w. (word_of r w).answer; writes = told_in }

-- the long call: what is counted is the numbers written. It stops, with answer 0, before a word whose answer has no room,
-- and with 4 before a bad word.
abbrev pub tells_line : Call Reader Answer ℕ ℤ
tells_line =
    record {
      machine = tells;
      tally = record { none = 0; plus = λ j k. j + k; of = λ a. length (told_in a); places = λ n. n };
      good = good;
      bad = bad_state;
    }

-- what is given back, and every number of the lent slice after it
abbrev pub Told : Type 0
Told = calls.Long Reader ℕ ℤ

-- the answer by itself: a number, 0 where it is not refused, the reader, and what is counted
pub record Answers : Type 0 where
  pub refusal : ℕ
  pub next : Reader
  pub taken : ℕ
  pub written : ℕ

abbrev pub answers_by : declared.Answers → Answers
answers_by a = record { refusal = number_if a.refusal; next = a.next; taken = a.taken; written = a.written }

abbrev pub told : Answers → List ℤ → Told
told a out = record { refusal = a.refusal; next = a.next; taken = a.taken; counts = a.written; out = out }

abbrev pub answers_in : Told → Answers
answers_in t = record { refusal = t.refusal; next = t.next; taken = t.taken; written = t.counts }

-- one answer, at the front of places: its numbers and how many they are, or none where they have no room
abbrev pub has_room : Answer → List ℤ → Bool
has_room a out = leb (length (told_in a)) (length out)

abbrev pub places_of : Answer → List ℤ → ℕ
places_of a out = cond (has_room a out) (length (told_in a)) 0

abbrev pub front_of : Answer → List ℤ → List ℤ
front_of a out = cond (has_room a out) (told_in a ++ drop (length (told_in a)) out) out
