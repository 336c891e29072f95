-- Many bytes: one after the other, and a lent slice.
use Rattle.std.specs.Prelude.{ℕ, ◌+◌, true, List, [], ◌∷◌, length, Option, None, Some}
use Rattle.fold.specs.Fold.{Machine}
use Rattle.fold.specs.Calls.{Call}
use Rattle.fold.specs.Calls as calls
use Rattle.port.specs.Marks.{byte_of}
use Rattle.port.specs.declared.Port.{Port}
use Rattle.port.specs.declared.Words.{Words}

-- the words that are given, one or none
abbrev pub words_in : Option ℕ → List ℕ
words_in None = []
words_in (Some w) = w ∷ []

-- the port as a machine over bytes, which refuses none
abbrev pub hears : Machine Port (Option ℕ) ℕ
hears = record { refusal = λ p b. 0; next = λ p b. (byte_of p b).next; answer = λ p b. (byte_of p b).given; writes = words_in }

-- many bytes: a word has one place, and every port is good
abbrev pub hears_bytes : Call Port (Option ℕ) ℕ ℕ
hears_bytes = record { machine = hears; tally = record { none = 0; plus = ◌+◌; of = λ g. length (words_in g); places = λ n. n }; good = λ p. true; bad = 0 }

abbrev pub Long : Type 0
Long = calls.Long Port ℕ ℕ

abbrev pub whole : Words → List ℕ → Long
whole a out = record { refusal = 0; next = a.next; taken = a.taken; counts = a.written; out = out }

-- it stops before a byte whose word has no place
abbrev pub line_of : Port → List ℕ → List ℕ → Long
line_of p raw out = calls.call hears_bytes p raw out

-- what is given back for bytes at the front; where none is taken it ends there
abbrev pub Begins : Port → List ℕ → List ℕ → Words → List ℕ → Type 0
Begins p raw before t after = calls.Begins hears_bytes p raw before (whole t after)
