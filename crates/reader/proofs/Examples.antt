-- Worked reads: the conditions of the laws, met and not met.
use Prim.Native.Nat.{ℕ}
use mathlib.Core.Path.{◌≡◌, refl}
use mathlib.Core.Bool.{false}
use mathlib.Core.List.{List, [], ◌∷◌, ◌++◌}
use lib.ListN.{replicate}
use lib.IntN.{ℤ, pos}
use Rattle.numbers.specs.Signed.{minus}
use Rattle.frames.specs.Words.{break, silence}
use Rattle.wire.specs.Reading.{settled_by}
use Rattle.reader.specs.State.{reader, fresh, ready}
use Rattle.reader.specs.Line.{Long, whole}
use Rattle.reader.specs.Telling.{Told, told}
use Rattle.reader.specs.Promises.{step_of, read_of, answers_of}
use Rattle.reader.specs.declared.Reader.{Reader}
use Rattle.reader.proofs.Computing.{computing}

-- places of a lent slice with the numbers that they held before; the numbers of a report that is all zero
abbrev old : ℕ → List ℤ
old places = replicate places (pos 9)

abbrev zero : List ℤ
zero = replicate 5 (pos 0)

-- what a long read gives back: its number, the reader, the words taken, the reports and the bytes dropped, and the slice
abbrev gives : ℕ → Reader → ℕ → ℕ → ℕ → List ℤ → Long
gives n next taken reports dropped out = whole (record { refusal = n; next = next; taken = taken; reports = reports; dropped = dropped }) out

-- S with seven places: one report, words that finish none, and a stop before the word that would finish the next
pub stop : read_of (fresh 0x53) (0x98 ∷ 0 ∷ 0 ∷ 0x94 ∷ 5 ∷ 3 ∷ []) (old 7) ≡ gives 0 (reader 0x53 (0x94 ∷ 5 ∷ 0 ∷ 0 ∷ 0 ∷ []) 2 false) 5 1 0 (zero ++ old 2)
unfolding computing
stop = refl

-- a bad word behind that stop is not reached
pub behind_the_stop : read_of (fresh 0x53) (0x98 ∷ 0 ∷ 0 ∷ 0x94 ∷ 5 ∷ 3 ∷ 300 ∷ []) (old 7) ≡ gives 0 (reader 0x53 (0x94 ∷ 5 ∷ 0 ∷ 0 ∷ 0 ∷ []) 2 false) 5 1 0 (zero ++ old 2)
unfolding computing
behind_the_stop = refl

-- and before it ends the read with 4
pub before_the_stop : read_of (fresh 0x53) (0x98 ∷ 0 ∷ 0 ∷ 0x94 ∷ 300 ∷ 5 ∷ 3 ∷ []) (old 7) ≡ gives 4 (reader 0x53 (0x94 ∷ 0 ∷ 0 ∷ 0 ∷ 0 ∷ []) 1 false) 4 1 0 (zero ++ old 2)
unfolding computing
before_the_stop = refl

-- the rest of the first line, with the reader that came back and new places
pub the_rest : read_of (reader 0x53 (0x94 ∷ 5 ∷ 0 ∷ 0 ∷ 0 ∷ []) 2 false) (3 ∷ []) (old 5) ≡ gives 0 (ready 0x53) 1 1 0 (pos 4 ∷ pos 5 ∷ minus 3 ∷ pos 0 ∷ pos 0 ∷ [])
unfolding computing
the_rest = refl

-- what a telling gives back: its number, the reader, the words taken and the numbers written, and the slice
abbrev tellings : ℕ → Reader → ℕ → ℕ → List ℤ → Told
tellings n next taken written out = told (record { refusal = n; next = next; taken = taken; written = written }) out

-- S, 05 94 05 03 told in ten places: one dropped, nothing, nothing, and the report behind its minus 1; in eight it stops before the last
pub each_told : answers_of (fresh 0x53) (5 ∷ 0x94 ∷ 5 ∷ 3 ∷ []) (old 10) ≡ tellings 0 (ready 0x53) 4 9 (pos 1 ∷ pos 0 ∷ pos 0 ∷ minus 1 ∷ pos 4 ∷ pos 5 ∷ minus 3 ∷ pos 0 ∷ pos 0 ∷ old 1)
unfolding computing
each_told = refl

pub told_to_a_stop : answers_of (fresh 0x53) (5 ∷ 0x94 ∷ 5 ∷ 3 ∷ 300 ∷ []) (old 8) ≡ tellings 0 (reader 0x53 (0x94 ∷ 5 ∷ 0 ∷ 0 ∷ 0 ∷ []) 2 false) 3 3 (pos 1 ∷ pos 0 ∷ pos 0 ∷ old 5)
unfolding computing
told_to_a_stop = refl

-- S, 94 05 98 00 00: two dropped, one zero report
pub two_dropped : read_of (fresh 0x53) (0x94 ∷ 5 ∷ 0x98 ∷ 0 ∷ 0 ∷ []) (old 5) ≡ gives 0 (ready 0x53) 5 1 2 zero
unfolding computing
two_dropped = refl

-- a fresh reader of U hands out nothing, also after a break
pub no_silence : read_of (fresh 0x55) (0x85 ∷ break ∷ 0x85 ∷ 5 ∷ 0xFD ∷ 0x85 ∷ 0 ∷ []) (old 5) ≡ gives 0 (fresh 0x55) 7 0 6 (old 5)
unfolding computing
no_silence = refl

-- and the report after a silence
pub a_silence : read_of (fresh 0x55) (0x85 ∷ silence ∷ 0x85 ∷ 5 ∷ 0xFD ∷ 0x85 ∷ 0 ∷ []) (old 5) ≡ gives 0 (ready 0x55) 7 1 1 (pos 2 ∷ pos 5 ∷ minus 3 ∷ minus 123 ∷ pos 0 ∷ [])
unfolding computing
a_silence = refl

-- inside a report of U a byte that looks like a header is data
pub header_is_data : read_of (ready 0x55) (0x85 ∷ 0x85 ∷ 0xFD ∷ 0x85 ∷ 0 ∷ []) (old 5) ≡ gives 0 (ready 0x55) 5 1 0 (pos 2 ∷ minus 123 ∷ minus 3 ∷ minus 123 ∷ pos 0 ∷ [])
unfolding computing
header_is_data = refl

-- V: 108 and 236 are the same first byte; 6C 05 3D is L, 5, 3, and so it is with bit 7 set in each byte, EC 85 BD
pub same_first_byte : step_of (ready 0x56) 236 ≡ step_of (ready 0x56) 108
unfolding computing
same_first_byte = refl

pub eighth_bit : read_of (fresh 0x56) (0xEC ∷ 0x85 ∷ 0xBD ∷ []) (old 5) ≡ gives 0 (ready 0x56) 3 1 0 (pos 4 ∷ pos 5 ∷ pos 3 ∷ pos 0 ∷ pos 0 ∷ [])
unfolding computing
eighth_bit = refl

-- a minus zero comes back with its sign bit set to 1, on one axis or on both; any other bytes come back as they are
pub minus_zero : settled_by 0x53 (0x80 ∷ 0 ∷ 0 ∷ []) ≡ 0x98 ∷ 0 ∷ 0 ∷ []
unfolding computing
minus_zero = refl

pub minus_zero_y : settled_by 0x53 (0x94 ∷ 5 ∷ 0 ∷ []) ≡ 0x9C ∷ 5 ∷ 0 ∷ []
unfolding computing
minus_zero_y = refl

pub no_minus_zero : settled_by 0x53 (0x94 ∷ 5 ∷ 3 ∷ []) ≡ 0x94 ∷ 5 ∷ 3 ∷ []
unfolding computing
no_minus_zero = refl
