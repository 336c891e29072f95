-- Worked runs of a port: marks, bit 7, silences and losses.
use mathlib.Core.Path.{◌≡◌, refl}
use mathlib.Core.List.{List, [], ◌∷◌, ◌++◌}
use Rattle.numbers.specs.Bits.{number, bit, bits}
use Rattle.port.specs.Marks.{opened, cleared, plain, behind_mark, byte_of, quiet_of}
use Rattle.port.specs.Sessions.{Event, read, quiet, lost, words_over, reads}

-- FF, a break, a damaged 41, FF with a byte that no tty sends behind it, and 41
abbrev marks : List Event
marks = reads (0xFF ∷ 0xFF ∷ 0xFF ∷ 0x00 ∷ 0x00 ∷ 0xFF ∷ 0x00 ∷ 0x41 ∷ 0xFF ∷ 0x41 ∷ 0x41 ∷ [])

pub marks_told : words_over (opened 0 100) marks ≡ 0xFF ∷ 256 ∷ 256 ∷ 256 ∷ 0x41 ∷ []
unfolding words_over byte_of plain behind_mark cleared
marks_told = refl

-- the same where bit 7 is cleared, which changes no mark; and a byte of V with its first stop bit as bit 7
pub marks_cleared : words_over (opened 1 100) (marks ++ (read 0xEC ∷ [])) ≡ 0x7F ∷ 256 ∷ 256 ∷ 256 ∷ 0x41 ∷ 0x6C ∷ []
unfolding words_over byte_of plain behind_mark cleared number bits bit
marks_cleared = refl

-- a silence of 100 is told at the second wait, once; a byte that comes starts its time again; with 0 none is told
abbrev waiting : List Event
waiting = quiet 60 ∷ quiet 60 ∷ quiet 200 ∷ read 0x41 ∷ quiet 99 ∷ read 0x42 ∷ quiet 99 ∷ quiet 1 ∷ []

pub silences_told : (words_over (opened 0 100) waiting ≡ 257 ∷ 0x41 ∷ 0x42 ∷ 257 ∷ []) × (words_over (opened 0 0) waiting ≡ 0x41 ∷ 0x42 ∷ [])
unfolding words_over byte_of plain behind_mark cleared quiet_of
silences_told = (refl, refl)

-- a mark that is cut by a loss stays one: the damaged byte 02 is no byte
pub mark_kept : words_over (opened 0 100) (read 0xFF ∷ lost ∷ read 0x00 ∷ read 0x02 ∷ []) ≡ 256 ∷ 256 ∷ []
unfolding words_over byte_of plain behind_mark
mark_kept = refl
