-- Small recordings.
use Rattle.std.specs.Prelude.{◌≡◌, refl, false, [], ◌∷◌}
use Rattle.text.specs.Decimals.{digits_of, size_in, places_of, decimal_of}
use Rattle.port.specs.Marks.{cleared, plain, behind_mark, byte_of, quiet_of}
use Rattle.port.specs.Sessions.{words_over}
use Rattle.mrecord.specs.Recording.{line_of, behind_line, lines_of, full_at_silence, full, gone, end_of, mrecord}

-- U, and a silence is two tenths: a byte, the byte FF, a break, one wait, a byte, and three waits
pub small : (mrecord 85 2 false).writes (7 ∷ 255 ∷ 255 ∷ 255 ∷ 0 ∷ 0 ∷ 256 ∷ 8 ∷ 256 ∷ 256 ∷ 256 ∷ [])
    ≡ 70 ∷ 9 ∷ 85 ∷ 10 ∷ 66 ∷ 9 ∷ 55 ∷ 10 ∷ 66 ∷ 9 ∷ 50 ∷ 53 ∷ 53 ∷ 10 ∷ 88 ∷ 10 ∷ 66 ∷ 9 ∷ 56 ∷ 10 ∷ 81 ∷ 10 ∷ []
unfolding cleared plain behind_mark byte_of quiet_of words_over line_of behind_line lines_of digits_of size_in places_of decimal_of
small = refl

pub small_gone : (mrecord 85 2 false).says (7 ∷ 256 ∷ []) ≡ gone
unfolding cleared plain byte_of quiet_of words_over behind_line end_of
small_gone = refl

-- the last line; and a silence in the last thousand
pub last_line : lines_of 1 (7 ∷ 8 ∷ []) ≡ 66 ∷ 9 ∷ 55 ∷ 10 ∷ []
unfolding line_of behind_line lines_of digits_of size_in places_of decimal_of
last_line = refl

pub at_silence : lines_of 1000 (7 ∷ 257 ∷ 8 ∷ []) ≡ 66 ∷ 9 ∷ 55 ∷ 10 ∷ 81 ∷ 10 ∷ []
unfolding line_of behind_line lines_of digits_of size_in places_of decimal_of
at_silence = refl

pub not_yet : lines_of 1001 (257 ∷ 8 ∷ []) ≡ 81 ∷ 10 ∷ 66 ∷ 9 ∷ 56 ∷ 10 ∷ []
unfolding line_of behind_line lines_of digits_of size_in places_of decimal_of
not_yet = refl

pub says_silence : end_of 0 1000 (257 ∷ 8 ∷ []) ≡ full_at_silence
unfolding behind_line end_of
says_silence = refl

pub says_full : end_of 0 1 (7 ∷ []) ≡ full
unfolding behind_line end_of
says_full = refl
