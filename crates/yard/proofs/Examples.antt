-- Worked logs: how many words can be sent, before the first that cannot.
use Prim.Native.Nat.{ℕ}
use mathlib.Core.Path.{◌≡◌, refl}
use mathlib.Core.List.{List, [], ◌∷◌}
use Rattle.wire.specs.Line.{letter_of}
use Rattle.wire.specs.declared.Format.{Format}
use Rattle.wire.specs.declared.Format.TheVariants.{Mm, Microsoft, Absolute, Relative, FiveByte, ThreeByte, Hexadecimal}
use Rattle.yard.specs.Log.{judgement, refused}
use Rattle.yard.specs.Promises.{check_of}
use Rattle.yard.proofs.Computing.{computing}

abbrev Told : Format → List ℕ → ℕ → ℕ → Type 0
Told f words place count = check_of (letter_of f) words ≡ judgement place count

-- an empty log is a yes; so is a lone break, and a report that has begun
pub empty : Told ThreeByte [] 0 0
unfolding computing
empty = refl

pub lone_break : Told ThreeByte (256 ∷ 257 ∷ 256 ∷ 7 ∷ 127 ∷ []) 5 5
unfolding computing
lone_break = refl

-- a silence inside a report
pub inside : Told ThreeByte (257 ∷ 0 ∷ 127 ∷ 129 ∷ 3 ∷ 257 ∷ 0 ∷ []) 5 7
unfolding computing
inside = refl

-- the paper's line of S, of which the last byte of the first report and the first of the second were lost
pub spliced : Told Mm (0x94 ∷ 0x05 ∷ 0x98 ∷ 0 ∷ 0 ∷ []) 2 5
unfolding computing
spliced = refl

-- minus zero in S: at the magnitude 0, X or Y, not at the first byte; a plus zero is sent
pub minus_zero_x : Told Mm (0x88 ∷ 0 ∷ 0 ∷ []) 1 3
unfolding computing
minus_zero_x = refl

pub minus_zero_y : Told Mm (0x90 ∷ 0 ∷ 0 ∷ []) 2 3
unfolding computing
minus_zero_y = refl

pub plus_zero : Told Mm (0x98 ∷ 0 ∷ 0 ∷ []) 3 3
unfolding computing
plus_zero = refl

-- -128 in V: the top pair 10 and six zeros, X at byte 2 and Y at byte 3; a bit 7 is not cleared
pub least_v_x : Told Microsoft (0x42 ∷ 0 ∷ []) 1 2
unfolding computing
least_v_x = refl

pub least_v_y : Told Microsoft (0x48 ∷ 0 ∷ 0 ∷ []) 2 3
unfolding computing
least_v_y = refl

pub bit_seven : Told Microsoft (236 ∷ 0 ∷ 0 ∷ []) 0 3
unfolding computing
bit_seven = refl

-- -128 in U: any of the four, and the first byte of all buttons pressed, which is 128, is sent
pub least_u : Told FiveByte (0x80 ∷ 1 ∷ 2 ∷ 3 ∷ 128 ∷ []) 4 5
unfolding computing
least_u = refl

pub least_u_second : Told FiveByte (0x87 ∷ 0 ∷ 0 ∷ 128 ∷ 0 ∷ []) 3 5
unfolding computing
least_u_second = refl

pub least_t : Told ThreeByte (0 ∷ 128 ∷ 0 ∷ []) 1 3
unfolding computing
least_t = refl

-- -128 in W: the high digit 8 behind a low 0
pub least_w : Told Hexadecimal (0x37 ∷ 0x30 ∷ 0x38 ∷ []) 2 3
unfolding computing
least_w = refl

pub not_least_w : Told Hexadecimal (0x37 ∷ 0x31 ∷ 0x38 ∷ 0x30 ∷ 0x37 ∷ []) 5 5
unfolding computing
not_least_w = refl

-- A and B: none but wrong bytes
pub lowest_b : Told Relative (0xC0 ∷ 0 ∷ 0xA0 ∷ 0 ∷ 0xA0 ∷ 0x41 ∷ []) 5 6
unfolding computing
lowest_b = refl

-- a word above 257, behind a no
pub above : check_of (letter_of Absolute) (0 ∷ 258 ∷ []) ≡ refused 4
unfolding computing
above = refl
