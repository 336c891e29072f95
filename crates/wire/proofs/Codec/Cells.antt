-- Bytes that have the fixed bits of a row of the table.
use Prim.Native.Nat.{ℕ, suc, ◌+◌, ◌<◌}
use mathlib.Core.Path.{◌≡◌, refl, ap, ◌∙◌, sym}
use mathlib.Core.Bool.{Bool, true, false, ◌&&◌}
use mathlib.Core.List.{List, [], ◌∷◌, ◌++◌, append_assoc}
use native.Mathlib.Omega.{arith}
use native.Mathlib.Nat.{zero-add}
use lib.ListN.{length}
use borrow.Author.Tests.{le-leb, not-true}
use Rattle.numbers.specs.Bits.{I, O, number, bit, bits}
use Rattle.numbers.specs.Parity.{even, with_parity}
use Rattle.numbers.proofs.Tested.{left, right, holds}
use Rattle.numbers.proofs.Rows.{number_below, number_whole, bit_in}
use Rattle.numbers.proofs.Ones.{parity_even, parity_of}
use Rattle.frames.specs.Words.{is_byte}
use Rattle.wire.specs.Places.{Cell, 𝟏, 𝟎, ·, agrees, like}
use Rattle.wire.proofs.Codec.Ranges.{byte_below}

-- a row of bits has the fixed bits of the cells
abbrev pub suits : List Cell → List Bool → Bool
suits [] [] = true
suits [] (b ∷ row) = false
suits (c ∷ cells) [] = false
suits (c ∷ cells) (b ∷ row) = agrees c b && suits cells row

suits_length : (cells : List Cell) (row : List Bool) → suits cells row ≡ true → length row ≡ length cells
suits_length [] [] s = refl
suits_length [] (b ∷ row) s = absurd (holds s)
suits_length (c ∷ cells) [] s = absurd (holds s)
suits_length (c ∷ cells) (b ∷ row) s = ap suc (suits_length cells row (right (agrees c b) (suits cells row) s))

-- and so has the number of the row
like_under : (cells : List Cell) (hi row : List Bool) → suits cells row ≡ true → is_byte (number (hi ++ row)) ≡ true → like cells (number (hi ++ row)) ≡ true
unfolding like
like_under [] hi [] s h = h
like_under [] hi (b ∷ row) s h = absurd (holds s)
like_under (c ∷ cells) hi [] s h = absurd (holds s)
like_under (c ∷ cells) hi (b ∷ row) s h =
    let e = left (agrees c b) (suits cells row) s in
    let k = right (agrees c b) (suits cells row) s in
    let place : bit (length cells) (number (hi ++ (b ∷ row))) ≡ b = rw (suits_length cells row k) at (bit_in hi b row) in
    let rest : like cells (number (hi ++ (b ∷ row))) ≡ true =
    rw append_assoc at (like_under cells (hi ++ (b ∷ [])) row k (rw append_assoc h)) in
    rw (place, e, rest)

pub like_row : (cells : List Cell) (row : List Bool) → suits cells row ≡ true → length row ≡ 8 → like cells (number row) ≡ true
like_row cells row s e = like_under cells [] row s (le-leb (number row) 255 (omega (arith, rw e at (number_below row))))

-- what is like cells is a byte
pub like_byte : (cells : List Cell) (b : ℕ) → like cells b ≡ true → b < 256
unfolding like
like_byte [] b l = byte_below b l
like_byte (c ∷ cells) b l = like_byte cells b (right (agrees c (bit (length cells) b)) (like cells b) l)

-- the row with the fixed bits put in
abbrev pub filled : List Cell → List Bool → List Bool
filled [] row = row
filled (c ∷ cells) [] = []
filled (𝟏 ∷ cells) (b ∷ row) = I ∷ filled cells row
filled (𝟎 ∷ cells) (b ∷ row) = O ∷ filled cells row
filled (· ∷ cells) (b ∷ row) = b ∷ filled cells row

fixed : (c : Cell) (b : Bool) (cells : List Cell) (row : List Bool) → agrees c b ≡ true → filled (c ∷ cells) (b ∷ row) ≡ b ∷ filled cells row
fixed 𝟏 b cells row e = ap (λ (t : Bool). t ∷ filled cells row) (sym e)
fixed 𝟎 b cells row e = ap (λ (t : Bool). t ∷ filled cells row) (sym (not-true b e))
fixed · b cells row e = refl

-- changes nothing in the bits of what is like the cells
pub like_filled : (cells : List Cell) (b : ℕ) → like cells b ≡ true → filled cells (bits (length cells) 0 b) ≡ bits (length cells) 0 b
unfolding like bits
like_filled [] b l = refl
like_filled (c ∷ cells) b l =
    let here = left (agrees c (bit (length cells) b)) (like cells b) l in
    let rest = right (agrees c (bit (length cells) b)) (like cells b) l in
    fixed c (bit (0 + length cells) b) cells (bits (length cells) 0 b) (rw zero-add here) ∙ ap (λ (row : List Bool). bit (0 + length cells) b ∷ row) (like_filled cells b rest)

-- so a byte is the number of the row that it is like
pub like_number : (cells : List Cell) (b : ℕ) → length cells ≡ 8 → like cells b ≡ true → number (filled cells (bits 8 0 b)) ≡ b
like_number cells b e l = ap number (rw e at (like_filled cells b l)) ∙ number_whole 8 b (like_byte cells b l)

-- the same of seven bits under P
pub parity_row : (cells : List Cell) (row : List Bool) → suits cells row ≡ true → length row ≡ 7 → like (· ∷ cells) (number (with_parity row)) && even (number (with_parity row)) ≡ true
unfolding with_parity
parity_row cells row s e = rw (like_row (· ∷ cells) (with_parity row) s (ap suc e), parity_even row e)

pub parity_number : (cells : List Cell) (b : ℕ) → length cells ≡ 7 → like (· ∷ cells) b && even b ≡ true → number (with_parity (filled cells (bits 7 0 b))) ≡ b
unfolding like
parity_number cells b e v =
    let l = left (like (· ∷ cells) b) (even b) v in
    let h = like_byte (· ∷ cells) b l in
    ap (λ (row : List Bool). number (with_parity row)) (rw e at (like_filled cells b l)) ∙ ap number (parity_of b h (right (like (· ∷ cells) b) (even b) v)) ∙ number_whole 8 b h
