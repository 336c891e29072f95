-- Lines in a slice, one behind the other, and how long they are.
use Prim.Native.Nat.{ℕ, suc, ◌+◌, ◌*◌, ◌^◌, ◌<◌, ◌≤◌}
use mathlib.Core.Path.{◌≡◌, refl, sym, ◌∙◌, ap, subst}
use mathlib.Core.List.{List, [], ◌∷◌, ◌++◌, append_assoc}
use native.Mathlib.Omega.{arith}
use native.Mathlib.Numerals.{add-one}
use lib.IntN.{pos}
use lib.Dec.{leb}
use lib.ListN.{length, length-set, take, drop, get_or, length-append, length-drop, drop_of_length-le}
use lib.Seq.{drop-cons, take_at, length-take-le}
use borrow.Author.Tests.{leb-false}
use Rattle.numbers.proofs.Choices.{cases}
use Rattle.text.specs.Growth.{slice, filled, filled_by}
use Rattle.text.specs.Decimals.{plain, decimal_of, places_of}
use Rattle.text.specs.declared.Text.{Text}
use Rattle.text.proofs.Filled.{both_filled, filled_all}
use Rattle.text.proofs.Digits.{digits_long, places_few}
use Rattle.mbridge.specs.Lines.{numbered, byte_line, byte_lines}

-- the lines of bytes: one more
module _ (t u all : Text) (bytes : List ℕ) (i : ℕ) (h : i < length bytes) where
  pub lines_again : u ≡ filled_by t (byte_line (get_or bytes i 0)) → filled_by t (byte_lines (drop i bytes)) ≡ all → filled_by u (byte_lines (drop (i + 1) bytes)) ≡ all
  unfolding byte_lines
  lines_again e f = rw (add-one, e) (both_filled t (byte_line (get_or bytes i 0)) (byte_lines (drop (suc i) bytes)) ∙ (rw (drop-cons bytes i 0 h) at f))

-- all of them
pub lines_all : (t all : Text) (bytes : List ℕ) (i : ℕ) → length bytes ≤ i → filled_by t (byte_lines (drop i bytes)) ≡ all → t ≡ all
unfolding byte_lines
lines_all t all bytes i h f = rw (drop_of_length-le bytes h) at f

-- a text that may have no room: no more places are taken than there are
inside : Text → Type 0
inside t = t.len ≤ length t.bytes

stays_inside : (l : List ℕ) (t : Text) → inside t → inside (filled_by t l)
unfolding inside filled
stays_inside [] t h = h
stays_inside (b ∷ l) t h =
    stays_inside l (filled t b)
    (cases inside (leb (length t.bytes) t.len) (λ _. h) (λ e. omega (arith, leb-false (length t.bytes) t.len e, length-set t.bytes t.len b)))

pub within : (before after l : List ℕ) (at used : ℕ) → at ≤ length before → slice after used ≡ filled_by (slice before at) l → used ≤ length after
unfolding inside
within before after l at used h e = subst inside (sym e) (stays_inside l (slice before at) h)

-- a text that has room stands behind what was there
module _ (before after l : List ℕ) (at used : ℕ) (h : at + length l ≤ length before) (e : slice after used ≡ filled_by (slice before at) l) where
  is : slice after used ≡ slice (take at before ++ l ++ drop (at + length l) before) (at + length l)
  is = e ∙ filled_all l (slice before at) h

  long : length (take at before ++ l) ≡ at + length l
  long = length-append (take at before) l ∙ omega (arith, length-take-le at before (omega arith))

  pub used_is : used ≡ at + length l
  used_is = ap (λ (t : Text). t.len) is

  pub put_behind : take used after ≡ take at before ++ l
  put_behind =
      ap (λ (t : Text). take t.len t.bytes) is
      ∙ take_at (take at before ++ l) (drop (at + length l) before) (at + length l) long

  pub same_long : length after ≡ length before
  same_long =
      ap (λ (t : Text). length t.bytes) is
      ∙ length-append (take at before ++ l) (drop (at + length l) before)
      ∙ omega (arith, long, length-drop (at + length l) before)

-- a line of a number of so many digits
pub numbered_few : (letter n p : ℕ) → n < 10 ^ suc p → length (numbered letter n) ≤ p + 4
unfolding decimal_of
numbered_few letter n p h =
    omega (arith, length-append (decimal_of plain (pos n)) (10 ∷ []), digits_long (places_of plain n) n, places_few plain n p (omega arith) h)

-- the lines of bytes: six bytes each at most
pub lines_append : (l k : List ℕ) → byte_lines (l ++ k) ≡ byte_lines l ++ byte_lines k
unfolding byte_lines
lines_append [] k = refl
lines_append (b ∷ l) k = ap (λ (x : List ℕ). byte_line b ++ x) (lines_append l k) ∙ sym (append_assoc (byte_line b) (byte_lines l) (byte_lines k))

pub lines_few : (l : List ℕ) → ((i : ℕ) → get_or l i 0 < 256) → length (byte_lines l) ≤ 6 * length l
unfolding byte_lines
lines_few [] h = omega arith
lines_few (b ∷ l) h =
    let below : b < 10 ^ 3 = omega (arith, h 0) in
    omega (arith, length-append (byte_line b) (byte_lines l), numbered_few 0x42 b 2 below, lines_few l (λ i. h (suc i)))
