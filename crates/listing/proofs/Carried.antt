-- Bytes in places that are there; a line number that is carried on; and the lines that have it.
use Prim.Native.Nat.{ℕ, suc, ◌+◌, ◌-◌, ◌/◌, ◌<◌, ◌≤◌}
use mathlib.Core.Path.{◌≡◌, refl, sym, ◌∙◌, ap}
use mathlib.Core.Bool.{true}
use mathlib.Core.List.{List, [], ◌∷◌, ◌++◌, append_assoc, append-nil}
use native.Mathlib.Nat.{zero-add}
use native.Mathlib.Omega.{arith}
use lib.IntN.{ℤ, pos, negsuc, ◌-ℤ◌, nat_abs, +ℤ_idl}
use lib.Signed.{lt_z}
use borrow.Author.Tests.{ltb-true}
use lib.ListN.{length, take, drop, set, replicate, length-append, length-set}
use lib.Seq.{sets, sets-eq, set_at, set-set, set-append_left, take_all, length-take-le, paste}
use Rattle.text.specs.Growth.{slice, filled_by}
use Rattle.text.specs.Decimals.{digit_of, digits_of, plain, decimal_of}
use Rattle.text.specs.declared.Text.{Text}
use Rattle.text.proofs.Filled.{both_filled, fills, filled_is, filled_len, filled_bytes}
use Rattle.text.proofs.Digits.{digits_long, places_six}
use Rattle.listing.specs.Lines.{tab, newline}
use Rattle.listing.specs.Scanning.{width}
use Rattle.listing.specs.Printing.{three, letter_d, letter_r, form_of, head_of}
use Rattle.listing.specs.Stamped.{Filled, stamp_of, stamped, Stamps}
use Rattle.listing.specs.declared.Buttons.{Buttons}
use Rattle.listing.specs.declared.Item.TheVariants.{D, R}
use Rattle.listing.specs.declared.Stamp.{Stamp}

-- some bytes, and more behind them
pub filled_more : {a b c x y : List ℕ} {i j k : ℕ} → Filled a i x b j → Filled b j y c k → Filled a i (x ++ y) c k
filled_more {a} {b} {c} {x} {y} {i} e f = record { text = f.text ∙ ap (λ (t : Text). filled_by t y) e.text ∙ both_filled (slice a i) x y; behind = omega (arith, e.behind, f.behind, length-append x y) }

-- a byte, and bytes where they lie
pub filled_one : (out : List ℕ) (at b : ℕ) → at < length out → Filled out at (b ∷ []) (set out at b) (at + 1)
filled_one out at b h = record { text = sym (fills (slice out at) b h); behind = refl }

pub filled_all : (l out : List ℕ) (at : ℕ) → at + length l ≤ length out → (after : List ℕ) (end : ℕ) → after ≡ sets out at l → end ≡ at + length l → Filled out at l after end
filled_all l out at h after end e f = record { text = filled_is l (slice out at) after end e (f ∙ sym (filled_len l (slice out at) h)); behind = f }

-- a byte behind others
set_behind : (p l : List ℕ) (i a : ℕ) → set (p ++ l) (length p + i) a ≡ p ++ set l i a
set_behind [] l i a = rw (zero-add i)
set_behind (b ∷ p) l i a = let e : suc (length p) + i ≡ suc (length p + i) = omega arith in rw e (ap (λ (r : List ℕ). b ∷ r) (set_behind p l i a))

-- a letter, eight bytes, and one of them again
pub filled_head : (out bytes : List ℕ) (at letter last : ℕ) → at + 9 ≤ length out → length bytes ≡ 8
    → Filled out at (letter ∷ set bytes 6 last) (set (paste (set out at letter) (at + 1) bytes 8) (at + 7) last) (at + 9)
filled_head out bytes at letter last h n =
    let o = set out at letter in
    let p = take (at + 1) o in
    let rest = drop (at + 1 + 8) o in
    let long : length o ≡ length out = length-set out at letter in
    let first : length p ≡ at + 1 = length-take-le (at + 1) o (omega arith) in
    let eight : length (set bytes 6 last) ≡ 8 = length-set bytes 6 last ∙ n in
    let place : at + 7 ≡ length p + 6 = omega arith in
    let next : suc at ≡ at + 1 = omega arith in
    filled_all (letter ∷ set bytes 6 last) out at (omega arith) _ _
    (ap (λ (l : List ℕ). set (p ++ l ++ rest) (at + 7) last) (take_all 8 bytes (omega arith)) ∙ ap (λ (l : List ℕ). set l (at + 7) last) (append_assoc p bytes rest) ∙ ap (λ (i : ℕ). set (p ++ (bytes ++ rest)) i last) place
    ∙ set_behind p (bytes ++ rest) 6 last
    ∙ ap (λ (l : List ℕ). p ++ l) (set-append_left bytes rest 6 last (omega arith))
    ∙ sym (append_assoc p (set bytes 6 last) rest)
    ∙ sym (ap (λ (i : ℕ). sets o i (set bytes 6 last)) next ∙ sets-eq (set bytes 6 last) o (at + 1) (omega arith) ∙ ap (λ (k : ℕ). p ++ set bytes 6 last ++ drop (at + 1 + k) o) eight))
    (omega arith)

-- a stamp by its last digit
stamp_last : (n : ℕ) → stamp_of n ≡ (tab ∷ digits_of 5 (n / 10)) ++ digit_of n ∷ tab ∷ []
unfolding stamp_of digits_of
stamp_last n = refl

stamp_set : (n b : ℕ) → set (stamp_of n) 6 b ≡ (tab ∷ digits_of 5 (n / 10)) ++ b ∷ tab ∷ []
stamp_set n b = ap (λ (l : List ℕ). set l 6 b) (stamp_last n) ∙ set_at (tab ∷ digits_of 5 (n / 10)) (digit_of n) (tab ∷ []) b 6 (ap suc (digits_long 5 (n / 10)))

-- that of a line, and of the next
pub stamp_is : (n : ℕ) (after : List ℕ) (end : ℕ) → Filled (replicate 8 9) 1 (digits_of 6 n) after end → Stamps n (record { bytes = after; last = digit_of n })
unfolding stamp_of
stamp_is n after end e =
    let is : after ≡ stamp_of n = ap (λ (t : Text). t.bytes) e.text ∙ filled_bytes (digits_of 6 n) (slice (replicate 8 9) 1) ∙ sets-eq (digits_of 6 n) (replicate 8 9) 1 (omega (arith, digits_long 6 n)) ∙ rw (digits_long 6 n) in
    (ap (λ (l : List ℕ). set l 6 (digit_of n)) is ∙ stamp_set n (digit_of n) ∙ sym (stamp_last n), refl)

pub stamp_next : (s : Stamp) (n : ℕ) → 0 < n → Stamps (n - 1) s → s.last < 57 → Stamps n (record { bytes = s.bytes; last = s.last + 1 })
stamp_next s n h e k =
    let tens : (n - 1) / 10 ≡ n / 10 = omega (arith, e.1) in
    let last : s.last + 1 ≡ digit_of n = omega (arith, e.1) in
    (sym (set-set s.bytes 6 s.last (s.last + 1)) ∙ ap (λ (l : List ℕ). set l 6 (s.last + 1)) e.0 ∙ stamp_set (n - 1) (s.last + 1) ∙ rw (tens, last) (sym (stamp_last n)), last)

-- the lines of a number of six digits
module _ (s : Stamp) (n : ℕ) (e : Stamps n s) (h : n < 1000000) where
  six : stamped s ≡ tab ∷ decimal_of width (pos n) ++ tab ∷ []
  unfolding stamp_of decimal_of
  six = e.0 ∙ rw (places_six n h)

  pub dropped_stamped : (k : ℕ) → letter_d ∷ stamped s ++ decimal_of plain (pos k) ++ (newline ∷ []) ≡ head_of width (form_of (D n k)) ++ newline ∷ []
  dropped_stamped k =
      let l = decimal_of width (pos n) in
      let m = decimal_of plain (pos k) in
      ap (λ (r : List ℕ). letter_d ∷ r ++ m ++ (newline ∷ [])) six ∙ ap (λ (r : List ℕ). letter_d ∷ tab ∷ r ++ (newline ∷ [])) (append_assoc l (tab ∷ []) m ∙ ap (λ (r : List ℕ). l ++ (tab ∷ r)) (sym (append-nil m)))

  pub reported_stamped : (b : Buttons) (x y : ℤ)
      → letter_r ∷ stamped s ++ (three b ++ tab ∷ []) ++ decimal_of plain x ++ (tab ∷ []) ++ decimal_of plain y ++ (newline ∷ []) ≡ head_of width (form_of (R n b x y)) ++ newline ∷ []
  reported_stamped b x y =
      let l = decimal_of width (pos n) in
      let u = three b ++ tab ∷ [] in
      let v = decimal_of plain x in
      let w = decimal_of plain y in
      ap (λ (r : List ℕ). letter_r ∷ r ++ u ++ v ++ (tab ∷ []) ++ w ++ (newline ∷ [])) six
      ∙ ap (λ (r : List ℕ). letter_r ∷ tab ∷ r ++ (newline ∷ []))
      (append_assoc (l ++ (tab ∷ []) ++ u ++ v) (tab ∷ []) w ∙ append_assoc (l ++ (tab ∷ []) ++ u) v (tab ∷ w) ∙ append_assoc (l ++ (tab ∷ [])) u (v ++ (tab ∷ w)) ∙ append_assoc l (tab ∷ []) (u ++ (v ++ (tab ∷ w)))
      ∙ ap (λ (r : List ℕ). l ++ (tab ∷ (u ++ (v ++ (tab ∷ r))))) (sym (append-nil w)))

-- a number below 0 without its sign
pub turned : (x : ℤ) → lt_z x (pos 0) ≡ true → pos 0 -ℤ x ≡ pos (nat_abs x)
turned (pos n) h = absurd (omega (arith, ltb-true n 0 h))
turned (negsuc n) h = +ℤ_idl (pos (suc n))
