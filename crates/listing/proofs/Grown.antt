-- A text behind another, part by part.
use Prim.Native.Nat.{ℕ, ◌/◌, ◌%◌}
use native.Mathlib.Omega.{arith}
use mathlib.Core.Path.{◌≡◌, refl, sym, ◌∙◌}
use mathlib.Core.List.{List, [], ◌∷◌, ◌++◌, append_assoc}
use lib.Dec.{eqb}
use Rattle.numbers.specs.Bits.{bit}
use Rattle.text.specs.Growth.{grown_by, filled_by}
use Rattle.text.specs.declared.Text.{Text}
use Rattle.listing.specs.declared.Item.{Item}
use Rattle.listing.specs.Printing.{form_of, line_of, all_bytes}
use Rattle.text.proofs.Laws.{both}
use Rattle.text.proofs.Filled.{both_filled}

pub grown_append : (t : Text) (a b : List ℕ) → grown_by t (a ++ b) ≡ grown_by (grown_by t a) b
grown_append t a b = sym (both t a b)

pub filled_append : (t : Text) (a b : List ℕ) → filled_by t (a ++ b) ≡ filled_by (filled_by t a) b
filled_append t a b = sym (both_filled t a b)

pub four_filled : (t : Text) (a b c d : List ℕ) → filled_by (filled_by (filled_by (filled_by t a) b) c) d ≡ filled_by t (a ++ (b ++ (c ++ (d ++ []))))
four_filled t a b c d =
    sym (filled_append t a (b ++ (c ++ (d ++ []))) ∙ filled_append (filled_by t a) b (c ++ (d ++ [])) ∙ filled_append (filled_by (filled_by t a) b) c (d ++ []) ∙ filled_append (filled_by (filled_by (filled_by t a) b) c) d [])

-- the lines of items behind those of others
pub all_append : (w : ℕ) (a b : List Item) → all_bytes w (a ++ b) ≡ all_bytes w a ++ all_bytes w b
all_append w [] b = refl
all_append w (i ∷ a) b = rw (all_append w a b) (sym (append_assoc (line_of w (form_of i)) (all_bytes w a) (all_bytes w b)))

-- the lowest bit
pub low_bit : (n : ℕ) → bit 0 n ≡ eqb (n % 2) 1
unfolding bit
low_bit n = let e : n / 1 ≡ n = omega arith in rw e
