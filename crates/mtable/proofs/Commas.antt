-- Commas one behind the other; and the numbers of buttons.
use Prim.Native.Nat.{ℕ, zero, suc, ◌+◌}
use mathlib.Core.Path.{◌≡◌, refl, ◌∙◌, ap}
use mathlib.Core.List.{List, [], ◌∷◌, ◌++◌}
use Rattle.text.specs.Growth.{grown, grown_by}
use Rattle.text.specs.declared.Text.{Text}
use Rattle.text.proofs.Laws.{both}
use Rattle.listing.proofs.Grown.{grown_append}
use mathlib.Core.Bool.{Bool, true, false, ◌||◌}
use lib.Dec.{eqb}
use lib.IntN.{ℤ, pos, nat_abs}
use lib.ListN.{get_or}
use native.Mathlib.Omega.{arith}
use Rattle.text.specs.Growth.{none, text_of}
use Rattle.listing.specs.declared.Buttons.{Buttons}
use Rattle.listing.specs.declared.Item.{Item}
use Rattle.listing.specs.declared.Item.TheVariants as item
use mir.Syntax.{w32}
use mir.Val.{of_z}
use Rattle.listing.specs.declared.Middle.{Middle}
use Rattle.listing.specs.declared.Middle.TheVariants.{Up, Down, Unknown}
use Rattle.readback.specs.Items.{counted, middle_number}
use Rattle.mtable.specs.Table.{comma, commas, is_down, is_unknown, cell_of, buttons_of, row_of}
use Rattle.mtable.specs.Rows.{Stand, Five}

-- a comma more, at the end
more_commas : (i : ℕ) → commas i ++ (comma ∷ []) ≡ commas (suc i)
more_commas zero = refl
more_commas (suc i) = ap (λ (l : List ℕ). comma ∷ l) (more_commas i)

pub one_more_lem : (t : Text) (i : ℕ) → grown (grown_by t (commas i)) comma ≡ grown_by t (commas (suc i))
one_more_lem t i = both t (commas i) (comma ∷ []) ∙ ap (grown_by t) (more_commas i)

-- the number of buttons tells each of them
abbrev number : Bool → Middle → Bool → ℕ
number l m r = of_z w32 (pos (counted l 4 + middle_number m + counted r 1))

twelve : (P : Bool → Middle → Bool → Type 0) → P true Up true → P true Up false → P true Down true → P true Down false → P true Unknown true → P true Unknown false
    → P false Up true → P false Up false → P false Down true → P false Down false → P false Unknown true → P false Unknown false → (l : Bool) (m : Middle) (r : Bool) → P l m r
twelve P a b c d e f g h i j k n true Up true = a
twelve P a b c d e f g h i j k n true Up false = b
twelve P a b c d e f g h i j k n true Down true = c
twelve P a b c d e f g h i j k n true Down false = d
twelve P a b c d e f g h i j k n true Unknown true = e
twelve P a b c d e f g h i j k n true Unknown false = f
twelve P a b c d e f g h i j k n false Up true = g
twelve P a b c d e f g h i j k n false Up false = h
twelve P a b c d e f g h i j k n false Down true = i
twelve P a b c d e f g h i j k n false Down false = j
twelve P a b c d e f g h i j k n false Unknown true = k
twelve P a b c d e f g h i j k n false Unknown false = n

-- whether a number is one of four, and of six
abbrev four : ℕ → ℕ → ℕ → ℕ → ℕ → Bool
four n a b c d = ((eqb n a || eqb n b) || eqb n c) || eqb n d

pub left_is : (l : Bool) (m : Middle) (r : Bool) → (four (number l m r) 4 5 6 7 || eqb (number l m r) 12) || eqb (number l m r) 13 ≡ l
left_is =
    twelve (λ l m r. (four (number l m r) 4 5 6 7 || eqb (number l m r) 12) || eqb (number l m r) 13 ≡ l) refl refl refl refl refl refl refl refl refl refl refl refl

pub right_is : (l : Bool) (m : Middle) (r : Bool) → (four (number l m r) 1 3 5 7 || eqb (number l m r) 9) || eqb (number l m r) 13 ≡ r
right_is =
    twelve (λ l m r. (four (number l m r) 1 3 5 7 || eqb (number l m r) 9) || eqb (number l m r) 13 ≡ r) refl refl refl refl refl refl refl refl refl refl refl refl

pub down_is : (l : Bool) (m : Middle) (r : Bool) → four (number l m r) 2 3 6 7 ≡ is_down m
down_is = twelve (λ l m r. four (number l m r) 2 3 6 7 ≡ is_down m) refl refl refl refl refl refl refl refl refl refl refl refl

pub unknown_is : (l : Bool) (m : Middle) (r : Bool) → four (number l m r) 8 9 12 13 ≡ is_unknown m
unknown_is = twelve (λ l m r. four (number l m r) 8 9 12 13 ≡ is_unknown m) refl refl refl refl refl refl refl refl refl refl refl refl

-- the rows, by the kind of the item
wrong : (m : ℕ) {line a b c : ℤ} {n : ℕ} {l : List ℤ} → pos m ∷ line ∷ a ∷ b ∷ c ∷ [] ≡ pos n ∷ l → m ≡ n
wrong m e = ap (λ (l : List ℤ). nat_abs (get_or l 0 (pos 0))) e

pub row_r : (line a b c : ℤ) (i : Item) → Five (pos 1) line a b c i → (p : Text) → ((s : Buttons) → Stand a s → p ≡ grown_by (grown_by (grown none 82) (cell_of line)) (buttons_of s))
    → grown_by (grown_by (grown_by p (cell_of b)) (cell_of c)) (commas 1) ≡ text_of (row_of i)
row_r line a b c (item.R n s x y) e p h =
    let l : line ≡ pos n = ap (λ (l : List ℤ). get_or l 1 (pos 0)) e in
    let st : Stand a s = ap (λ (l : List ℤ). get_or l 2 (pos 0)) e in
    let bx : b ≡ x = ap (λ (l : List ℤ). get_or l 3 (pos 0)) e in
    let cy : c ≡ y = ap (λ (l : List ℤ). get_or l 4 (pos 0)) e in
    simp (grown_append, h s st, l, bx, cy)
row_r line a b c (item.D n k) e p h = absurd (omega (arith, wrong 1 e))
row_r line a b c (item.H k) e p h = absurd (omega (arith, wrong 1 e))
row_r line a b c (item.E n) e p h = absurd (omega (arith, wrong 1 e))
row_r line a b c item.Over e p h = absurd (omega (arith, wrong 1 e))

pub row_d : (line a b c : ℤ) (i : Item) → Five (pos 2) line a b c i → grown_by (grown_by (grown_by (grown none 68) (cell_of line)) (commas 5)) (cell_of a) ≡ text_of (row_of i)
row_d line a b c (item.D n k) e =
    let l : line ≡ pos n = ap (λ (l : List ℤ). get_or l 1 (pos 0)) e in
    let ak : a ≡ pos k = ap (λ (l : List ℤ). get_or l 2 (pos 0)) e in
    simp (grown_append, l, ak)
row_d line a b c (item.R n s x y) e = absurd (omega (arith, wrong 2 e))
row_d line a b c (item.H k) e = absurd (omega (arith, wrong 2 e))
row_d line a b c (item.E n) e = absurd (omega (arith, wrong 2 e))
row_d line a b c item.Over e = absurd (omega (arith, wrong 2 e))

pub row_h : (line a b c : ℤ) (i : Item) → Five (pos 3) line a b c i → grown_by (grown_by (grown none 72) (commas 6)) (cell_of a) ≡ text_of (row_of i)
row_h line a b c (item.H k) e = let ak : a ≡ pos k = ap (λ (l : List ℤ). get_or l 2 (pos 0)) e in simp (grown_append, ak)
row_h line a b c (item.R n s x y) e = absurd (omega (arith, wrong 3 e))
row_h line a b c (item.D n k) e = absurd (omega (arith, wrong 3 e))
row_h line a b c (item.E n) e = absurd (omega (arith, wrong 3 e))
row_h line a b c item.Over e = absurd (omega (arith, wrong 3 e))

pub row_e : (line a b c : ℤ) (i : Item) → Five (pos 4) line a b c i → grown_by (grown_by (grown none 69) (cell_of line)) (commas 6) ≡ text_of (row_of i)
row_e line a b c (item.E n) e = let l : line ≡ pos n = ap (λ (l : List ℤ). get_or l 1 (pos 0)) e in simp (grown_append, l)
row_e line a b c (item.R n s x y) e = absurd (omega (arith, wrong 4 e))
row_e line a b c (item.D n k) e = absurd (omega (arith, wrong 4 e))
row_e line a b c (item.H k) e = absurd (omega (arith, wrong 4 e))
row_e line a b c item.Over e = absurd (omega (arith, wrong 4 e))

pub row_over : (kind line a b c : ℤ) (i : Item) → Five kind line a b c i → (kind ≡ pos 1 → ⊥) → (kind ≡ pos 2 → ⊥) → (kind ≡ pos 3 → ⊥) → (kind ≡ pos 4 → ⊥) → text_of (row_of item.Over) ≡ text_of (row_of i)
row_over kind line a b c item.Over e r d h f = refl
row_over kind line a b c (item.R n s x y) e r d h f = absurd (r (ap (λ (l : List ℤ). get_or l 0 (pos 0)) e))
row_over kind line a b c (item.D n k) e r d h f = absurd (d (ap (λ (l : List ℤ). get_or l 0 (pos 0)) e))
row_over kind line a b c (item.H k) e r d h f = absurd (h (ap (λ (l : List ℤ). get_or l 0 (pos 0)) e))
row_over kind line a b c (item.E n) e r d h f = absurd (f (ap (λ (l : List ℤ). get_or l 0 (pos 0)) e))
