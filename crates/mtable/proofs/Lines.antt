-- Rows in a buffer, one after the other.
use Prim.Native.Nat.{ℕ, zero, suc, ◌+◌, ◌*◌, ◌<◌, ◌≤◌}
use mathlib.Core.Path.{◌≡◌, refl, sym, ◌∙◌, ap}
use mathlib.Core.Bool.{Bool}
use mathlib.Core.List.{List, [], ◌∷◌, ◌++◌, append_assoc}
use native.Mathlib.Omega.{arith}
use lib.IntN.{ℤ, pos}
use lib.ListN.{length, take, drop, get_or, length-append}
use lib.Seq.{take_at, length-take-le, drop-drop, get_or-drop, get_or-take}
use Rattle.text.specs.Growth.{grown, text_of}
use Rattle.text.specs.Decimals.{plain}
use Rattle.text.specs.Promises.{PutPromise}
use Rattle.text.specs.declared.Text.{Text}
use Rattle.text.proofs.Digits.{decimal_few}
use Rattle.text.proofs.Laws.{fits}
use Rattle.listing.specs.Lines.{newline}
use Rattle.listing.specs.declared.Item.{Item}
use Rattle.listing.specs.declared.Item.TheVariants as item
use Rattle.listing.proofs.Feeds.{size, put_wrote}
use Rattle.listing.proofs.Grown.{grown_append}
use Rattle.readback.specs.Items.{numbers_of, all_numbers, Small}
use Rattle.readback.proofs.Rewrites.{sixteen_few}
use Rattle.mtable.specs.Table.{row_of, rows_of}
use Rattle.mtable.specs.Rows.{Five, AllSmall, Among, Written}

-- rows behind others
pub rows_append : (a b : List Item) → rows_of (a ++ b) ≡ rows_of a ++ rows_of b
rows_append [] b = refl
rows_append (i ∷ a) b = ap (λ (l : List ℕ). row_of i ++ 10 ∷ l) (rows_append a b) ∙ sym (append_assoc (row_of i) (10 ∷ rows_of a) (rows_of b))

-- a row is short
pub few_row : (i : Item) → Small i → length (row_of i) < 40
few_row (item.R n b x y) s =
    let line = decimal_few plain 5 (pos n) (omega arith) (omega (arith, s.0)) in
    let first = decimal_few plain 4 x (omega arith) (sixteen_few x s.1) in
    let second = decimal_few plain 4 y (omega arith) (sixteen_few y s.2) in
    simp length-append (omega (arith, line, first, second))
few_row (item.D n k) s =
    let line = decimal_few plain 5 (pos n) (omega arith) (omega (arith, s.0)) in
    let count = decimal_few plain 4 (pos k) (omega arith) (omega (arith, s.1)) in
    simp length-append (omega (arith, line, count))
few_row (item.H k) s = omega (arith, decimal_few plain 4 (pos k) (omega arith) (omega (arith, s)))
few_row (item.E n) s = let line = decimal_few plain 5 (pos n) (omega arith) (omega (arith, s)) in simp length-append (omega (arith, line))
few_row item.Over s = omega arith

-- a text that is put behind others
module _ (l : List ℕ) (t : Text) (at : ℕ) (out after : List ℕ) (well : Bool) (few : length l ≤ 40) (is : t ≡ text_of l) (room : at + 40 ≤ length out) (p : PutPromise t at out well after) where
  pub put_len : t.len ≡ length l
  put_len = size l t is few at out

  put_is : after ≡ take at out ++ l ++ drop (at + t.len) out
  put_is = p.1 ∙ put_wrote l t is few at out (fits t at out (omega (arith, put_len)) (omega (arith, put_len)))

  long : length (take at out ++ l) ≡ at + t.len
  long = omega (arith, put_len, length-append (take at out) l, length-take-le at out (omega arith))

  pub put_there : at + t.len ≤ length after
  put_there = omega (arith, ap length put_is, long, length-append (take at out ++ l) (drop (at + t.len) out))

  pub put_so : take (at + t.len) after ≡ take at out ++ l
  put_so = ap (take (at + t.len)) put_is ∙ take_at (take at out ++ l) (drop (at + t.len) out) (at + t.len) long

-- the items of numbers, one by one
five_long : (is : List Item) → length (all_numbers is) ≡ 5 * length is
five_long [] = refl
five_long (item.R n b x y ∷ is) = omega (arith, five_long is)
five_long (item.D n k ∷ is) = omega (arith, five_long is)
five_long (item.H k ∷ is) = omega (arith, five_long is)
five_long (item.E n ∷ is) = omega (arith, five_long is)
five_long (item.Over ∷ is) = omega (arith, five_long is)

behind_five : (i : Item) (l : List ℤ) → drop 5 (numbers_of i ++ l) ≡ l
behind_five (item.R n b x y) l = refl
behind_five (item.D n k) l = refl
behind_five (item.H k) l = refl
behind_five (item.E n) l = refl
behind_five item.Over l = refl

drop_five : (i : Item) (l : List ℤ) (n : ℕ) → drop (5 + n) (numbers_of i ++ l) ≡ drop n l
drop_five i l n = sym (drop-drop n 5 (numbers_of i ++ l)) ∙ ap (drop n) (behind_five i l)

-- one of them: its numbers, and the items up to it
pub record Next (is : List Item) (i : ℕ) : Type 0 where
  pub this : Item
  pub later : List Item
  pub small : AllSmall is → Small this
  pub numbers : drop (5 * i) (all_numbers is) ≡ numbers_of this ++ all_numbers later
  pub more : take (suc i) is ≡ take i is ++ (this ∷ [])

pub next_of : (is : List Item) (i : ℕ) → i < length is → Next is i
next_of [] i h = absurd (omega arith)
next_of (x ∷ is) zero h = record { this = x; later = is; small = λ s. s.0; numbers = refl; more = refl }
next_of (x ∷ is) (suc i) h =
    let n = next_of is i (omega arith) in
    let five : 5 * suc i ≡ 5 + 5 * i = omega arith in
    record {
      this = n.this;
      later = n.later;
      small = λ s. n.small s.1;
      numbers = ap (λ (k : ℕ). drop k (numbers_of x ++ all_numbers is)) five ∙ drop_five x (all_numbers is) (5 * i) ∙ n.numbers;
      more = ap (λ (l : List Item). x ∷ l) n.more;
    }

first_five : (i : Item) (l : List ℤ) → let m = numbers_of i ++ l in get_or m 0 (pos 0) ∷ get_or m 1 (pos 0) ∷ get_or m 2 (pos 0) ∷ get_or m 3 (pos 0) ∷ get_or m 4 (pos 0) ∷ [] ≡ numbers_of i
first_five (item.R n b x y) l = refl
first_five (item.D n k) l = refl
first_five (item.H k) l = refl
first_five (item.E n) l = refl
first_five item.Over l = refl

module _ (count : ℕ) (numbers : List ℤ) (is : List Item) (a : Among count numbers is) where
  pub as_many : length is ≡ count
  as_many = omega (arith, ap length a.are, length-take-le (5 * count) numbers a.there, five_long is)

  module _ (i : ℕ) (h : i < count) where
    abbrev pub n : Next is i
    n = next_of is i (omega (arith, as_many, h))

    at : (k : ℕ) → k < 5 → get_or numbers (5 * i + k) (pos 0) ≡ get_or (numbers_of n.this ++ all_numbers n.later) k (pos 0)
    at k b =
        sym (get_or-take (5 * count) numbers (5 * i + k) (pos 0) (omega (arith, h, b))) ∙ ap (λ (l : List ℤ). get_or l (5 * i + k) (pos 0)) a.are
        ∙ sym (get_or-drop (5 * i) (all_numbers is) k (pos 0)) ∙ ap (λ (l : List ℤ). get_or l k (pos 0)) n.numbers

    pub this_five : (from : ℕ) → from ≡ 5 * i → Five (get_or numbers from (pos 0)) (get_or numbers (from + 1) (pos 0)) (get_or numbers (from + 2) (pos 0)) (get_or numbers (from + 3) (pos 0)) (get_or numbers (from + 4) (pos 0)) n.this
    this_five from e =
        let zero_more : 5 * i ≡ 5 * i + 0 = omega arith in
        rw (e, ap (λ (k : ℕ). get_or numbers k (pos 0)) zero_more ∙ at 0 (omega arith), at 1 (omega arith), at 2 (omega arith), at 3 (omega arith), at 4 (omega arith)) (first_five n.this (all_numbers n.later))

    pub this_few : length (row_of n.this ++ newline ∷ []) ≤ 40
    this_few = omega (arith, few_row n.this (n.small a.small), length-append (row_of n.this) (newline ∷ []))

    pub this_text : (t u : Text) → t ≡ text_of (row_of n.this) → u ≡ grown t newline → u ≡ text_of (row_of n.this ++ newline ∷ [])
    this_text t u e f = f ∙ ap (λ (t : Text). grown t newline) e ∙ sym (grown_append _ (row_of n.this) (newline ∷ []))

    pub one_more_lem : (j : ℕ) → j ≡ i + 1 → rows_of (take j is) ≡ rows_of (take i is) ++ (row_of n.this ++ newline ∷ [])
    one_more_lem j e =
        let s : j ≡ suc i = omega arith in
        ap (λ (k : ℕ). rows_of (take k is)) s ∙ ap rows_of n.more ∙ rows_append (take i is) (n.this ∷ [])

-- a text at the front
pub put_first : (l : List ℕ) (t : Text) (out after : List ℕ) (well : Bool) → length l ≤ 40 → t ≡ text_of l → 40 ≤ length out → PutPromise t 0 out well after
    → Written out 0 l after t.len × (t.len ≤ 40)
put_first l t out after well few is room p =
    let z : 0 + t.len ≡ t.len = omega arith in (
      record { there = rw z at (put_there l t 0 out after well few is (omega arith) p); so = rw z at (put_so l t 0 out after well few is (omega arith) p) },
      omega (arith, put_len l t 0 out after well few is (omega arith) p, few),
    )

-- the same numbers
pub five_as : (i : Item) {a b c d e a' b' c' d' e' : ℤ} → a' ≡ a → b' ≡ b → c' ≡ c → d' ≡ d → e' ≡ e → Five a b c d e i → Five a' b' c' d' e' i
five_as i p q r s t f = rw (p, q, r, s, t) f
