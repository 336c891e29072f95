-- Decimals: the digits a number needs, and the round trip of what is written and read.
use mathlib.Core.Path.{◌≡◌, refl, sym, ◌∙◌, ap, subst}
use mathlib.Core.List.{List, [], ◌∷◌, ◌++◌, append_assoc, append-nil}
use mathlib.Core.Bool.{Bool, true, false, cond, ◌&&◌, true≢false}
use Prim.Native.Nat.{ℕ, zero, suc, ◌+◌, ◌-◌, ◌*◌, ◌/◌, ◌^◌, ◌<◌, ◌≤◌}
use native.Mathlib.Numerals.{add-one}
use native.Mathlib.Omega.{arith}
use native.Mathlib.Nat.{add-zero, zero-add, not-suc-le-zero}
use lib.Dec.{T, ltb, leb, eqb}
use lib.IntN.{ℤ, pos, negsuc, neg_ℤ, ◌-ℤ◌, nat_abs}
use lib.Signed.{lt_z}
use lib.ListN.{length, get_or, set, take, drop, length-append, drop_of_length-le}
use lib.Pointwise.{pointwise}
use lib.Seq.{drop-cons, sets}
use borrow.Author.Tests.{ltb-true, ltb-false, lt-ltb, le-ltb, leb-true, le-leb, lt-leb, eqb-true, eq-eqb, ne_eqb}
use mir.Syntax.{w64}
use mir.Val.{SFits}
use Rattle.numbers.proofs.Tested.{left, right}
use Rattle.numbers.proofs.Choices.{cases}
use Rattle.text.specs.Decimals.{digit_of, digits_of, size_in, size_of, places_of, unsigned_of, decimal_of, is_digit, all_digits, value_of, most, readable, plus_in, minus, has_minus, number_in}
use Rattle.std.proofs.Common.{Option, Some, None}
use Rattle.text.proofs.Filled.{last_first}

-- digits
pub digits_long : (places n : ℕ) → length (digits_of places n) ≡ places
unfolding digits_of
digits_long zero n = refl
digits_long (suc places) n = length-append (digits_of places (n / 10)) _ ∙ omega (arith, digits_long places (n / 10))

pub one_digit : (l : List ℕ) (at k n : ℕ) → 1 ≤ k → sets (set l (at + (k - 1)) (digit_of n)) at (digits_of (k - 1) (n / 10)) ≡ sets l at (digits_of k n)
unfolding digits_of
one_digit l at zero n h = absurd (omega arith)
one_digit l at (suc k) n h =
    let z : suc k - 1 ≡ k = omega arith in
    rw z (sym (last_first (digits_of k (n / 10)) l at (digit_of n) ∙ rw (digits_long k (n / 10))))

-- the digits that a number needs
size_in_lem : (f g n : ℕ) → n ≤ f → n ≤ g → size_in f n ≡ size_in g n
unfolding size_in
size_in_lem zero zero n h k = refl
size_in_lem zero (suc g) n h k = rw (lt-ltb n 10 (omega arith))
size_in_lem (suc f) zero n h k = rw (lt-ltb n 10 (omega arith))
size_in_lem (suc f) (suc g) n h k = go (ltb n 10) refl (size_in_lem f g (n / 10))
  where
    go : (t : Bool) → ltb n 10 ≡ t → (n / 10 ≤ f → n / 10 ≤ g → size_in f (n / 10) ≡ size_in g (n / 10)) → cond t 1 (suc (size_in f (n / 10))) ≡ cond t 1 (suc (size_in g (n / 10)))
    go true e ih = refl
    go false e ih = let big = ltb-false n 10 e in ap suc (ih (omega arith) (omega arith))

pub size_one : (n : ℕ) → n < 10 → size_of n ≡ 1
unfolding size_in
size_one zero h = refl
size_one (suc n) h = rw (lt-ltb (suc n) 10 h)

pub size_more : (n : ℕ) → 10 ≤ n → size_of n ≡ suc (size_of (n / 10))
unfolding size_in
size_more zero h = absurd (omega arith)
size_more (suc n) h = rw (le-ltb (suc n) 10 h) (ap suc (size_in_lem n (suc n / 10) (suc n / 10) (omega arith) (omega arith)))

-- and no more
size_few : (f p n : ℕ) → n < 10 ^ suc p → size_in f n ≤ suc p
unfolding size_in
size_few zero p n h = omega arith
size_few (suc f) zero n h = rw (lt-ltb n 10 (omega arith)) (omega arith)
size_few (suc f) (suc p) n h = cases (λ (k : ℕ). k ≤ suc (suc p)) (ltb n 10) (λ _. omega arith) (λ _. omega (arith, size_few f p (n / 10) (omega arith)))

-- so many digits hold it, and so do more
some_power : (q : ℕ) → 1 ≤ 10 ^ q
some_power zero = omega arith
some_power (suc q) = omega (arith, some_power q)

pub size_is : (p n : ℕ) → 10 ^ p ≤ n → n < 10 ^ suc p → size_of n ≡ suc p
size_is zero n h k = size_one n (omega arith)
size_is (suc p) n h k = size_more n (omega (arith, some_power p)) ∙ ap suc (size_is p (n / 10) (omega arith) (omega arith))

size_holds : (f q n : ℕ) → n ≤ f → size_in f n ≤ q → n < 10 ^ q
unfolding size_in
size_holds zero q n h k = omega (arith, some_power q)
size_holds (suc f) zero n h k = cases (λ (m : ℕ). m ≤ 0 → n < 10 ^ 0) (ltb n 10) (λ _ j. absurd (omega (arith, j))) (λ _ j. absurd (omega (arith, j))) k
size_holds (suc f) (suc q) n h k =
    cases (λ (m : ℕ). m ≤ suc q → n < 10 ^ suc q) (ltb n 10) (λ e _. omega (arith, ltb-true n 10 e, some_power q))
    (λ e j. omega (arith, size_holds f q (n / 10) (omega (arith, ltb-false n 10 e)) (omega (arith, j)))) k

-- what digits stand for
value_last : (ds : List ℕ) (v d : ℕ) → value_of v (ds ++ (d ∷ [])) ≡ value_of v ds * 10 + (d - 48)
value_last [] v d = refl
value_last (c ∷ ds) v d = value_last ds (v * 10 + (c - 48)) d

value_digits : (p n : ℕ) → n < 10 ^ p → value_of 0 (digits_of p n) ≡ n
unfolding digits_of
value_digits zero n h = omega arith
value_digits (suc p) n h = value_last (digits_of p (n / 10)) 0 (digit_of n) ∙ omega (arith, value_digits p (n / 10) (omega arith))

digits_value : (ds : List ℕ) (p v : ℕ) → all_digits ds ≡ true → digits_of (p + length ds) (value_of v ds) ≡ digits_of p v ++ ds
unfolding digits_of
digits_value [] p v h = rw (add-zero p) (sym (append-nil (digits_of p v)))
digits_value (c ∷ ds) p v h =
    let low = leb-true 48 c (left (leb 48 c) (leb c 57) (left (is_digit c) (all_digits ds) h)) in
    let high = leb-true c 57 (right (leb 48 c) (leb c 57) (left (is_digit c) (all_digits ds) h)) in
    let w = v * 10 + (c - 48) in
    let places : p + suc (length ds) ≡ suc p + length ds = omega arith in
    let first : w / 10 ≡ v = omega arith in
    let last : digit_of w ≡ c = omega arith in
    rw (places, digits_value ds (suc p) w (right (is_digit c) (all_digits ds) h), first, last) (append_assoc (digits_of p v) (c ∷ []) ds)

pub up : (x : ℤ) → lt_z x (pos 0) ≡ false → x ≡ pos (nat_abs x)
up (pos n) h = refl
up (negsuc n) h = absurd (subst T h tt)

pub down : (x : ℤ) → lt_z x (pos 0) ≡ true → negsuc 0 -ℤ x ≡ pos (nat_abs x - 1)
down (pos n) h = absurd (not-suc-le-zero (ltb-true n 0 h))
down (negsuc n) h = let k : 1 ≤ suc n = omega arith in simp (le-ltb (suc n) 1 k)

pub small : (x : ℤ) → SFits w64 x → nat_abs x ≤ 9223372036854775808
small (pos n) h = omega arith
small (negsuc n) h = omega arith

pub minus_sign : (width : ℕ) (x : ℤ) → lt_z x (pos 0) ≡ true → decimal_of width x ≡ 0x2D ∷ unsigned_of width (nat_abs x)
unfolding decimal_of
minus_sign width (pos n) h = absurd (not-suc-le-zero (ltb-true n 0 h))
minus_sign width (negsuc n) h = refl

pub no_sign : (width : ℕ) (x : ℤ) → lt_z x (pos 0) ≡ false → decimal_of width x ≡ unsigned_of width (nat_abs x)
unfolding decimal_of
no_sign width (pos n) h = refl
no_sign width (negsuc n) h = absurd (subst T h tt)

digits_back : (ds : List ℕ) → all_digits ds ≡ true → digits_of (length ds) (value_of 0 ds) ≡ ds
unfolding digits_of
digits_back ds h = rw zero-add at (digits_value ds 0 0 h)

-- at a width there are places enough, and no more than the width or than the number needs
pub places_hold : (width n : ℕ) → n < 10 ^ places_of width n
unfolding places_of
places_hold width n =
    cases (λ (q : ℕ). n < 10 ^ q) (ltb (size_of n) width) (λ e. size_holds n width n (omega arith) (omega (arith, ltb-true (size_of n) width e)))
    (λ _. size_holds n (size_of n) n (omega arith) (omega arith))

pub places_few : (width n p : ℕ) → width ≤ suc p → n < 10 ^ suc p → places_of width n ≤ suc p
unfolding places_of
places_few width n p h k = cases (λ (q : ℕ). q ≤ suc p) (ltb (size_of n) width) (λ _. h) (λ _. size_few n p n k)

pub unsigned_one : (width n : ℕ) → n < 10 → width < 2 → unsigned_of width n ≡ digit_of n ∷ []
unfolding places_of digits_of
unsigned_one width n h k = rw (size_one n h, le-ltb 1 width (omega arith))

pub unsigned_is : (p n : ℕ) → 10 ^ suc p ≤ n → n < 10 ^ suc (suc p) → unsigned_of 1 n ≡ digits_of (suc (suc p)) n
unfolding places_of
unsigned_is p n h k = rw (size_is (suc p) n h k, le-ltb (suc (suc p)) 1 (omega arith))

pub places_six : (n : ℕ) → n < 10 ^ 6 → places_of 6 n ≡ 6
unfolding places_of
places_six n h = cases (λ (q : ℕ). q ≡ 6) (ltb (size_of n) 6) (λ _. refl) (λ e. omega (arith, size_few n 5 n h, ltb-false (size_of n) 6 e))

pub decimal_few : (width p : ℕ) (x : ℤ) → width ≤ suc p → nat_abs x < 10 ^ suc p → length (decimal_of width x) ≤ suc (suc p)
unfolding decimal_of
decimal_few width p (pos n) h k = omega (arith, digits_long (places_of width n) n, places_few width n p h k)
decimal_few width p (negsuc n) h k = omega (arith, digits_long (places_of width (suc n)) (suc n), places_few width (suc n) p h k)

-- what has a minus has a byte
pub some_minus : (ds : List ℕ) → has_minus ds ≡ true → 1 ≤ length ds
some_minus [] h = absurd (true≢false (sym h))
some_minus (c ∷ ds) h = omega arith

pub no_byte : (ds : List ℕ) → length ds ≡ 0 → false ≡ has_minus ds
no_byte [] h = refl
no_byte (c ∷ ds) h = absurd (omega arith)

pub first_byte : (ds : List ℕ) → (length ds ≡ 0 → ⊥) → eqb (get_or ds 0 0) 45 ≡ has_minus ds
first_byte [] h = absurd (h refl)
first_byte (c ∷ ds) h = refl

-- digits are digits, and none is a minus
pub all_digits_lem : (p n : ℕ) → all_digits (digits_of p n) ≡ true
unfolding digits_of
all_digits_lem zero n = refl
all_digits_lem (suc p) n = and_digit (digits_of p (n / 10)) (all_digits_lem p (n / 10)) (rw (le-leb 48 (digit_of n) (omega arith), le-leb (digit_of n) 57 (omega arith)))
  where
    and_digit : (ds : List ℕ) → all_digits ds ≡ true → is_digit (digit_of n) ≡ true → all_digits (ds ++ (digit_of n ∷ [])) ≡ true
    and_digit [] h k = rw k
    and_digit (c ∷ ds) h k = rw (left (is_digit c) (all_digits ds) h) (and_digit ds (right (is_digit c) (all_digits ds) h) k)

no_minus : (width : ℕ) (ds : List ℕ) → all_digits ds ≡ true → number_in width ds ≡ plus_in width ds
unfolding number_in
no_minus width [] h = refl
no_minus width (c ∷ ds) h =
    let low = leb-true 48 c (left (leb 48 c) (leb c 57) (left (is_digit c) (all_digits ds) h)) in rw (ne_eqb c 45 (λ e. omega arith))

read_digits : (width n : ℕ) → n ≤ most → plus_in width (unsigned_of width n) ≡ Some (pos n)
unfolding plus_in readable
read_digits width n h =
    let p = places_of width n in
    rw (all_digits_lem p n, value_digits p n (places_hold width n), le-leb n most h, digits_long p n, eq-eqb p p refl)

-- WRITTEN THEN READ: the number
pub written_read : (width : ℕ) (x : ℤ) → nat_abs x ≤ most → number_in width (decimal_of width x) ≡ Some x
unfolding decimal_of number_in
written_read width (pos n) h = no_minus width (unsigned_of width n) (all_digits_lem (places_of width n) n) ∙ read_digits width n h
written_read width (negsuc n) h = let k : 0 < suc n = omega arith in rw (read_digits width (suc n) h, lt-ltb 0 (suc n) k)

-- READ THEN WRITTEN: the bytes
abbrev numbered : Option ℤ → Bool
numbered None = false
numbered (Some x) = true

abbrev held : Option ℤ → ℤ
held None = pos 0
held (Some x) = x

digits_read : (width : ℕ) (ds : List ℕ) (x : ℤ) → plus_in width ds ≡ Some x → (x ≡ pos (value_of 0 ds)) × (unsigned_of width (value_of 0 ds) ≡ ds)
unfolding plus_in readable
digits_read width ds x h = go (readable width ds) refl h
  where
    go : (t : Bool) → readable width ds ≡ t → cond t (Some (pos (value_of 0 ds))) None ≡ Some x → (x ≡ pos (value_of 0 ds)) × (unsigned_of width (value_of 0 ds) ≡ ds)
    go true e k =
        let two = left (all_digits ds && leb (value_of 0 ds) most) (eqb (length ds) (places_of width (value_of 0 ds))) e in
        let long = eqb-true (length ds) (places_of width (value_of 0 ds)) (right (all_digits ds && leb (value_of 0 ds) most) (eqb (length ds) (places_of width (value_of 0 ds))) e) in
        (sym (ap held k), rw (← long) (digits_back ds (left (all_digits ds) (leb (value_of 0 ds) most) two)))
    go false e k = absurd (true≢false (sym (ap numbered k)))

pub read_written : (width : ℕ) (bytes : List ℕ) (x : ℤ) → number_in width bytes ≡ Some x → decimal_of width x ≡ bytes
unfolding number_in decimal_of
read_written width [] x h = let q = digits_read width [] x h in rw q.0 q.1
read_written width (c ∷ cs) x h = go (eqb c 45) refl (plus_in width cs) refl h
  where
    below : (v : ℕ) → unsigned_of width v ≡ cs → cond (lt_z (pos 0) (pos v)) (Some (neg_ℤ (pos v))) None ≡ Some x → decimal_of width x ≡ 45 ∷ cs
    below zero u k = absurd (true≢false (sym (ap numbered k)))
    below (suc n) u k = let some : 0 < suc n = omega arith in rw (← ap held (rw (lt-ltb 0 (suc n) some) at k), u)

    go : (t : Bool) → eqb c 45 ≡ t → (p : Option ℤ) → plus_in width cs ≡ p → cond t (minus p) (plus_in width (c ∷ cs)) ≡ Some x → decimal_of width x ≡ c ∷ cs
    go false e p ep k = let q = digits_read width (c ∷ cs) x k in rw q.0 q.1
    go true e None ep k = absurd (true≢false (sym (ap numbered k)))
    go true e (Some y) ep k =
        let q = digits_read width cs y ep in
        rw (eqb-true c 45 e) (below (value_of 0 cs) q.1 (rw q.0 at k))

-- where the reading of digits stands: the value so far, and the digits from a place on
abbrev pub Reads : List ℕ → ℕ → ℕ → Type 0
Reads ds v i = (i ≤ length ds) × (v ≤ most) × (value_of v (drop i ds) ≡ value_of 0 ds) × (all_digits (drop i ds) ≡ all_digits ds)

value_up : (ds : List ℕ) (v : ℕ) → v ≤ value_of v ds
value_up [] v = omega arith
value_up (d ∷ ds) v = omega (arith, value_up ds (v * 10 + (d - 48)))

-- a digit more: none, one too many, or one that goes on
module _ (width : ℕ) (ds : List ℕ) (v i : ℕ) (inv : Reads ds v i) (more : i < length ds) where
  abbrev c : ℕ
  c = get_or ds i 0

  next : drop i ds ≡ c ∷ drop (i + 1) ds
  next = rw add-one (drop-cons ds i 0 more)

  value : value_of (v * 10 + (c - 48)) (drop (i + 1) ds) ≡ value_of 0 ds
  value = rw next at inv.2

  digits : is_digit c && all_digits (drop (i + 1) ds) ≡ all_digits ds
  digits = rw next at inv.3

  pub no_digit : is_digit c ≡ false → None ≡ plus_in width ds
  unfolding plus_in readable
  no_digit h = rw (← digits, h)

  pub too_big : 10 ^ 17 ≤ v → None ≡ plus_in width ds
  unfolding plus_in readable
  too_big h = rw (lt-leb (value_of 0 ds) most (omega (arith, value, value_up (drop (i + 1) ds) (v * 10 + (c - 48))))) (go (all_digits ds))
    where
      go : (t : Bool) → None ≡ cond (t && false && eqb (length ds) (places_of width (value_of 0 ds))) (Some (pos (value_of 0 ds))) None
      go true = refl
      go false = refl

-- all digits are read
module _ (width : ℕ) (ds : List ℕ) (v i : ℕ) (inv : Reads ds v i) (end : length ds ≤ i) where
  all_read : (v ≡ value_of 0 ds) × (true ≡ all_digits ds)
  all_read = (rw (drop_of_length-le ds end) at inv.2, rw (drop_of_length-le ds end) at inv.3)

  pub read_is : length ds ≡ places_of width v → Some (pos v) ≡ plus_in width ds
  unfolding plus_in readable
  read_is h = rw (← all_read.1, ← all_read.0, le-leb v most inv.1, eq-eqb _ _ h)

  pub read_not : (length ds ≡ places_of width v → ⊥) → None ≡ plus_in width ds
  unfolding plus_in readable
  read_not h = rw (← all_read.1, ← all_read.0, le-leb v most inv.1, ne_eqb _ _ h)
