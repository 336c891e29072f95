-- Numbers as decimals, in ASCII, written and read at a width: at least so many digits, with zeros in front where a number needs fewer.
use Rattle.std.specs.Prelude.{ℕ, zero, suc, ◌+◌, ◌-◌, ◌*◌, ◌/◌, ◌%◌, ◌^◌, Bool, true, false, cond, ◌&&◌, List, [], ◌∷◌, ◌++◌, ltb, leb, eqb, ℤ, pos, negsuc, neg_ℤ, length, drop, Option, Some, None}
use Rattle.std.specs.Int.Signed.{lt_z}

-- the last digit of a number
abbrev pub digit_of : ℕ → ℕ
digit_of n = 48 + n % 10

-- its last digits, as many as there are places
unfoldable pub digits_of : ℕ → ℕ → List ℕ
digits_of zero n = []
digits_of (suc places) n = digits_of places (n / 10) ++ (digit_of n ∷ [])

-- the digits that a number needs, which are no more than one and the number
unfoldable pub size_in : ℕ → ℕ → ℕ
size_in zero n = 1
size_in (suc more) n = cond (ltb n 10) 1 (suc (size_in more (n / 10)))

abbrev pub size_of : ℕ → ℕ
size_of n = size_in n n

-- the width of a number that has no leading zeros
abbrev pub plain : ℕ
plain = 1

-- and at a width: no fewer than that
unfoldable pub places_of : ℕ → ℕ → ℕ
places_of width n = cond (ltb (size_of n) width) width (size_of n)

-- a number without its sign
abbrev pub unsigned_of : ℕ → ℕ → List ℕ
unsigned_of width n = digits_of (places_of width n) n

-- a minus in front of a negative number, and none in front of 0
unfoldable pub decimal_of : ℕ → ℤ → List ℕ
decimal_of width (pos n) = unsigned_of width n
decimal_of width (negsuc n) = 0x2D ∷ unsigned_of width (suc n)

-- the other way: the number that digits stand for
abbrev pub is_digit : ℕ → Bool
is_digit c = leb 0x30 c && leb c 0x39

abbrev pub all_digits : List ℕ → Bool
all_digits [] = true
all_digits (c ∷ cs) = is_digit c && all_digits cs

abbrev pub value_of : ℕ → List ℕ → ℕ
value_of v [] = v
value_of v (c ∷ cs) = value_of (v * 10 + (c - 0x30)) cs

-- numbers of eighteen digits at most are read
abbrev pub most : ℕ
most = 10 ^ 18 - 1

-- digits, and as many as their number is written with
unfoldable pub readable : ℕ → List ℕ → Bool
readable width ds = all_digits ds && leb (value_of 0 ds) most && eqb (length ds) (places_of width (value_of 0 ds))

unfoldable pub plus_in : ℕ → List ℕ → Option ℤ
plus_in width ds = cond (readable width ds) (Some (pos (value_of 0 ds))) None

-- behind a minus; there is no minus 0
abbrev pub minus : Option ℤ → Option ℤ
minus None = None
minus (Some x) = cond (lt_z (pos 0) x) (Some (neg_ℤ x)) None

abbrev pub has_minus : List ℕ → Bool
has_minus [] = false
has_minus (c ∷ cs) = eqb c 0x2D

-- the number that a decimal stands for
unfoldable pub number_in : ℕ → List ℕ → Option ℤ
number_in width bytes = cond (has_minus bytes) (minus (plus_in width (drop 1 bytes))) (plus_in width bytes)
