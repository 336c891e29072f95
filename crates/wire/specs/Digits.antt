-- Hexadecimal digits: "digits 0-9, A-F", in ASCII. The rule of two ranges: '0' to '9' are 0 to 9, 'A' to 'F' are 10 to 15.
use Rattle.std.specs.Prelude.{ℕ, suc, ◌+◌, ◌-◌, Bool, false, cond, ◌&&◌, ◌||◌, List, [], ◌∷◌, eqb, leb, ltb}

abbrev pub between : ℕ → ℕ → ℕ → Bool
between low high b = leb low b && leb b high

abbrev pub is_digit : ℕ → Bool
is_digit b = between 0x30 0x39 b || between 0x41 0x46 b

-- the digit of a number below 16
unfoldable pub digit : ℕ → ℕ
digit n = cond (ltb n 10) (0x30 + n) (0x41 + (n - 10))

-- the number of a digit; any other byte counts as 0
unfoldable pub undigit : ℕ → ℕ
undigit b = cond (between 0x30 0x39 b) (b - 0x30) (cond (between 0x41 0x46 b) (10 + (b - 0x41)) 0)

-- the look-up: 0123456789ABCDEF
abbrev pub sixteen : List ℕ
sixteen =
    0x30 ∷ 0x31 ∷ 0x32 ∷ 0x33 ∷ 0x34 ∷ 0x35 ∷ 0x36 ∷ 0x37 ∷ 0x38 ∷ 0x39 ∷ 0x41 ∷ 0x42 ∷ 0x43 ∷ 0x44 ∷ 0x45 ∷ 0x46 ∷ []

-- whether a byte is among digits
unfoldable pub among : List ℕ → ℕ → Bool
among [] b = false
among (d ∷ digits) b = eqb b d || among digits b

-- its place there, the first being n; a byte that is not among them counts as 0
unfoldable pub place_from : ℕ → List ℕ → ℕ → ℕ
place_from n [] b = 0
place_from n (d ∷ digits) b = cond (eqb b d) n (place_from (suc n) digits b)
