-- "The first stop bit shows up as bit 7": a line, and the same line with bit 7 of any of its bytes turned over.
use Rattle.std.specs.Prelude.{ℕ, ◌≡◌, Bool, true, not, ◌||◌, List, [], ◌∷◌, ltb}
use Rattle.numbers.specs.Bits.{number, bit, bits}
use Rattle.frames.specs.Words.{is_byte}

-- a byte with bit 7 turned over: 108 is 236, and 236 is 108
unfoldable pub turned : ℕ → ℕ
turned byte = number (not (bit 7 byte) ∷ bits 7 0 byte)

-- "The box still sends it as 0": a byte below 128; a break and a silence are no bytes
abbrev pub seven_bits : ℕ → Bool
seven_bits w = ltb w 128 || not (is_byte w)

pub data TurnedOver : List ℕ → List ℕ → Type 0 where
  none : TurnedOver [] []
  stays : {w : ℕ} {u v : List ℕ} → TurnedOver u v → TurnedOver (w ∷ u) (w ∷ v)
  turns : {w : ℕ} {u v : List ℕ} → is_byte w ≡ true → TurnedOver u v → TurnedOver (w ∷ u) (turned w ∷ v)
