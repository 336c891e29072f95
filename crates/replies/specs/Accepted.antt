-- The bytes that are accepted in a reply, written out: "Only the seven `f` bytes and the `t` pairs of a known format
-- and mode are accepted".
use Rattle.std.specs.Prelude.{ℕ, List, [], ◌∷◌}

-- "`f`: one byte, 10H plus twice the code U 0, T 1, W 2, B 3, S 5, A 6, V 7", and the letters of the seven in this
-- order
abbrev pub seven_bytes : List ℕ
seven_bytes = 0x10 ∷ 0x12 ∷ 0x14 ∷ 0x16 ∷ 0x1A ∷ 0x1C ∷ 0x1E ∷ []

abbrev pub seven_letters : List ℕ
seven_letters = 0x55 ∷ 0x54 ∷ 0x57 ∷ 0x42 ∷ 0x53 ∷ 0x41 ∷ 0x56 ∷ []

-- "`t`: format letter, mode letter", the modes being J K L R M Q N O and D
abbrev pub mode_letters : List ℕ
mode_letters = 0x4A ∷ 0x4B ∷ 0x4C ∷ 0x52 ∷ 0x4D ∷ 0x51 ∷ 0x4E ∷ 0x4F ∷ 0x44 ∷ []
