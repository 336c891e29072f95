-- The self-test report of 001, paragraph C.6.5: its bytes as the rows of bits of figure C-5, and the report that bytes stand for.
use Rattle.std.specs.Prelude.{ℕ, Bool, ◌&&◌, List, [], ◌∷◌, ◌++◌, leb}
use Rattle.numbers.specs.Bits.{I, O, number, bits}
use Rattle.wire.specs.Places.{𝟏, 𝟎, ·, like}
use Rattle.wire.specs.Reading.{at}
use Rattle.vsxxx.specs.declared.SelfTest.{SelfTest}

-- Figure C-5: "1 0 1 0 R3 R2 R1 R0"; "0 M2 M1 M0" and the device code, "any four-bit device code"; "0 E6 E5 E4 E3 E2 E1 E0"; "0 0 0 0 0 L M R"
unfoldable pub test_bytes : SelfTest → List ℕ
test_bytes t =
    number (I ∷ O ∷ I ∷ O ∷ bits 4 0 t.revision)
    ∷ number (O ∷ (bits 3 0 t.maker ++ bits 4 0 t.device))
    ∷ number (O ∷ bits 7 0 t.error)
    ∷ number (O ∷ O ∷ O ∷ O ∷ O ∷ bits 3 0 t.buttons)
    ∷ []

-- the figure, read the other way
unfoldable pub test_of : List ℕ → SelfTest
test_of bs =
    record {
      revision = number (bits 4 0 (at 0 bs));
      maker = number (bits 3 4 (at 1 bs));
      device = number (bits 4 0 (at 1 bs));
      error = number (bits 7 0 (at 2 bs));
      buttons = number (bits 3 0 (at 3 bs));
    }

-- what the figure has room for: four bits of revision, three of the maker's, four of the device's, seven of error, and three buttons
abbrev pub holds_test : SelfTest → Bool
holds_test t = leb t.revision 15 && leb t.maker 7 && leb t.device 15 && leb t.error 127 && leb t.buttons 7

-- "Bit 7 through bit 5 (101) indicates the start of a self-test report", and bit 4 is 0 in the figure
unfoldable pub is_test : ℕ → Bool
is_test b = like (𝟏 ∷ 𝟎 ∷ 𝟏 ∷ 𝟎 ∷ · ∷ · ∷ · ∷ · ∷ []) b

-- byte 4, "0 0 0 0 0 L M R"
unfoldable pub is_buttons : ℕ → Bool
is_buttons b = like (𝟎 ∷ 𝟎 ∷ 𝟎 ∷ 𝟎 ∷ 𝟎 ∷ · ∷ · ∷ · ∷ []) b

-- "Codes of 20 (hex) or greater are considered to be fatal hardware problems"
abbrev pub fatal : SelfTest → Bool
fatal t = leb 0x20 t.error
