-- The seven formats by letter, size and mark.
use Rattle.std.specs.Prelude.{ℕ, Bool, true, false, cond, eqb, Option, Some, None}
use Rattle.wire.specs.declared.Format.{Format}
use Rattle.wire.specs.declared.Format.TheVariants.{Mm, Microsoft, Absolute, Relative, FiveByte, ThreeByte, Hexadecimal}

-- "Letter | Format", in ASCII
abbrev pub letter_of : Format → ℕ
letter_of Mm = 0x53
letter_of Microsoft = 0x56
letter_of Absolute = 0x41
letter_of Relative = 0x42
letter_of FiveByte = 0x55
letter_of ThreeByte = 0x54
letter_of Hexadecimal = 0x57

-- the format of a letter, or that the letter is not in the table
unfoldable pub named_by : ℕ → Option Format
named_by letter =
    cond (eqb letter (letter_of Mm)) (Some Mm)
    (cond (eqb letter (letter_of Microsoft)) (Some Microsoft)
    (cond (eqb letter (letter_of Absolute)) (Some Absolute)
    (cond (eqb letter (letter_of Relative)) (Some Relative)
    (cond (eqb letter (letter_of FiveByte)) (Some FiveByte)
    (cond (eqb letter (letter_of ThreeByte)) (Some ThreeByte)
    (cond (eqb letter (letter_of Hexadecimal)) (Some Hexadecimal)
    None))))))

-- what holds of the format that a letter names; none where it names none
abbrev pub of_named : {A : Type 0} → A → (Format → A) → Option Format → A
of_named none f (Some format) = f format
of_named none f None = none

-- a letter of the table
unfoldable pub known : ℕ → Bool
known letter = of_named false (λ f. true) (named_by letter)

-- how many bytes a report has
abbrev pub size_of : Format → ℕ
size_of Mm = 3
size_of Microsoft = 3
size_of Absolute = 5
size_of Relative = 5
size_of FiveByte = 5
size_of ThreeByte = 3
size_of Hexadecimal = 5

-- "S, V, A, B are marked: bit 7 in S, bit 6 in V, A, B is one in the first byte and zero in the others. U, T, W are unmarked."
abbrev pub marked_of : Format → Bool
marked_of Mm = true
marked_of Microsoft = true
marked_of Absolute = true
marked_of Relative = true
marked_of FiveByte = false
marked_of ThreeByte = false
marked_of Hexadecimal = false

-- the same by letter: no size and no mark for a letter that is not in the table
unfoldable pub size_by : ℕ → ℕ
size_by letter = of_named 0 size_of (named_by letter)

unfoldable pub marked_by : ℕ → Bool
marked_by letter = of_named false marked_of (named_by letter)
