-- Letters: the formats that they name, and the ranges in which the host's letters stand.
use Prim.Native.Nat.{ℕ, ◌+◌, ◌<◌, ◌≤◌}
use mathlib.Core.Path.{◌≡◌, refl}
use mathlib.Core.Bool.{Bool, true, false, not, ◌||◌}
use lib.Dec.{T, eqb}
use borrow.Author.Tests.{not-true, ne_eqb, eqb-true}
use Rattle.numbers.specs.Tests.{each}
use Rattle.numbers.proofs.Choices.{cases}
use Rattle.numbers.proofs.Tested.{ranged}
use Rattle.wire.specs.Line.{letter_of, named_by, known}
use Rattle.wire.specs.declared.Format.{Format}
use Rattle.wire.specs.declared.Format.TheVariants.{Mm, Microsoft, Absolute, Relative, FiveByte, ThreeByte, Hexadecimal}
use Rattle.std.proofs.Common.{None}
use Rattle.ballbox.specs.Box.{mode_d}
use Rattle.ballbox.specs.Commands.{letter_p, space, letterf, lettert, byte05, letterd, is_stream, command_of}
use Rattle.ballbox.specs.declared.Command.{Command}
use Rattle.ballbox.specs.declared.Command.TheVariants.{SetFormat, SetStream, SetPrompt, AskReport, AskAck, AskCode, AskLetters, AskButtons, Sleep, Ignored}

-- a letter is that of a format, or names none
pub data Lettered (letter : ℕ) : Type 0 where
  named : (f : Format) → letter ≡ letter_of f → Lettered letter
  unnamed : named_by letter ≡ None → known letter ≡ false → Lettered letter

told : (l : ℕ) (s v a b u t w : Bool) → eqb l (letter_of Mm) ≡ s → eqb l (letter_of Microsoft) ≡ v → eqb l (letter_of Absolute) ≡ a → eqb l (letter_of Relative) ≡ b → eqb l (letter_of FiveByte) ≡ u → eqb l (letter_of ThreeByte) ≡ t → eqb l (letter_of Hexadecimal) ≡ w → Lettered l
unfolding named_by known
told l true v a b u t w es ev ea eb eu et ew = named Mm (eqb-true _ _ es)
told l false true a b u t w es ev ea eb eu et ew = named Microsoft (eqb-true _ _ ev)
told l false false true b u t w es ev ea eb eu et ew = named Absolute (eqb-true _ _ ea)
told l false false false true u t w es ev ea eb eu et ew = named Relative (eqb-true _ _ eb)
told l false false false false true t w es ev ea eb eu et ew = named FiveByte (eqb-true _ _ eu)
told l false false false false false true w es ev ea eb eu et ew = named ThreeByte (eqb-true _ _ et)
told l false false false false false false true es ev ea eb eu et ew = named Hexadecimal (eqb-true _ _ ew)
told l false false false false false false false es ev ea eb eu et ew = unnamed (simp (es, ev, ea, eb, eu, et, ew)) (simp (es, ev, ea, eb, eu, et, ew))

pub lettered : (l : ℕ) → Lettered l
lettered l = told l _ _ _ _ _ _ _ refl refl refl refl refl refl refl

-- no letter of a group in a range
pub no_format_lem : (lo n : ℕ) → T (each (λ k. not (known (lo + k))) n) → (b : ℕ) → lo ≤ b → b < lo + n → known b ≡ false
no_format_lem lo n t b h k = not-true (known b) (ranged (λ m. not (known m)) lo n t b h k)

pub no_stream : (lo n : ℕ) → T (each (λ k. not (is_stream (lo + k))) n) → (b : ℕ) → lo ≤ b → b < lo + n → is_stream b ≡ false
no_stream lo n t b h k = not-true (is_stream b) (ranged (λ m. not (is_stream m)) lo n t b h k)

pub stream : (b : ℕ) → 74 ≤ b → b < 83 → (b ≡ letter_p → ⊥) → is_stream b ≡ true
stream b h k n = simp (ne_eqb b letter_p n) at (ranged (λ m. eqb m letter_p || is_stream m) 74 9 tt b h k)

-- none of the host's letters
pub ignored : (b : ℕ) → (b ≡ mode_d → ⊥) → (b ≡ letter_p → ⊥) → (b ≡ space → ⊥) → (b ≡ letterf → ⊥) → (b ≡ lettert → ⊥) → (b ≡ byte05 → ⊥) → (b ≡ letterd → ⊥) →
    known b ≡ false → is_stream b ≡ false → Ignored ≡ command_of b
unfolding command_of
ignored b h₁ h₂ h₃ h₄ h₅ h₆ h₇ f s =
    rw (f, s, ne_eqb b mode_d h₁, ne_eqb b letter_p h₂, ne_eqb b space h₃, ne_eqb b letterf h₄, ne_eqb b lettert h₅, ne_eqb b byte05 h₆, ne_eqb b letterd h₇)

-- the letters of a command are letters
abbrev pub Lettering : Command → Type 0
Lettering (SetFormat f) = known f ≡ true
Lettering (SetStream m) = is_stream m ≡ true
Lettering SetPrompt = Unit {0}
Lettering AskReport = Unit {0}
Lettering AskAck = Unit {0}
Lettering AskCode = Unit {0}
Lettering AskLetters = Unit {0}
Lettering AskButtons = Unit {0}
Lettering Sleep = Unit {0}
Lettering Ignored = Unit {0}

pub lettering : (n : ℕ) → Lettering (command_of n)
unfolding command_of
lettering n =
    cases Lettering (known n) (λ e. e)
    (λ _. cases Lettering (is_stream n) (λ e. e)
    (λ _. cases Lettering (eqb n mode_d) (λ e. tt)
    (λ _. cases Lettering (eqb n letter_p) (λ e. tt)
    (λ _. cases Lettering (eqb n space) (λ e. tt)
    (λ _. cases Lettering (eqb n letterf) (λ e. tt)
    (λ _. cases Lettering (eqb n lettert) (λ e. tt)
    (λ _. cases Lettering (eqb n byte05) (λ e. tt)
    (λ _. cases Lettering (eqb n letterd) (λ e. tt) (λ _. tt)))))))))
