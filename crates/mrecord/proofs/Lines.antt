-- What a word puts on the tape.
use Prim.Native.Nat.{ℕ, ◌-◌, ◌<◌, ◌≤◌}
use mathlib.Core.Path.{◌≡◌, refl, sym, ◌∙◌}
use mathlib.Core.List.{List, [], ◌∷◌, ◌++◌}
use native.Mathlib.Omega.{arith}
use lib.Dec.{eqb}
use lib.IntN.{pos}
use lib.ListN.{length, length-append}
use borrow.Author.Tests.{ne_eqb}
use Rattle.numbers.proofs.Choices.{cases}
use Rattle.text.specs.Growth.{slice, filled_by}
use Rattle.text.specs.Decimals.{plain, decimal_of}
use Rattle.text.proofs.Digits.{decimal_few}
use Rattle.frames.specs.Words.{break, silence}
use Rattle.hearing.specs.Steps.{Step}
use Rattle.mrecord.specs.Recording.{line_of, behind_line, lines_of, full_behind, end_of, text, tells}
use Rattle.mrecord.specs.declared.Tape.{Tape}

-- the line of a break, of a silence, and of a byte
pub of_break : (w : ℕ) → w ≡ break → line_of w ≡ 88 ∷ 10 ∷ []
unfolding line_of
of_break w e = rw e

pub of_silence : (w : ℕ) → w ≡ silence → line_of w ≡ 81 ∷ 10 ∷ []
unfolding line_of
of_silence w e = rw e

pub of_byte : (w : ℕ) → (w ≡ break → ⊥) → (w ≡ silence → ⊥) → line_of w ≡ 66 ∷ 9 ∷ decimal_of plain (pos w) ++ 10 ∷ []
unfolding line_of
of_byte w n m = rw (ne_eqb w break n, ne_eqb w silence m)

-- it is short
pub few_line : (w : ℕ) → w < 65536 → length (line_of w) ≤ 9
unfolding line_of
few_line w h =
    cases (λ (l : List ℕ). length l ≤ 9) (eqb w break) (λ _. omega arith)
    (λ _. cases (λ (l : List ℕ). length l ≤ 9) (eqb w silence) (λ _. omega arith)
    (λ _. omega (arith, decimal_few plain 4 (pos w) (omega arith) (omega arith), length-append (decimal_of plain (pos w)) (10 ∷ []))))

-- no line is left
full_lines : (left : ℕ) (words : List ℕ) → left ≡ 0 → lines_of left words ≡ []
unfolding lines_of
full_lines left [] e = refl
full_lines left (w ∷ words) e = rw e

full_end : (last left : ℕ) (words : List ℕ) → left ≡ 0 → end_of last left words ≡ full_behind last
unfolding end_of
full_end last left [] e = rw e
full_end last left (w ∷ words) e = rw e

-- the line of a word, where one is left
module _ (tape : Tape) (w : ℕ) (before : List ℕ) (at : ℕ) where
  pub full : tape.left ≡ 0 → Step text tells 9 tape w before at tape before at
  full e =
      record {
        text = [];
        so = refl;
        few = omega arith;
        goes = λ q. full_lines tape.left (w ∷ q) e ∙ sym (full_lines tape.left q e);
        says = λ q. full_end tape.last tape.left (w ∷ q) e ∙ sym (full_end tape.last tape.left q e);
      }

  pub one_line : (left behind : ℕ) (after : List ℕ) → (tape.left ≡ 0 → ⊥) → w < 65536 → left ≡ behind_line (tape.left - 1) w
      → slice after behind ≡ filled_by (slice before at) (line_of w)
      → Step text tells 9 tape w before at (record { left = left; last = w }) after behind
  unfolding lines_of end_of
  one_line left behind after n small l so =
      record {
        text = line_of w;
        so = so;
        few = few_line w small;
        goes = λ q. rw (ne_eqb tape.left 0 n, l);
        says = λ q. rw (ne_eqb tape.left 0 n, l);
      }
