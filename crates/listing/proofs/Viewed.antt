-- What is found on a line: a letter of the table, on the first; a word of a line; a bad line within the width; or a line too many. And what a byte does to a scanner.
use Rattle.std.proofs.Common.{Option, Some, None, ℤ}
use Prim.Native.Nat.{ℕ, ◌+◌, ◌<◌, ◌≤◌, ◌^◌}
use mathlib.Core.Path.{◌≡◌, refl}
use mathlib.Core.Bool.{true, ◌&&◌}
use mathlib.Core.List.{List, [], ◌∷◌}
use native.Mathlib.Omega.{arith}
use lib.Dec.{leb, eqb}
use lib.IntN.{pos, negsuc}
use borrow.Author.Tests.{leb-true, leb-false, eqb-true, eqb-false}
use Rattle.numbers.proofs.Choices.{cases}
use Rattle.frames.specs.Words.{silence}
use Rattle.wire.specs.Line.{known}
use Rattle.text.specs.Decimals.{plain, number_in}
use Rattle.listing.specs.Lines.{newline, tab, byte_of, mark_in, format_in, said_by}
use Rattle.listing.specs.Scanning.{width, most_lines, on_line, line_in, unfinished, passing, taken_of, scanned_byte}
use Rattle.listing.specs.declared.Line.{Line}
use Rattle.listing.specs.declared.Line.TheVariants as line
use Rattle.listing.specs.declared.Found.{Found}
use Rattle.listing.specs.declared.Found.TheVariants as found
use Rattle.listing.specs.declared.Scan.{Scan}
use Rattle.listing.specs.declared.Scanner.{Scanner}
use Rattle.listing.proofs.Scanned.{bad_ends}

-- what a line says: a letter of the table, or a word of a line
abbrev Proper : Line → Type 0
Proper line.Bad = Unit {0}
Proper (line.Format f) = known f ≡ true
Proper (line.Word w) = w ≤ silence

number_proper : (n : Option ℤ) → Proper (byte_of n)
number_proper None = tt
number_proper (Some (pos n)) = cases Proper (leb n 255) (λ e. omega (arith, leb-true n 255 e)) (λ _. tt)
number_proper (Some (negsuc n)) = tt

format_proper : (c : ℕ) (cs : List ℕ) → Proper (format_in c cs)
unfolding format_in
format_proper c [] = cases Proper (known c) (λ e. e) (λ _. tt)
format_proper c (d ∷ cs) = tt

said_proper : (l : List ℕ) → Proper (said_by l)
unfolding said_by mark_in
said_proper [] = tt
said_proper (a ∷ []) = cases Proper (eqb a 0x58) (λ _. omega arith) (λ _. cases Proper (eqb a 0x51) (λ _. omega arith) (λ _. tt))
said_proper (a ∷ b ∷ []) = tt
said_proper (a ∷ b ∷ c ∷ cs) =
    cases Proper (eqb a 0x46 && eqb b tab) (λ _. format_proper c cs) (λ _. cases Proper (eqb a 0x42 && eqb b tab) (λ _. number_proper (number_in plain (c ∷ cs))) (λ _. tt))

-- what is found on a line behind n others
pub data View (n : ℕ) : Found → Type 0 where
  is_over : View n found.Over
  is_bad : n + 1 < 10 ^ width → View n (found.Bad (n + 1))
  is_format : {f : ℕ} → n ≡ 0 → known f ≡ true → View n (found.Format f)
  is_word : {w : ℕ} → 1 ≤ n → w ≤ silence → View n (found.Word (n + 1) w)

by_line : (n : ℕ) (l : Line) → Proper l → View n (line_in width n l)
unfolding line_in
by_line n l p = cases (View n) (leb most_lines n) (λ _. is_over) (λ e. go l p (leb-false most_lines n e))
  where
    go : (l : Line) → Proper l → n < most_lines → View n (on_line n l)
    go line.Bad p h = is_bad (omega arith)
    go (line.Format f) p h = cases (View n) (eqb n 0) (λ e. is_format (eqb-true n 0 e) p) (λ _. is_bad (omega arith))
    go (line.Word w) p h = cases (View n) (eqb n 0) (λ _. is_bad (omega arith)) (λ e. is_word (omega (arith, eqb-false n 0 e)) p)

pub viewed : (n : ℕ) (l : List ℕ) → View n (line_in width n (said_by l))
viewed n l = by_line n (said_by l) (said_proper l)

-- what a byte does to a scanner: it has ended then; or nothing is found, in the same line; or a line has passed, and this was found on it
pub data Passes (s : Scanner) (k : Scan) : Type 0 where
  ended : k.next.ended ≡ true → Passes s k
  within : k.found ≡ found.Nothing → k.next.line ≡ s.line → Passes s k
  behind : View s.line k.found → k.next.line ≡ s.line + 1 → Passes s k

taken_passes : (s : Scanner) (l : List ℕ) → Passes s (taken_of s (said_by l))
unfolding taken_of
taken_passes s l = cases (Passes s) s.ended (λ _. ended refl) (λ _. go (line_in width s.line (said_by l)) (viewed s.line l))
  where
    go : (f : Found) → View s.line f → Passes s (passing s.line f)
    go found.Nothing v = elim v [ ]
    go found.End v = elim v [ ]
    go found.Over v = ended refl
    go (found.Bad m) v = ended refl
    go (found.Format f) v = behind v refl
    go (found.Word m w) v = behind v refl

pub passes : (s : Scanner) (c : ℕ) → Passes s (scanned_byte s c)
unfolding scanned_byte
passes s c = cases (Passes s) (eqb c newline) (λ _. taken_passes s (unfinished s)) (λ _. cases (Passes s) (leb 5 s.count) (λ _. ended (bad_ends s)) (λ _. within refl refl))
