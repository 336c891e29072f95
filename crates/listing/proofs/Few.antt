-- No text of the lister is longer than forty bytes.
use Rattle.std.proofs.Common.{Option, None, Some}
use Prim.Native.Nat.{ℕ, ◌+◌, ◌-◌, ◌<◌, ◌≤◌, ◌^◌}
use mathlib.Core.Path.{◌≡◌}
use mathlib.Core.Bool.{Bool, true, false, cond}
use mathlib.Core.List.{List, [], ◌∷◌, ◌++◌}
use native.Mathlib.Omega.{arith}
use lib.Dec.{leb, eqb}
use lib.IntN.{pos, nat_abs}
use lib.ListN.{length, length-append}
use borrow.Author.Tests.{leb-false}
use Rattle.numbers.proofs.Choices.{cases}
use Rattle.reader.specs.Promises.{step_of}
use Rattle.reader.specs.declared.Reader.{Reader}
use Rattle.reader.specs.declared.Answer.{Answer}
use Rattle.reader.specs.declared.Answer.TheVariants as answer
use Rattle.text.specs.Decimals.{plain, digits_of, size_in, places_of, decimal_of}
use Rattle.text.proofs.Digits.{decimal_few}
use Rattle.listing.specs.Lines.{newline, said_by}
use Rattle.listing.specs.Scanning.{width, most_lines, on_line, line_in, unfinished, taken_of, scanned_byte, closed_of, end_of}
use Rattle.listing.specs.Items.{answer_given, gave_of, items_in}
use Rattle.listing.specs.Printing.{field_of, fields_of, Form, form_of, head_of, line_of, all_bytes}
use Rattle.listing.specs.Feeding.{unopened, front_of, closed, items_of, turning, fed_byte, last_of, good}
use Rattle.listing.specs.declared.Line.{Line}
use Rattle.listing.specs.declared.Line.TheVariants as line
use Rattle.listing.specs.declared.Found.{Found}
use Rattle.listing.specs.declared.Found.TheVariants as found
use Rattle.listing.specs.declared.Field.{Field}
use Rattle.listing.specs.declared.Field.TheVariants as field
use Rattle.listing.specs.declared.Item.{Item}
use Rattle.listing.specs.declared.Item.TheVariants as item
use Rattle.listing.specs.declared.Scan.{Scan}
use Rattle.listing.specs.declared.Scanner.{Scanner}
use Rattle.listing.specs.declared.Lister.{Lister}
use Rattle.listing.proofs.Small.{Small, few_kept, small_step}
use Rattle.listing.proofs.Keeps.{closed_reads}

-- fields whose line numbers are within the width, and whose other numbers have four digits at most
abbrev pub Short : List Field → Type 0
Short [] = Unit {0}
Short (field.Line n ∷ fs) = (n < 10 ^ width) × Short fs
Short (field.Number x ∷ fs) = (nat_abs x < 10 ^ 4) × Short fs
Short (field.Pressed b ∷ fs) = Short fs
Short (field.Over ∷ fs) = Short fs

-- the most bytes of such fields, each behind its tab
abbrev pub most_of : List Field → ℕ
most_of [] = 0
most_of (field.Line n ∷ fs) = 2 + width + most_of fs
most_of (field.Number x ∷ fs) = 6 + most_of fs
most_of (field.Pressed b ∷ fs) = 4 + most_of fs
most_of (field.Over ∷ fs) = 5 + most_of fs

few_fields : (fs : List Field) → Short fs → length (fields_of width fs) ≤ most_of fs
few_fields [] h = omega arith
few_fields (field.Line n ∷ fs) h = omega (arith, decimal_few width (width - 1) (pos n) (omega arith) h.0, few_fields fs h.1, length-append (field_of width (field.Line n)) (fields_of width fs))
few_fields (field.Number x ∷ fs) h = omega (arith, decimal_few plain 3 x (omega arith) h.0, few_fields fs h.1, length-append (field_of width (field.Number x)) (fields_of width fs))
few_fields (field.Pressed b ∷ fs) h = omega (arith, few_fields fs h)
few_fields (field.Over ∷ fs) h = omega (arith, few_fields fs h)

pub few_form : (f : Form) → Short f.fields → length (line_of width f) ≤ 2 + most_of f.fields
unfolding line_of
few_form f h = omega (arith, few_fields f.fields h, length-append (head_of width f) (newline ∷ []))

-- the line of what is given
abbrev pub ShortGiven : Option Item → Type 0
ShortGiven None = Unit {0}
ShortGiven (Some i) = Short (form_of i).fields

pub most_item : (i : Item) → most_of (form_of i).fields ≤ 24
most_item (item.D n k) = omega arith
most_item (item.R n b x y) = omega arith
most_item (item.H k) = omega arith
most_item (item.E n) = omega arith
most_item item.Over = omega arith

few_given : (g : Option Item) → ShortGiven g → length (all_bytes width (items_in g)) ≤ 26
few_given None h = omega arith
few_given (Some i) h = omega (arith, few_form (form_of i) h, most_item i, length-append (line_of width (form_of i)) [])

-- what is found on a line, whose number is below the most lines
abbrev pub Numbered : Found → Type 0
Numbered found.Nothing = Unit {0}
Numbered (found.Format f) = Unit {0}
Numbered (found.Word n w) = n < 10 ^ width
Numbered (found.Bad n) = n < 10 ^ width
Numbered found.Over = Unit {0}
Numbered found.End = ⊥

numbered_line : (n : ℕ) (l : Line) → Numbered (line_in width n l)
unfolding line_in
numbered_line n l = cases Numbered (leb most_lines n) (λ _. tt) (λ e. go l (leb-false _ _ e))
  where
    go : (l : Line) → n < most_lines → Numbered (on_line n l)
    go line.Bad h = omega arith
    go (line.Format f) h = cases Numbered (eqb n 0) (λ _. tt) (λ _. omega arith)
    go (line.Word w) h = cases Numbered (eqb n 0) (λ _. omega arith) (λ _. omega arith)

numbered_taken : (s : Scanner) (l : Line) → Numbered (taken_of s l).found
unfolding taken_of
numbered_taken s l = cases (λ (k : Scan). Numbered k.found) s.ended (λ _. tt) (λ _. numbered_line s.line l)

pub numbered_byte : (s : Scanner) (c : ℕ) → Numbered (scanned_byte s c).found
unfolding scanned_byte
numbered_byte s c =
    let P : Scan → Type 0 = λ k. Numbered k.found in
    cases P (eqb c newline) (λ _. numbered_taken s (said_by (unfinished s))) (λ _. cases P (leb 5 s.count) (λ _. numbered_taken s line.Bad) (λ _. tt))

pub numbered_closed : (s : Scanner) → Numbered (closed_of s).found
unfolding closed_of
numbered_closed s = cases (λ (k : Scan). Numbered k.found) (eqb s.count 0) (λ _. tt) (λ _. numbered_taken s (said_by (unfinished s)))

short_gave : (r : Reader) (f : Found) → Numbered f → ShortGiven (gave_of r f).given
unfolding gave_of
short_gave r found.Nothing h = tt
short_gave r (found.Format f) h = tt
short_gave r (found.Word n w) h = go (step_of r w).answer (small_step r w)
  where
    go : (a : Answer) → Small a → ShortGiven (answer_given r.format n a)
    go answer.Nothing k = tt
    go (answer.Report p) k = (h, (k.0, (k.1, tt)))
    go (answer.Dropped b) k = (h, (k.1, tt))
short_gave r (found.Bad n) h = (h, tt)
short_gave r found.Over h = tt
short_gave r found.End h = absurd h

few_front : (m : Lister) → length (front_of m) ≤ 4
unfolding front_of line_of decimal_of places_of size_in digits_of
few_front m = cases (λ (l : List ℕ). length l ≤ 4) (unopened m.scanner) (λ _. omega arith) (λ _. omega arith)

-- what the end gives to a reader that keeps few bytes
few_end : (r : Reader) (t u : Bool) → r.count < 5 → length (all_bytes width (items_in (gave_of r (cond t found.Nothing (cond u (found.Bad 1) found.End))).given)) ≤ 10
unfolding gave_of
few_end r true u h = omega arith
few_end r false true h = omega (arith, few_form (form_of (item.E 1)) (omega arith, tt), length-append (line_of width (form_of (item.E 1))) [])
few_end r false false h = omega (arith, few_form (form_of (item.H r.count)) (omega arith, tt), length-append (line_of width (form_of (item.H r.count))) [])

-- what is found writes, on a line and at a byte, and what the end of a good lister does
few_turning : (m : Lister) (s : Scan) → Numbered s.found → length (turning m s).text ≤ 40
few_turning m s h =
    let g = (gave_of m.reader s.found).given in
    omega (arith, few_front m, few_given g (short_gave m.reader s.found h), length-append (front_of m) (all_bytes width (items_in g)))

pub few_line : (m : Lister) (l : Line) → length (turning m (taken_of m.scanner l)).text ≤ 40
few_line m l = few_turning m (taken_of m.scanner l) (numbered_taken m.scanner l)

pub few_byte : (m : Lister) (c : ℕ) → length (fed_byte m c).text ≤ 40
unfolding fed_byte
few_byte m c = few_turning m (scanned_byte m.scanner c) (numbered_byte m.scanner c)

pub few_last : (m : Lister) → good m ≡ true → length (last_of m).text ≤ 40
unfolding last_of end_of
few_last m ok =
    let f = (closed_of m.scanner).found in
    let a = all_bytes width (items_of m (closed_of m.scanner)) in
    let e = all_bytes width (items_of (closed m) (end_of (closed m).scanner)) in
    let few : length e ≤ 10 = few_end (closed m).reader (closed m).scanner.ended (eqb (closed m).scanner.line 0) (few_kept (closed m).reader (closed_reads m ok)) in
    omega (arith, few_front m, few_given (gave_of m.reader f).given (short_gave m.reader f (numbered_closed m.scanner)), few, length-append (front_of m) a, length-append (front_of m ++ a) e)
