-- What the lister writes of an input is the listing of the input.
use Prim.Native.Nat.{ℕ, ◌+◌}
use mathlib.Core.Path.{◌≡◌, refl, sym, ◌∙◌, ap}
use mathlib.Core.Bool.{Bool, true, false, not, cond, ◌&&◌}
use mathlib.Core.List.{List, [], ◌∷◌, ◌++◌, append_assoc, append-nil}
use native.Mathlib.Omega.{arith}
use lib.Dec.{leb, eqb}
use borrow.Author.Tests.{ne_eqb}
use Rattle.numbers.proofs.Choices.{cases}
use Rattle.reader.specs.Promises.{fresh_of, step_of}
use Rattle.reader.specs.declared.Reader.{Reader}
use Rattle.listing.specs.Lines.{newline, said_by}
use Rattle.listing.specs.Scanning.{width, line_in, ends, unfinished, taken_of, scanned_byte, closed_of, end_of}
use Rattle.listing.specs.Items.{gave_of, items_in, items_from}
use Rattle.listing.specs.Printing.{all_bytes}
use Rattle.listing.specs.Listing.{waiting, listing_of}
use Rattle.listing.specs.Feeding.{fresh, unopened, front_of, closed, items_of, fed_byte, last_of}
use Rattle.listing.specs.declared.Line.{Line}
use Rattle.listing.specs.declared.Line.TheVariants as line
use Rattle.listing.specs.declared.Found.{Found}
use Rattle.listing.specs.declared.Found.TheVariants.{Nothing, Format, Word, Bad, Over, End}
use Rattle.listing.specs.declared.Item.{Item}
use Rattle.listing.specs.declared.Scan.{Scan}
use Rattle.listing.specs.declared.Scanner.{Scanner}
use Rattle.listing.specs.declared.Lister.{Lister}
use Rattle.listing.proofs.Grown.{all_append}
use Rattle.listing.proofs.Scanned.{all_found, told, scanned}

-- what the lister writes of an input, and of its end
unfoldable pub all_of : Lister → List ℕ → List ℕ
all_of m [] = (last_of m).text
all_of m (c ∷ cs) = (fed_byte m c).text ++ all_of (fed_byte m c).next cs

-- after a byte the opening has been written
both_no : (t u : Bool) → t && u && false ≡ false
both_no true true = refl
both_no true false = refl
both_no false u = refl

pub ended_opened : (s : Scanner) → s.ended ≡ true → unopened s ≡ false
ended_opened s h = rw h (both_no (eqb s.line 0) (eqb s.count 0))

pub opened : (m : Lister) → unopened m.scanner ≡ false → front_of m ≡ []
unfolding front_of
opened m h = rw h

line_opened : (s : Scanner) (l : Line) → unopened (taken_of s l).next ≡ false
unfolding taken_of
line_opened s l = cases (λ (k : Scan). unopened k.next ≡ false) s.ended (λ _. both_no (eqb s.line 0) true) (λ _. go (ends (line_in width s.line l)))
  where
    go : (t : Bool) → eqb (cond t s.line (s.line + 1)) 0 && true && not t ≡ false
    go true = both_no (eqb s.line 0) true
    go false = rw (ne_eqb (s.line + 1) 0 (λ e. omega arith))

pub byte_opened : (s : Scanner) (c : ℕ) → unopened (scanned_byte s c).next ≡ false
unfolding scanned_byte
byte_opened s c =
    let P : Scan → Type 0 = λ k. unopened k.next ≡ false in
    cases P (eqb c newline) (λ _. line_opened s (said_by (unfinished s)))
    (λ _. cases P (leb 5 s.count) (λ _. line_opened s line.Bad) (λ _. rw (ne_eqb (s.count + 1) 0 (λ e. omega arith)) (go (eqb s.line 0))))
  where
    go : (t : Bool) → t && false && not s.ended ≡ false
    go true = refl
    go false = refl

-- the text is that of the items of all that is found
by_text : (input : List ℕ) (m : Lister) → all_of m input ≡ front_of m ++ all_bytes width (items_from m.reader (all_found m.scanner input))
unfolding all_of fed_byte last_of all_found items_from
by_text [] m =
    let a = items_of m (closed_of m.scanner) in
    let e = items_of (closed m) (end_of (closed m).scanner) in
    append_assoc (front_of m) (all_bytes width a) (all_bytes width e)
    ∙ ap (λ (l : List ℕ). front_of m ++ l) (sym (all_append width a e) ∙ ap (λ (is : List Item). all_bytes width (a ++ is)) (sym (append-nil e)))
by_text (c ∷ cs) m =
    let i = items_of m (scanned_byte m.scanner c) in
    let next = (fed_byte m c).next in
    let rest = items_from next.reader (all_found next.scanner cs) in
    let later : all_of next cs ≡ all_bytes width rest = by_text cs next ∙ ap (λ (l : List ℕ). l ++ all_bytes width rest) (opened next (byte_opened m.scanner c)) in
    ap (λ (l : List ℕ). front_of m ++ all_bytes width i ++ l) later ∙ append_assoc (front_of m) (all_bytes width i) (all_bytes width rest)
    ∙ ap (λ (l : List ℕ). front_of m ++ l) (sym (all_append width i rest))

-- where nothing was found there is no item
found_items : (fs : List Found) (r : Reader) → items_from r fs ≡ items_from r (told fs)
unfolding items_from gave_of
found_items [] r = refl
found_items (Nothing ∷ fs) r = found_items fs r
found_items (Format f ∷ fs) r = found_items fs (fresh_of f).reader
found_items (Word n w ∷ fs) r = ap (λ (is : List Item). items_in (gave_of r (Word n w)).given ++ is) (found_items fs (step_of r w).next)
found_items (Bad n ∷ fs) r = rw (found_items fs r)
found_items (Over ∷ fs) r = rw (found_items fs r)
found_items (End ∷ fs) r = rw (found_items fs r)

pub by_found : (input : List ℕ) (m : Lister) → all_of m input ≡ front_of m ++ all_bytes width (items_from m.reader (told (all_found m.scanner input)))
by_found input m = by_text input m ∙ ap (λ (is : List Item). front_of m ++ all_bytes width is) (found_items (all_found m.scanner input) m.reader)

-- ALL AT ONCE: what a fresh lister writes of an input, and of its end, is the listing of the input
pub all_at_once : (input : List ℕ) → all_of fresh input ≡ listing_of input
unfolding listing_of front_of
all_at_once input = by_found input fresh ∙ ap (λ (fs : List Found). front_of fresh ++ all_bytes width (items_from waiting fs)) (scanned input)
