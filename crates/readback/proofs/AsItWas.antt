-- WHATEVER THE LISTER WRITES OF AN INPUT COMES BACK AS IT WAS; and what is accepted, printed again, is the same bytes.
use Rattle.std.proofs.Common.{None, Some}
use Prim.Native.Nat.{ℕ, suc, ◌+◌, ◌<◌, ◌≤◌, ◌^◌}
use mathlib.Core.Path.{◌≡◌, refl, sym, ◌∙◌, ap}
use mathlib.Core.Bool.{Bool, true, false, cond}
use mathlib.Core.List.{List, [], ◌∷◌, ◌++◌, append-nil, append_assoc}
use native.Mathlib.Omega.{arith}
use lib.Dec.{ltb, eqb}
use lib.IntN.{ℤ, pos, negsuc, nat_abs}
use lib.ListN.{length, length-append}
use lib.Seq.{take_at, drop_at}
use borrow.Author.Tests.{lt-ltb, le-ltb}
use Rattle.text.specs.Lengths.{length_to}
use Rattle.listing.specs.Lines.{newline, lines_in}
use Rattle.listing.specs.Scanning.{most_at, width}
use Rattle.listing.specs.Printing.{fields_of, field_of, Form, form_of, head_of, line_of, first_letter, opening_of, all_bytes}
use Rattle.listing.specs.Listing.{items_at, listing_at, listing_of}
use Rattle.listing.specs.declared.Field.{Field}
use Rattle.listing.specs.declared.Item.{Item}
use Rattle.listing.specs.declared.Item.TheVariants as item
use Rattle.listing.proofs.Ordered.{Ordered, ordered}
use Rattle.listing.proofs.Widths.{same_at_four_and_six}
use Rattle.readback.specs.Fields.{high}
use Rattle.readback.specs.Items.{Sixteen, Numbered, Proper, item_in, width_in}
use Rattle.readback.specs.Steps.{width_known, fresh, opened_at, passed_by, above, faulty, opens, said, step_of, has_ended, of_salvage}
use Rattle.readback.specs.Pieces.{cut_in, is_whole, body_of}
use Rattle.readback.specs.Whole.{Reading, reading, reading_from, reading_of, printed, Listed}
use Rattle.readback.specs.declared.Readback.{Readback}
use Rattle.readback.proofs.Cuts.{cut_line}
use Rattle.readback.proofs.Goodness.{known_few, step_first, step_item, mark_is}
use Rattle.readback.proofs.Grammar.{past, field_above, read_item, read_width, read_kind}

-- a line has no newline but its last byte
fields_above : (w : ℕ) (fs : List Field) (b : List ℕ) → length_to newline (fields_of w fs ++ b) ≡ length (fields_of w fs) + length_to newline b
fields_above w [] b = omega arith
fields_above w (f ∷ fs) b =
    let a = field_of w f in
    let rest = fields_of w fs in
    ap (λ (l : List ℕ). suc (length_to newline l)) (append_assoc a rest b)
    ∙ (ap suc (past newline (omega arith) a (rest ++ b) (field_above w f) ∙ ap (λ (n : ℕ). length a + n) (fields_above w fs b)) ∙ omega (arith, length-append a rest))

module _ (w : ℕ) (f : Form) (not_newline : eqb f.letter newline ≡ false) (rest : List ℕ) where
  abbrev head : List ℕ
  head = head_of w f

  abbrev line : List ℕ
  line = line_of w f

  line_long : length_to newline (line ++ rest) ≡ length head
  unfolding line_of
  line_long =
      rw (append_assoc (fields_of w f.fields) (newline ∷ []) rest, not_newline) (ap suc (fields_above w f.fields (newline ∷ rest) ∙ omega arith))

  line_size : length line ≡ suc (length head)
  unfolding line_of
  line_size = length-append head (newline ∷ []) ∙ omega arith

  -- it is the first line of what it stands in front of
  pub cut_first : cut_in (line ++ rest) ≡ line ∷ cut_in rest
  cut_first =
      let long : length_to newline (line ++ rest) < length (line ++ rest) = omega (arith, line_long, line_size, length-append line rest) in
      let n : suc (length_to newline (line ++ rest)) ≡ length line = omega (arith, line_long, line_size) in
      cut_line (line ++ rest) long ∙ rw (n, take_at line rest (length line) refl, drop_at line rest (length line) refl)

module _ (w : ℕ) (f : Form) (not_newline : eqb f.letter newline ≡ false) where
  alone : length_to newline (line_of w f) ≡ length (head_of w f)
  alone = ap (length_to newline) (sym (append-nil (line_of w f))) ∙ line_long w f not_newline []

  pub line_whole : is_whole (line_of w f) ≡ true
  line_whole = lt-ltb (length_to newline (line_of w f)) (length (line_of w f)) (omega (arith, alone, line_size w f not_newline []))

  pub line_body : body_of (line_of w f) ≡ head_of w f
  unfolding line_of
  line_body = rw alone (take_at (head_of w f) (newline ∷ []) (length (head_of w f)) refl)

pub letter_plain : (i : Item) → eqb (form_of i).letter newline ≡ false
letter_plain (item.R n b x y) = refl
letter_plain (item.D n k) = refl
letter_plain (item.H k) = refl
letter_plain (item.E n) = refl
letter_plain item.Over = refl

-- a line of an item, in its place
module _ (p : ℕ) (r : Readback) (at : r.width ≡ suc p) (on : has_ended r ≡ false) (begun : r.lines ≡ 0 → ⊥) (i : Item) (proper : Proper (suc p) i) (up : above r.last i ≡ true) where
  pub item_step : step_of r (body_of (line_of (suc p) (form_of i))) ≡ record { good = true; next = passed_by r i; given = Some i }
  item_step =
      ap (step_of r) (line_body (suc p) (form_of i) (letter_plain i)) ∙ step_item r (head_of (suc p) (form_of i)) on begun
      ∙ ap (said r) (ap (λ (w : ℕ). item_in w (head_of (suc p) (form_of i))) at ∙ read_item p i proper)
      ∙ ap (λ (t : Bool). cond t (record { good = true; next = passed_by r i; given = Some i }) (faulty r)) up

  item_goes : (ls : List (List ℕ)) → let later = reading_from (passed_by r i) ls in reading_from r (line_of (suc p) (form_of i) ∷ ls) ≡ reading later.salvage (i ∷ later.items) later.fault
  unfolding reading_from
  item_goes ls = rw (line_whole (suc p) (form_of i) (letter_plain i), item_step)

-- items one behind the other
items_back : (p : ℕ) (is : List Item) (r : Readback) → r.width ≡ suc p → has_ended r ≡ false → (r.lines ≡ 0 → ⊥) → Listed (suc p) r.last is
    → reading_from r (cut_in (all_bytes (suc p) is)) ≡ reading (of_salvage r) is 0
unfolding reading_from cut_in
items_back p [] r at on b h = absurd h
items_back p (item.R n k x y ∷ is) r at on b h =
    let i = item.R n k x y in
    ap (reading_from r) (cut_first (suc p) (form_of i) refl (all_bytes (suc p) is)) ∙ item_goes p r at on b i h.0 (lt-ltb r.last n h.1) (cut_in (all_bytes (suc p) is))
    ∙ ap (λ (k : Reading). reading k.salvage (i ∷ k.items) k.fault) (items_back p is (passed_by r i) at refl (λ z. omega arith) h.2)
items_back p (item.D n k ∷ is) r at on b h =
    let i = item.D n k in
    ap (reading_from r) (cut_first (suc p) (form_of i) refl (all_bytes (suc p) is)) ∙ item_goes p r at on b i h.0 (lt-ltb r.last n h.1) (cut_in (all_bytes (suc p) is))
    ∙ ap (λ (k : Reading). reading k.salvage (i ∷ k.items) k.fault) (items_back p is (passed_by r i) at refl (λ z. omega arith) h.2)
items_back p (item.H k ∷ is) r at on b h = rw h.1 (ap (reading_from r) (cut_first (suc p) (form_of (item.H k)) refl []) ∙ item_goes p r at on b (item.H k) h.0 refl [])
items_back p (item.E n ∷ is) r at on b h = rw h.2 (ap (reading_from r) (cut_first (suc p) (form_of (item.E n)) refl []) ∙ item_goes p r at on b (item.E n) h.0 (lt-ltb r.last n h.1) [])
items_back p (item.Over ∷ is) r at on b h = rw h (ap (reading_from r) (cut_first (suc p) (form_of item.Over) refl []) ∙ item_goes p r at on b item.Over tt refl [])

-- the first line
pub first_plain : (s : Bool) → eqb (first_letter s) newline ≡ false
first_plain true = refl
first_plain false = refl

pub first_step : (s : Bool) (w : ℕ) → width_known w ≡ true → step_of fresh (body_of (line_of w (opening_of s w))) ≡ record { good = true; next = opened_at s w; given = None }
first_step s w h =
    let few : w ≤ high = omega (arith, known_few w h) in
    ap (step_of fresh) (line_body w (opening_of s w) (first_plain s)) ∙ step_first fresh (head_of w (opening_of s w)) refl refl
    ∙ ap (λ (t : Bool). opens fresh t (width_in (head_of w (opening_of s w)))) (read_kind s w) ∙ ap (opens fresh s) (read_width s w few)
    ∙ ap (λ (t : Bool). cond t (record { good = true; next = opened_at s w; given = None }) (faulty fresh)) h

first_goes : (s : Bool) (w : ℕ) → width_known w ≡ true → (ls : List (List ℕ)) → reading_from fresh (line_of w (opening_of s w) ∷ ls) ≡ reading_from (opened_at s w) ls
unfolding reading_from
first_goes s w h ls = rw (line_whole w (opening_of s w) (first_plain s), first_step s w h)

-- PRINTED THEN READ: items of a listing, printed at a known width, come back as they were, without a fault
pub printed_read : (s : Bool) (p : ℕ) (is : List Item) → width_known (suc p) ≡ true → Listed (suc p) 0 is → reading_of (printed s (suc p) is) ≡ reading s is 0
unfolding reading_of printed
printed_read s p is k h =
    ap (reading_from fresh) (cut_first (suc p) (opening_of s (suc p)) (first_plain s) (all_bytes (suc p) is)) ∙ first_goes s (suc p) k (cut_in (all_bytes (suc p) is))
    ∙ items_back p is (opened_at s (suc p)) refl refl (λ z. omega arith) h ∙ ap (λ (t : Bool). reading t is 0) (mark_is s)

-- the items of the lister are such
four_digits : (x : ℤ) → nat_abs x < 10 ^ 4 → Sixteen x
four_digits (pos n) h = le-ltb 32767 n (omega arith)
four_digits (negsuc n) h = let e : ltb 32767 n ≡ false = le-ltb 32767 n (omega arith) in rw e

module _ (w : ℕ) (bound : (n : ℕ) → n ≤ most_at w → Numbered w n) where
  pub ordered_listed : (is : List Item) (last : ℕ) → Ordered (most_at w) last is → Listed w last is
  ordered_listed [] last h = absurd h
  ordered_listed (item.R n b x y ∷ is) last h = ((bound n h.0.1, four_digits x h.1, four_digits y h.2), h.0.0, ordered_listed is n h.3)
  ordered_listed (item.D n k ∷ is) last h = ((bound n h.0.1, h.1, omega (arith, h.2)), h.0.0, ordered_listed is n h.3)
  ordered_listed (item.H k ∷ is) last h = (omega (arith, h.0), h.1)
  ordered_listed (item.E n ∷ is) last h = (bound n h.0.1, h.0.0, h.1)
  ordered_listed (item.Over ∷ is) last h = h

-- AS IT WAS: the listing of every input comes back as its items, without a fault, at either width; and so does what a lister writes
pub as_it_was_at_four : (input : List ℕ) → reading_of (listing_at 4 input) ≡ reading false (items_at 4 input) 0
unfolding printed
as_it_was_at_four input = printed_read false 3 (items_at 4 input) refl (ordered_listed 4 (λ n h. (omega (arith, h), omega (arith, h))) (items_at 4 input) 0 (ordered 4 (omega arith) input))

pub as_it_was : (input : List ℕ) → reading_of (listing_of input) ≡ reading false (items_at width input) 0
unfolding listing_of printed
as_it_was input =
    printed_read false 5 (items_at width input) refl (ordered_listed width (λ n h. (omega (arith, h), omega (arith, h))) (items_at width input) 0 (ordered width (omega arith) input))

-- THE SAME ITEMS: the listings of an input of at most 9,999 lines at both widths say the same
pub same_at_both : (input : List ℕ) → length (lines_in input) ≤ most_at 4 → reading_of (listing_at 4 input) ≡ reading_of (listing_at 6 input)
unfolding listing_of
same_at_both input h = as_it_was_at_four input ∙ ap (λ (is : List Item). reading false is 0) (same_at_four_and_six input h) ∙ sym (as_it_was input)
