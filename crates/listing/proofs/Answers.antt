-- Two answers that meet a promise are equal, and so is every byte of the slice.
use Rattle.std.proofs.Common.{Option}
use Prim.Native.Nat.{ℕ}
use mathlib.Core.Path.{◌≡◌, sym, ◌∙◌, ap, ap₂}
use mathlib.Core.Bool.{Bool}
use mathlib.Core.List.{List}
use Rattle.wire.specs.declared.refusal.Refusal.{Refusal}
use Rattle.wire.proofs.Numbered.{if_apart}
use Rattle.listing.specs.declared.Listed as listings
use Rattle.listing.specs.Promises.{Listed, Whole, whole, listed_in, LinePromise, FreshPromise, FeedPromise, FinishPromise, ByteScanPromise, ClosedScanPromise, EndScanPromise, ReportedPromise, ItemLinePromise, LineNumberPromise, SalvagePromise}
use Rattle.listing.specs.declared.Scan.{Scan}
use Rattle.listing.specs.declared.Scanner.{Scanner}
use Rattle.text.specs.declared.Text.{Text}
use Rattle.wire.specs.declared.Report.{Report}
use Rattle.listing.specs.declared.Item.{Item}
use Rattle.listing.specs.declared.Lister.{Lister}

parts : {a b : Listed} {left right : List ℕ} → whole a left ≡ whole b right → (a ≡ b) × (left ≡ right)
parts e = (ap (λ (w : Whole). w.listed) e, ap (λ (w : Whole). w.out) e)

pub one_fresh : {a b : Lister} → FreshPromise a → FreshPromise b → a ≡ b
one_fresh p q = p ∙ sym q

pub one_line : (g : Option Item) (salvage : Bool) (w : ℕ) {a b : Text} → LinePromise g salvage w a → LinePromise g salvage w b → a ≡ b
one_line g salvage w p q = p ∙ sym q

pub one_feed : (m : Lister) (input before : List ℕ) {a b : Listed} {left right : List ℕ} → FeedPromise m input before a left → FeedPromise m input before b right
    → (a ≡ b) × (left ≡ right)
one_feed m input before p q = parts (p ∙ sym q)

pub one_finish : (m : Lister) (before : List ℕ) {a b : Listed} {left right : List ℕ} → FinishPromise m before a left → FinishPromise m before b right
    → (a ≡ b) × (left ≡ right)
one_finish m before p q = parts (p ∙ sym q)

-- of the scanner
pub one_byte_scan : (s : Scanner) (b : ℕ) {x y : Scan} → ByteScanPromise s b x → ByteScanPromise s b y → x ≡ y
one_byte_scan s b p q = p ∙ sym q

pub one_closed_scan : (s : Scanner) {x y : Scan} → ClosedScanPromise s x → ClosedScanPromise s y → x ≡ y
one_closed_scan s p q = p ∙ sym q

pub one_end_scan : (s : Scanner) {x y : Scan} → EndScanPromise s x → EndScanPromise s y → x ≡ y
one_end_scan s p q = p ∙ sym q

-- of items and of a salvage's first line
pub one_reported : (letter n : ℕ) (report : Report) {a b : Item} → ReportedPromise letter n report a → ReportedPromise letter n report b → a ≡ b
one_reported letter n report p q = p ∙ sym q

pub one_item_line : (item : Item) {a b : Text} → ItemLinePromise item a → ItemLinePromise item b → a ≡ b
one_item_line item p q = p ∙ sym q

pub one_line_number : (item : Item) {a b : Option ℕ} → LineNumberPromise item a → LineNumberPromise item b → a ≡ b
one_line_number item p q = p ∙ sym q

pub one_salvage : {a b : Text} → SalvagePromise a → SalvagePromise b → a ≡ b
one_salvage p q = p ∙ sym q

-- What `feed` and `finish` give is told apart by what their promises read of it: so that is one, too.
pub listed_apart : (a b : listings.Listed) → listed_in a ≡ listed_in b → a ≡ b
listed_apart a b e =
    let given : Listed → Option Refusal → listings.Listed = λ t why. record { refusal = why; next = t.next; taken = t.taken; written = t.written; ended = t.ended } in
    ap₂ given e (if_apart a.refusal b.refusal (ap (λ (t : Listed). t.refusal) e))
