-- A lister ends: a sixth byte that is no newline makes its line bad at once, each byte brings it nearer to its end, and behind that it is quiet.
use Prim.Native.Nat.{ℕ, ◌+◌, ◌≤◌, ◌<◌}
use mathlib.Core.Path.{◌≡◌, refl, ◌∙◌, ap}
use mathlib.Core.Bool.{Bool, true, false, cond}
use mathlib.Core.Logic.{◌⊎◌, inl, inr, ⊎_elim}
use mathlib.Core.List.{List, [], ◌∷◌}
use native.Mathlib.Omega.{arith}
use lib.Dec.{leb, eqb}
use lib.ListN.{length}
use borrow.Author.Tests.{ne_eqb, le-leb, leb-false}
use Rattle.numbers.proofs.Choices.{cases}
use Rattle.fold.proofs.Laws.{over_taken, stays}
use Rattle.listing.specs.Lines.{newline, said_by}
use Rattle.listing.specs.Scanning.{width, most_lines, line_in, ends, scan, unfinished, taken_of, scanned_byte, closed_of, end_of, passed, most_bytes}
use Rattle.listing.specs.Items.{items_from}
use Rattle.listing.specs.Feeding.{fed_byte, last_of, feeds, feed_in}
use Rattle.listing.specs.declared.Line.{Line}
use Rattle.listing.specs.declared.Line.TheVariants as line
use Rattle.listing.specs.declared.Found.TheVariants.{Nothing}
use Rattle.listing.specs.declared.Scan.{Scan}
use Rattle.listing.specs.declared.Scanner.{Scanner}
use Rattle.listing.specs.declared.Lister.{Lister}
use Rattle.listing.proofs.Scanned.{all_found, told, goes_on, bad_ends}
use Rattle.listing.proofs.Whole.{all_of, opened, ended_opened, by_found}

-- SIXTH: behind five bytes a byte that is no newline makes the line bad, and the listing ends
pub sixth_bad : (s : Scanner) (c : ℕ) → s.count ≡ 5 → (c ≡ newline → ⊥) → scanned_byte s c ≡ taken_of s line.Bad
unfolding scanned_byte
sixth_bad s c h n = rw (ne_eqb c newline n, le-leb 5 s.count (omega arith))

pub sixth_ends : (m : Lister) (c : ℕ) → m.scanner.count ≡ 5 → (c ≡ newline → ⊥) → (fed_byte m c).next.scanner.ended ≡ true
unfolding fed_byte
sixth_ends m c h n = ap (λ (k : Scan). k.next.ended) (sixth_bad m.scanner c h n) ∙ bad_ends m.scanner

-- a scanner that has ended stays so, and finds nothing more
abbrev pub Over : Scan → Type 0
Over k = (k.next.ended ≡ true) × (k.found ≡ Nothing)

line_over : (s : Scanner) (l : Line) → s.ended ≡ true → Over (taken_of s l)
unfolding taken_of
line_over s l h = rw h (refl, refl)

pub byte_over : (s : Scanner) (c : ℕ) → s.ended ≡ true → Over (scanned_byte s c)
unfolding scanned_byte
byte_over s c h = cases Over (eqb c newline) (λ _. line_over s (said_by (unfinished s)) h) (λ _. cases Over (leb 5 s.count) (λ _. line_over s line.Bad h) (λ _. (h, refl)))

closed_over : (s : Scanner) → s.ended ≡ true → Over (closed_of s)
unfolding closed_of
closed_over s h = cases Over (eqb s.count 0) (λ _. (h, refl)) (λ _. line_over s (said_by (unfinished s)) h)

ended_stays : (m : Lister) (c : ℕ) → m.scanner.ended ≡ true → (fed_byte m c).next.scanner.ended ≡ true
unfolding fed_byte
ended_stays m c h = (byte_over m.scanner c h).0

pub stays_ended : (input : List ℕ) (m : Lister) (room : ℕ) → m.scanner.ended ≡ true → (feed_in m input room).next.scanner.ended ≡ true
unfolding feed_in
stays_ended = stays feeds (λ (m : Lister). m.scanner.ended ≡ true) ended_stays

-- a byte ends the recording or brings the scanner on, and it stays within the lines
abbrev pub Within : Scanner → Type 0
Within s = (s.line ≤ most_lines) × (s.count ≤ 5)

abbrev pub On : Scanner → Scanner → Type 0
On s next = (next.ended ≡ true) ⊎ ((passed s < passed next) × Within next)

line_on : (s : Scanner) (l : Line) → Within s → On s (taken_of s l).next
unfolding taken_of
line_on s l h = cases (λ (k : Scan). On s k.next) s.ended (λ _. inl refl) (λ _. go (ends (line_in width s.line l)) (goes_on s.line l))
  where
    go : (t : Bool) → (t ≡ false → s.line < most_lines) → On s (scan (cond t s.line (s.line + 1)) t Nothing).next
    go true k = inl refl
    go false k = inr (omega (arith, k refl), (omega (arith, k refl), omega arith))

pub byte_on : (s : Scanner) (c : ℕ) → Within s → On s (scanned_byte s c).next
unfolding scanned_byte
byte_on s c h =
    let P : Scan → Type 0 = λ k. On s k.next in
    cases P (eqb c newline) (λ _. line_on s (said_by (unfinished s)) h)
    (λ _. cases P (leb 5 s.count) (λ _. line_on s line.Bad h) (λ e. let k = leb-false 5 s.count e in inr (omega arith, (h.0, omega arith))))

-- what bytes do to the scanner: one that has ended stays so, and another ends or is brought on by their number
abbrev Brought : Scanner → ℕ → Scanner → Type 0
Brought s taken next = (s.ended ≡ true → next.ended ≡ true) × (Within s → (next.ended ≡ true) ⊎ ((passed s + taken ≤ passed next) × Within next))

pub piece_on : (input : List ℕ) (m : Lister) (room : ℕ) → let f = feed_in m input room in
    Within m.scanner → (f.next.scanner.ended ≡ true) ⊎ ((passed m.scanner + f.taken ≤ passed f.next.scanner) × Within f.next.scanner)
unfolding feed_in fed_byte
piece_on input m room =
    (over_taken feeds (λ m input texts next. Brought m.scanner (length texts) next.scanner) (λ m. (λ e. e, λ h. inr (omega arith, h)))
    (λ m c input texts next z ih. (
      λ e. ih.0 (ended_stays m c e),
      λ h. ⊎_elim (λ e. inl (ih.0 e)) (λ q. ⊎_elim inl (λ k. inr (omega (arith, k.0, q.0), k.1)) (ih.1 q.1)) (byte_on m.scanner c h),
    ))
    input m room).1

-- so many bytes no scanner has passed
pub never_passed : (s : Scanner) → Within s → passed s < most_bytes
never_passed s h = omega arith

-- QUIET: a lister that has ended writes nothing more
pub none_told : (input : List ℕ) (s : Scanner) → s.ended ≡ true → told (all_found s input) ≡ []
unfolding all_found end_of
none_told [] s h = let k = closed_over s h in rw (k.1, k.0)
none_told (c ∷ cs) s h = let k = byte_over s c h in rw k.1 (none_told cs (scanned_byte s c).next k.0)

pub quiet : (input : List ℕ) (m : Lister) → m.scanner.ended ≡ true → all_of m input ≡ []
unfolding items_from
quiet input m h = by_found input m ∙ rw (opened m (ended_opened m.scanner h), none_told input m.scanner h)

-- the end ends the listing
pub end_ends : (m : Lister) → (last_of m).next.scanner.ended ≡ true
unfolding last_of end_of
end_ends m = refl
