-- Good listers: a fresh one is good, and every call of a good one gives a good one.
use Prim.Native.Nat.{ℕ, ◌+◌, ◌≤◌, ◌<◌}
use mathlib.Core.Path.{◌≡◌, refl}
use mathlib.Core.Bool.{Bool, true, false, cond}
use mathlib.Core.List.{List}
use native.Mathlib.Omega.{arith}
use lib.Dec.{leb, ltb, eqb}
use lib.ListN.{length}
use borrow.Author.Tests.{leb-true, leb-false, le-leb}
use Rattle.numbers.proofs.Tested.{left, right}
use Rattle.numbers.proofs.Choices.{cases, both}
use Rattle.fold.proofs.Laws.{stays}
use Rattle.wire.specs.Line.{named_by, known}
use Rattle.reader.specs.Good as reader
use Rattle.reader.specs.Promises.{fresh_of, step_of}
use Rattle.reader.specs.declared.Reader.{Reader}
use Rattle.reader.proofs.Goodness as read
use Rattle.listing.specs.Lines.{newline, said_by}
use Rattle.listing.specs.Scanning as scanner
use Rattle.listing.specs.Scanning.{width, most_lines, line_in, ends, unfinished, taken_of, scanned_byte, closed_of, end_of}
use Rattle.listing.specs.Items.{gave_of}
use Rattle.listing.specs.Feeding.{Feed, fresh, closed, fed_byte, last_of, feeds, feed_in, finish_in, good}
use Rattle.listing.specs.declared.Line.{Line}
use Rattle.listing.specs.declared.Line.TheVariants as line
use Rattle.listing.specs.declared.Found.{Found}
use Rattle.listing.specs.declared.Found.TheVariants as found
use Rattle.listing.specs.declared.Scan.{Scan}
use Rattle.listing.specs.declared.Scanner.{Scanner}
use Rattle.listing.specs.declared.Lister.{Lister}
use Rattle.listing.proofs.Scanned.{goes_on}
use Rattle.listing.proofs.Ended.{Within}

-- a good scanner is within the lines
within : (s : Scanner) → scanner.good s ≡ true → Within s
unfolding scanner.good
within s g = (leb-true _ _ (left (leb s.line most_lines) (leb s.count 5) g), leb-true _ _ (right (leb s.line most_lines) (leb s.count 5) g))

made : (s : Scanner) → Within s → scanner.good s ≡ true
unfolding scanner.good
made s h = rw (le-leb s.line most_lines h.0, le-leb s.count 5 h.1)

-- and stays so
line_within : (s : Scanner) (l : Line) → Within s → Within (taken_of s l).next
unfolding taken_of
line_within s l h = cases (λ (k : Scan). Within k.next) s.ended (λ _. (h.0, omega arith)) (λ _. go (ends (line_in width s.line l)) (goes_on s.line l))
  where
    go : (t : Bool) → (t ≡ false → s.line < most_lines) → (cond t s.line (s.line + 1) ≤ most_lines) × (0 ≤ 5)
    go true k = (h.0, omega arith)
    go false k = (omega (arith, k refl), omega arith)

byte_within : (s : Scanner) (c : ℕ) → Within s → Within (scanned_byte s c).next
unfolding scanned_byte
byte_within s c h =
    let P : Scan → Type 0 = λ k. Within k.next in
    cases P (eqb c newline) (λ _. line_within s (said_by (unfinished s)) h)
    (λ _. cases P (leb 5 s.count) (λ _. line_within s line.Bad h) (λ e. (h.0, omega (arith, leb-false 5 s.count e))))

end_within : (s : Scanner) → Within s → Within (end_of (closed_of s).next).next
unfolding end_of closed_of
end_within s h = (cases (λ (k : Scan). k.next.line ≤ most_lines) (eqb s.count 0) (λ _. h.0) (λ _. (line_within s (said_by (unfinished s)) h).0), omega arith)

-- a good reader stays so, whatever is found
gave_good : (r : Reader) (f : Found) → reader.good r ≡ true → reader.good (gave_of r f).next ≡ true
unfolding gave_of
gave_good r found.Nothing g = g
gave_good r (found.Format letter) g = read.fresh_is_good letter (fresh_of letter) refl
gave_good r (found.Word n w) g = (read.step_stays_good r w (step_of r w) g refl).0
gave_good r (found.Bad n) g = g
gave_good r found.Over g = g
gave_good r found.End g = g

-- a good lister
module _ (m : Lister) (g : good m ≡ true) where
  pub kept : Within m.scanner
  unfolding good
  kept = within m.scanner (left (scanner.good m.scanner) (reader.good m.reader) g)

  reads : reader.good m.reader ≡ true
  unfolding good
  reads = right (scanner.good m.scanner) (reader.good m.reader) g

pub fresh_is_good : good fresh ≡ true
unfolding good fresh_of known named_by
fresh_is_good = both _ _ (made fresh.scanner (omega arith, omega arith)) (read.fresh_is_good 0x55 (fresh_of 0x55) refl)

pub byte_stays_good : (m : Lister) (c : ℕ) → good m ≡ true → good (fed_byte m c).next ≡ true
unfolding good fed_byte
byte_stays_good m c g = both _ _ (made _ (byte_within m.scanner c (kept m g))) (gave_good m.reader (scanned_byte m.scanner c).found (reads m g))

pub feed_stays_good : (input : List ℕ) (m : Lister) (room : ℕ) → good m ≡ true → good (feed_in m input room).next ≡ true
unfolding feed_in
feed_stays_good = stays feeds (λ (m : Lister). good m ≡ true) byte_stays_good

pub closed_reads : (m : Lister) → good m ≡ true → reader.good (closed m).reader ≡ true
closed_reads m g = gave_good m.reader (closed_of m.scanner).found (reads m g)

last_good : (m : Lister) → good m ≡ true → good (last_of m).next ≡ true
unfolding good last_of
last_good m g = both _ _ (made _ (end_within m.scanner (kept m g))) (gave_good (closed m).reader (end_of (closed_of m.scanner).next).found (closed_reads m g))

pub finish_stays_good : (m : Lister) (room : ℕ) → good m ≡ true → good (finish_in m room).next ≡ true
unfolding finish_in
finish_stays_good m room g = cases (λ (f : Feed). good f.next ≡ true) (ltb room (length (last_of m).text)) (λ _. g) (λ _. last_good m g)
