-- Wrong answers, two or more for each promise, that it does not permit. In the comments a blank stands for a tab and / for a newline.
use Rattle.std.proofs.Common.{None, Some}
use Prim.Native.Nat.{ℕ}
use mathlib.Core.Path.{ap}
use mathlib.Core.Bool.{Bool, true, false, true≢false}
use mathlib.Core.List.{List, [], ◌∷◌, ◌++◌}
use native.Mathlib.Omega.{arith}
use lib.IntN.{pos, nat_abs}
use lib.ListN.{get_or, replicate}
use Rattle.fold.specs.Fold.{run}
use Rattle.text.specs.Decimals.{digits_of, size_in, places_of, decimal_of}
use Rattle.text.specs.Growth.{grown, text_of}
use Rattle.text.specs.declared.Text.{Text}
use Rattle.frames.specs.Words.{silence}
use Rattle.wire.specs.Numbers.{success, bad_state}
use Rattle.wire.specs.Reading.{report}
use Rattle.listing.specs.Lines.{mark_in, said_by}
use Rattle.listing.specs.Scanning.{scan, unfed, line_in, taken_of, scanned_byte, closed_of, end_of}
use Rattle.listing.specs.Scanning as scanner
use Rattle.listing.specs.Items.{gave_of}
use Rattle.listing.specs.Printing.{line_of}
use Rattle.listing.specs.Listing.{waiting}
use Rattle.listing.specs.Feeding.{fresh, passed_to, front_of, fed_byte, last_of, feed_in, finish_in, good}
use Rattle.listing.specs.Promises.{Listed, Whole, feed_of, finish_of, LinePromise, FreshPromise, FeedPromise, FinishPromise, ByteScanPromise, ClosedScanPromise, EndScanPromise, ReportedPromise, ItemLinePromise, LineNumberPromise, SalvagePromise}
use Rattle.listing.specs.declared.Scanner.{Scanner}
use Rattle.listing.specs.declared.Scan.{Scan}
use Rattle.listing.specs.declared.Found.{Found}
use Rattle.listing.specs.declared.Found.TheVariants as found
use Rattle.listing.specs.declared.Middle.{Middle}
use Rattle.listing.specs.declared.Middle.TheVariants.{Up, Down, Unknown}
use Rattle.listing.specs.declared.Buttons.{Buttons}
use Rattle.listing.specs.declared.Item.{Item}
use Rattle.listing.specs.declared.Item.TheVariants as item
use Rattle.listing.specs.declared.Lister.{Lister}
use Rattle.listing.proofs.Keeps.{fresh_is_good}
use Rattle.listing.proofs.Calls.{feeds, finishes}
use Rattle.listing.proofs.Refusals.{good_feed, good_finish}

-- what lines, the scanner and calls compute with
unfoldable printing : Unit {0}
unfolding grown line_of decimal_of digits_of places_of size_in
printing = tt

unfoldable scanning : Unit {0}
unfolding scanned_byte closed_of end_of taken_of line_in said_by mark_in
scanning = tt

unfoldable computing : Unit {0}
unfolding printing scanning feed_in finish_in last_of run fed_byte front_of gave_of
computing = tt

-- what a call gives back: its number, the lister, the bytes taken and written, and whether it has ended
abbrev gives : ℕ → Lister → ℕ → ℕ → Bool → Listed
gives n next taken written ended = record { refusal = n; next = next; taken = taken; written = written; ended = ended }

-- a lister by its scanner, where no format has come
abbrev by : Scanner → Lister
by s = record { scanner = s; reader = waiting }

-- a scanner behind n lines, which holds a byte
abbrev holding : ℕ → ℕ → Scanner
holding n byte = record { line = n; ended = false; held = byte ∷ replicate 4 0; count = 1 }

-- the last digit of a line number of six, and those in front of it
abbrev six : ℕ → List ℕ
six digit = 48 ∷ 48 ∷ 48 ∷ 48 ∷ 48 ∷ digit ∷ []

-- D 2 1 at width 4 with six digits; and the first line of a salvage as that of a listing, and the other way round
pub line_too_wide : LinePromise (Some (item.D 2 1)) false 4 (text_of (68 ∷ 9 ∷ six 50 ++ 9 ∷ 49 ∷ 10 ∷ [])) → ⊥
unfolding printing
line_too_wide e = omega (arith, ap (λ (t : Text). t.len) e)

pub line_not_marked : LinePromise None true 4 (text_of (76 ∷ 9 ∷ 52 ∷ 10 ∷ [])) → ⊥
unfolding printing
line_not_marked e = omega (arith, ap (λ (t : Text). get_or t.bytes 0 0) e)

pub line_wrongly_marked : LinePromise None false 4 (text_of (83 ∷ 9 ∷ 52 ∷ 10 ∷ [])) → ⊥
unfolding printing
line_wrongly_marked e = omega (arith, ap (λ (t : Text). get_or t.bytes 0 0) e)

-- a fresh lister that has ended; and one behind a line, so that the first line is left out
pub fresh_ended : FreshPromise (by (scan 0 true found.Nothing).next) → ⊥
fresh_ended e = true≢false (ap (λ (m : Lister). m.scanner.ended) e)

pub fresh_behind_a_line : FreshPromise (passed_to 1 waiting) → ⊥
fresh_behind_a_line e = omega (arith, ap (λ (m : Lister). m.scanner.line) e)

-- F, the first byte: without L 6/; and taken with three places, where a part of L 6/ is written
pub feed_opening_left_out : FeedPromise fresh (70 ∷ []) (replicate 4 0) (gives success (by (holding 0 70)) 1 0 false) (replicate 4 0) → ⊥
unfolding computing
feed_opening_left_out e = omega (arith, ap (λ (w : Whole). w.listed.written) (feeds fresh _ _ _ _ fresh_is_good e))

pub feed_part_of_a_line : FeedPromise fresh (70 ∷ []) (replicate 3 0) (gives success (by (holding 0 70)) 1 3 false) (76 ∷ 9 ∷ 54 ∷ []) → ⊥
unfolding computing
feed_part_of_a_line e = omega (arith, ap (λ (w : Whole). w.listed.taken) (feeds fresh _ _ _ _ fresh_is_good e))

-- a blank line as the first, told as bad line 2: L 6/E 000002/
abbrev ended : Lister
ended = by (scan 0 true found.Nothing).next

pub feed_line_off_by_one : FeedPromise fresh (10 ∷ []) (replicate 13 0) (gives success ended 1 13 true) (76 ∷ 9 ∷ 54 ∷ 10 ∷ 69 ∷ 9 ∷ six 50 ++ 10 ∷ []) → ⊥
unfolding computing
feed_line_off_by_one e = omega (arith, ap (λ (w : Whole). get_or w.out 11 0) (feeds fresh _ _ _ _ fresh_is_good e))

-- a fresh lister refused, whatever it is fed; and one behind more lines than there are that writes, though it is refused
pub feed_refused : (input before : List ℕ) → FeedPromise fresh input before (gives bad_state fresh 0 0 false) before → ⊥
feed_refused input before e = omega (arith, good_feed fresh _ _ _ _ fresh_is_good e)

abbrev beyond : Lister
beyond = passed_to 1000000 waiting

pub feed_refused_writes : FeedPromise beyond (70 ∷ []) (0 ∷ []) (gives bad_state beyond 0 0 false) (76 ∷ []) → ⊥
unfolding feed_of good scanner.good
feed_refused_writes e = omega (arith, ap (λ (w : Whole). get_or w.out 0 0) e)

-- the end of an empty input: without E 000001/; and with four places, where L 6/ is written without it
pub finish_bad_line_left_out : FinishPromise fresh (replicate 13 0) (gives success ended 0 4 true) (76 ∷ 9 ∷ 54 ∷ 10 ∷ replicate 9 0) → ⊥
unfolding computing
finish_bad_line_left_out e = omega (arith, ap (λ (w : Whole). w.listed.written) (finishes fresh _ _ _ fresh_is_good e))

pub finish_without_room : FinishPromise fresh (replicate 4 0) (gives success ended 0 4 true) (76 ∷ 9 ∷ 54 ∷ 10 ∷ []) → ⊥
unfolding computing
finish_without_room e = omega (arith, ap (λ (w : Whole). w.listed.written) (finishes fresh _ _ _ fresh_is_good e))

-- a fresh lister refused at the end; and one behind too many lines that writes, though it is refused
pub finish_refused : (before : List ℕ) → FinishPromise fresh before (gives bad_state fresh 0 0 false) before → ⊥
finish_refused before e = omega (arith, good_finish fresh _ _ _ fresh_is_good e)

pub finish_refused_writes : FinishPromise beyond (0 ∷ []) (gives bad_state beyond 0 0 false) (72 ∷ []) → ⊥
unfolding finish_of good scanner.good
finish_refused_writes e = omega (arith, ap (λ (w : Whole). get_or w.out 0 0) e)

-- what was found: which it is, and the number of its line, 0 where it has none
abbrev kind_of : Found → ℕ
kind_of found.Nothing = 0
kind_of (found.Format f) = 1
kind_of (found.Word n w) = 2
kind_of (found.Bad n) = 3
kind_of found.Over = 4
kind_of found.End = 5

abbrev number_of : Found → ℕ
number_of found.Nothing = 0
number_of (found.Format f) = 0
number_of (found.Word n w) = n
number_of (found.Bad n) = n
number_of found.Over = 0
number_of found.End = 0

-- Q/ behind one line, found on line 1; and a sixth byte of B 128, passed over
pub byte_line_off_by_one : ByteScanPromise (holding 1 81) 10 (scan 2 false (found.Word 1 silence)) → ⊥
unfolding scanning
byte_line_off_by_one e = omega (arith, ap (λ (s : Scan). number_of s.found) e)

abbrev full : Scanner
full = record { line = 1; ended = false; held = 66 ∷ 9 ∷ 49 ∷ 50 ∷ 56 ∷ []; count = 5 }

pub byte_sixth_passed_over : ByteScanPromise full 48 (record { next = full; found = found.Nothing }) → ⊥
unfolding scanning
byte_sixth_passed_over e = omega (arith, ap (λ (s : Scan). kind_of s.found) e)

-- Q without its newline, lost; and behind a whole line a blank one, told as bad
pub closed_last_line_lost : ClosedScanPromise (holding 1 81) (scan 1 false found.Nothing) → ⊥
unfolding scanning
closed_last_line_lost e = omega (arith, ap (λ (s : Scan). kind_of s.found) e)

pub closed_blank_line : ClosedScanPromise (scan 1 false found.Nothing).next (scan 1 true (found.Bad 2)) → ⊥
unfolding scanning
closed_blank_line e = omega (arith, ap (λ (s : Scan). kind_of s.found) e)

-- an empty input that ends well; and an end that is told again
pub end_of_nothing : EndScanPromise unfed (scan 0 true found.End) → ⊥
unfolding scanning
end_of_nothing e = omega (arith, ap (λ (s : Scan). kind_of s.found) e)

pub end_again : EndScanPromise (scan 1 true found.Nothing).next (scan 1 true found.End) → ⊥
unfolding scanning
end_again e = omega (arith, ap (λ (s : Scan). kind_of s.found) e)

-- of a report: how far x goes, and what the middle button is; 0 where it is no report
abbrev x_of : Item → ℕ
x_of (item.D n k) = 0
x_of (item.R n b x y) = nat_abs x
x_of (item.H k) = 0
x_of (item.E n) = 0
x_of item.Over = 0

abbrev middle_number : Middle → ℕ
middle_number Up = 1
middle_number Down = 2
middle_number Unknown = 3

abbrev middle_of : Item → ℕ
middle_of (item.D n k) = 0
middle_of (item.R n b x y) = middle_number b.middle
middle_of (item.H k) = 0
middle_of (item.E n) = 0
middle_of item.Over = 0

abbrev buttons : Middle → Buttons
buttons m = record { left = false; middle = m; right = false }

-- x and y the wrong way round; the first pair of U alone; and the middle button of V told as up
pub reported_turned : ReportedPromise 0x53 4 (report 0 (pos 5) (pos 3)) (item.R 4 (buttons Up) (pos 3) (pos 5)) → ⊥
reported_turned e = omega (arith, ap x_of e)

pub reported_first_pair : ReportedPromise 0x55 6 (record { buttons = 0; x1 = pos 3; y1 = pos 0; x2 = pos 4; y2 = pos 0 }) (item.R 6 (buttons Up) (pos 3) (pos 0)) → ⊥
reported_first_pair e = omega (arith, ap x_of e)

pub reported_middle_up : ReportedPromise 0x56 4 (report 0 (pos 5) (pos 3)) (item.R 4 (buttons Up) (pos 5) (pos 3)) → ⊥
reported_middle_up e = omega (arith, ap middle_of e)

-- E 0001/, with four digits; and R 000004 --- 3 5/, where x is 5 and y 3
pub line_number_of_end : LineNumberPromise (item.H 3) (Some 3) → ⊥
line_number_of_end e = cc

pub line_number_left_out : LineNumberPromise (item.E 4) None → ⊥
line_number_left_out e = cc

pub item_line_narrow : ItemLinePromise (item.E 1) (text_of (69 ∷ 9 ∷ 48 ∷ 48 ∷ 48 ∷ 49 ∷ 10 ∷ [])) → ⊥
unfolding printing
item_line_narrow e = omega (arith, ap (λ (t : Text). t.len) e)

pub item_line_turned : ItemLinePromise (item.R 4 (buttons Up) (pos 5) (pos 3)) (text_of (82 ∷ 9 ∷ six 52 ++ 9 ∷ 45 ∷ 45 ∷ 45 ∷ 9 ∷ 51 ∷ 9 ∷ 53 ∷ 10 ∷ [])) → ⊥
unfolding printing
item_line_turned e = omega (arith, ap (λ (t : Text). get_or t.bytes 13 0) e)

-- a salvage that begins as a listing does; and one at width 4
pub salvage_as_listing : SalvagePromise (text_of (76 ∷ 9 ∷ 54 ∷ 10 ∷ [])) → ⊥
unfolding printing
salvage_as_listing e = omega (arith, ap (λ (t : Text). get_or t.bytes 0 0) e)

pub salvage_narrow : SalvagePromise (text_of (83 ∷ 9 ∷ 52 ∷ 10 ∷ [])) → ⊥
unfolding printing
salvage_narrow e = omega (arith, ap (λ (t : Text). get_or t.bytes 2 0) e)
