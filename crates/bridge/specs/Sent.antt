-- What becomes of reports that came in, one after the other.
use Rattle.std.specs.Prelude.{ℕ, ◌+◌, ◌*◌, ◌≡◌, Bool, not, cond, ◌&&◌, List, [], ◌∷◌, ◌++◌, length, drop, ℤ, pos, ◌+ℤ◌}
use Rattle.wire.specs.Table.{M}
use Rattle.wire.specs.declared.Report.{Report}
use Rattle.reader.specs.Counts.{handed_out, dropped_among}
use Rattle.reader.specs.Runs.{answers, reader_after}
use Rattle.reader.specs.State.{Read}
use Rattle.bridge.specs.Remembered.{noted}
use Rattle.bridge.specs.Splitting.{becomes, bytes_all}
use Rattle.bridge.specs.declared.Past.{Past}
use Rattle.bridge.specs.declared.Bridge.{Bridge}
use Rattle.bridge.specs.Line.{Converted}

-- the V reports that are sent for them, and what is remembered behind them
unfoldable pub sends : ℕ → Past → List Report → List Report
sends letter past [] = []
sends letter past (p ∷ reports) = becomes letter past p ++ sends letter (noted letter past p) reports

unfoldable pub past_after : ℕ → Past → List Report → Past
past_after letter past [] = past
past_after letter past (p ∷ reports) = past_after letter (noted letter past p) reports

-- "Middle presses, taken from one report to the next": the changes of M from up to down, behind a report whose middle was down or not
unfoldable pub changes : Bool → List Report → ℕ
changes middle [] = 0
changes middle (p ∷ reports) = cond (M p && not middle) 1 0 + changes (M p) reports

-- the last of reports behind one, and the movements of all, "U's pairs summed"
abbrev pub last_of : Report → List Report → Report
last_of p [] = p
last_of p (q ∷ reports) = last_of q reports

abbrev pub moved_x : List Report → ℤ
moved_x [] = pos 0
moved_x (p ∷ reports) = p.x1 +ℤ p.x2 +ℤ moved_x reports

abbrev pub moved_y : List Report → ℤ
moved_y [] = pos 0
moved_y (p ∷ reports) = p.y1 +ℤ p.y2 +ℤ moved_y reports

-- What a long call gives back is told by the reader's steps over the words that it took: each report that they hand out becomes its V reports, one
-- report after the other, and nothing else is written.
pub record Told (b : Bridge) (steps : List Read) (before : List ℕ) (a : Converted) (after : List ℕ) : Type 0 where
  pub next : a.next ≡ record { reader = reader_after b.reader steps; past = past_after b.reader.format b.past (handed_out (answers steps)) }
  pub reports : a.reports ≡ length (handed_out (answers steps))
  pub sent : a.sent ≡ length (sends b.reader.format b.past (handed_out (answers steps)))
  pub dropped : a.dropped ≡ dropped_among (answers steps)
  pub written : after ≡ bytes_all (sends b.reader.format b.past (handed_out (answers steps))) ++ drop (3 * a.sent) before
