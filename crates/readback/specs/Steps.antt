-- A line in its place: what it does to a reader of listings, and which readers are good.
use Rattle.std.specs.Prelude.{ℕ, ◌+◌, Bool, true, false, cond, ◌&&◌, ◌||◌, List, ltb, leb, eqb, Option, None, Some}
use Rattle.listing.specs.Scanning.{most_at, width}
use Rattle.listing.specs.declared.Item.{Item}
use Rattle.listing.specs.declared.Item.TheVariants as item
use Rattle.readback.specs.Items.{item_in, width_in, salvage_in}
use Rattle.readback.specs.declared.Readback.{Readback}
use Rattle.readback.specs.declared.Passed.{Passed}

-- "Width 4 is still read, by the same rule over the width; any other is a faulty line"
abbrev pub old_width : ℕ
old_width = 4

abbrev pub width_known : ℕ → Bool
width_known w = eqb w old_width || eqb w width

-- a mark as it is held: 1, or 0
abbrev pub mark : Bool → ℕ
mark b = cond b 1 0

-- whether its last line has come, and whether it is a salvage's
abbrev pub has_ended : Readback → Bool
has_ended r = eqb r.ended 1

abbrev pub of_salvage : Readback → Bool
of_salvage r = eqb r.salvage 1

abbrev pub readback : Bool → ℕ → ℕ → ℕ → Bool → Readback
readback salvage w last lines ended = record { width = w; ended = mark ended; salvage = mark salvage; last = last; lines = lines }

-- before the first line, and behind it
abbrev pub fresh : Readback
fresh = readback false 0 0 0 false

abbrev pub opened_at : Bool → ℕ → Readback
opened_at salvage w = readback salvage w 0 1 false

-- "line numbers not above 0 and the last one" are faults: the last one behind an item
abbrev pub last_behind : ℕ → Item → ℕ
last_behind last (item.R n b x y) = n
last_behind last (item.D n k) = n
last_behind last (item.H k) = last
last_behind last (item.E n) = n
last_behind last item.Over = last

abbrev pub above : ℕ → Item → Bool
above last (item.R n b x y) = ltb last n
above last (item.D n k) = ltb last n
above last (item.H k) = true
above last (item.E n) = ltb last n
above last item.Over = true

-- "lines after `H` or `E`" are, too
abbrev pub closes : Item → Bool
closes (item.R n b x y) = false
closes (item.D n k) = false
closes (item.H k) = true
closes (item.E n) = true
closes item.Over = true

-- what a line does: whether it may stand there, the next reader, and its item, if it has one
pub record Step : Type 0 where
  pub good : Bool
  pub next : Readback
  pub given : Option Item

abbrev pub faulty : Readback → Step
faulty r = record { good = false; next = r; given = None }

-- what is answered of it: none where it may not stand there
abbrev pub told : Readback → Option Passed → Step
told r None = faulty r
told r (Some p) = record { good = true; next = p.next; given = p.given }

abbrev pub passed_by : Readback → Item → Readback
passed_by r i = record { width = r.width; ended = mark (closes i); salvage = r.salvage; last = last_behind r.last i; lines = r.lines + 1 }

-- the first line; and a line behind it
abbrev pub opens : Readback → Bool → ℕ → Step
opens r salvage w = cond (width_known w) (record { good = true; next = opened_at salvage w; given = None }) (faulty r)

abbrev pub passes : Readback → Item → Step
passes r i = cond (above r.last i) (record { good = true; next = passed_by r i; given = Some i }) (faulty r)

abbrev pub said : Readback → Option Item → Step
said r None = faulty r
said r (Some i) = passes r i

-- a line without its newline
unfoldable pub step_of : Readback → List ℕ → Step
step_of r line = cond (has_ended r) (faulty r) (cond (eqb r.lines 0) (opens r (salvage_in line) (width_in line)) (said r (item_in r.width line)))

-- a good reader: before the first line nothing is known; behind it a known width, a line number that the width has, as
-- many lines as the numbers allow (one, and another for the last, besides those that have numbers), and marks that are 0
-- or 1
abbrev pub besides : Bool → ℕ
besides ended = cond ended 2 1

unfoldable pub good : Readback → Bool
good r =
    cond (eqb r.lines 0) (eqb r.width 0 && eqb r.last 0 && eqb r.ended 0 && eqb r.salvage 0)
    (width_known r.width
    && (leb r.last (most_at r.width)
    && ((leb (besides (has_ended r)) r.lines && leb r.lines (r.last + besides (has_ended r))) && (leb r.ended 1 && leb r.salvage 1))))
