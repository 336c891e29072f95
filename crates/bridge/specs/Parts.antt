-- A part of a line, converted apart: where a long call stands behind it.
use Rattle.std.specs.Prelude.{ℕ, ◌*◌, ◌≡◌, cond, List, ◌++◌, length, drop, leb}
use Rattle.fold.specs.Calls.{stopped}
use Rattle.fold.specs.Calls as calls
use Rattle.wire.specs.declared.Report.{Report}
use Rattle.reader.specs.declared.Reader.{Reader}
use Rattle.bridge.specs.Remembered.{noted}
use Rattle.bridge.specs.Splitting.{becomes, bytes_all}
use Rattle.bridge.specs.Line.{Converted, Long, whole, converts}
use Rattle.bridge.specs.declared.Bridge.{Bridge}

-- a report that came in, with the reader behind it: its V reports, or, where they have no room, none
unfoldable pub reported_of : Bridge → Reader → Report → List ℕ → Long
reported_of b next p out =
    let l : List Report = becomes b.reader.format b.past p in
    cond (leb (3 * length l) (length out))
    (whole
    (record {
      refusal = 0;
      next = record { reader = next; past = noted b.reader.format b.past p };
      taken = 1;
      reports = 1;
      sent = length l;
      dropped = 0;
    })
    (bytes_all l ++ drop (3 * length l) out))
    (stopped converts 0 b out)

abbrev pub Reported : Bridge → Reader → Report → List ℕ → Converted → List ℕ → Type 0
Reported b next p before t after = whole t after ≡ reported_of b next p before

-- what is given back for words at the front of a line, by a bridge that stays good; where none is taken it ends there
abbrev pub Begins : Bridge → List ℕ → List ℕ → Converted → List ℕ → Type 0
Begins b words before t after = calls.Begins converts b words before (whole t after)
