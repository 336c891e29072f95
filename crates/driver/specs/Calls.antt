-- Calls of a driver, one after the other, with whatever answers the promises permit.
use Rattle.std.specs.Prelude.{ℕ, ◌+◌, cond, eqb}
use Rattle.fold.specs.Pieces.{InPieces}
use Rattle.listing.specs.Scanning.{most_lines}
use Rattle.ballbox.specs.Box.{Bytes}
use Rattle.driver.specs.Promises.{Driven, FeedPromise, FinishPromise}
use Rattle.driver.specs.declared.Driver.{Driver}

-- `feed`, of a piece that is bytes
abbrev pub feed_calls : InPieces Driver Driven ℕ
feed_calls =
    record {
      Promise = λ m piece before a after. Bytes piece × FeedPromise m piece before a after;
      next = λ a. a.next;
      taken = λ a. a.taken;
      written = λ a. a.written;
    }

-- `finish`, which is handed no piece: whatever stands for it is not looked at
abbrev pub finish_calls : InPieces Driver Driven ℕ
finish_calls =
    record { Promise = λ m piece before a after. FinishPromise m before a after; next = λ a. a.next; taken = λ a. a.taken; written = λ a. a.written }

-- what the end has still to do: the slots that are owed, and those that an unfinished line may ask for
abbrev pub owing : Driver → ℕ
owing m = m.owed + cond (eqb m.count 0) 0 (most_lines + 1)
