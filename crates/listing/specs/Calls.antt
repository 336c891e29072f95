-- Calls of a lister, one after the other, with whatever answers the promise permits.
use Rattle.std.specs.Prelude.{ℕ}
use Rattle.fold.specs.Pieces.{InPieces}
use Rattle.listing.specs.Promises.{Listed, FeedPromise}
use Rattle.listing.specs.declared.Lister.{Lister}

-- `feed`
abbrev pub feed_calls : InPieces Lister Listed ℕ
feed_calls = record { Promise = FeedPromise; next = λ a. a.next; taken = λ a. a.taken; written = λ a. a.written }
