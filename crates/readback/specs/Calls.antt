-- Calls of a reader of listings, one after the other, with whatever answers the promises permit.
use Rattle.std.specs.Prelude.{ℕ, ◌*◌, ℤ}
use Rattle.fold.specs.Pieces.{InPieces}
use Rattle.readback.specs.Promises.{ReadPromise, RewritePromise}
use Rattle.readback.specs.declared.Readback.{Readback}
use Rattle.readback.specs.declared.Back.{Back}
use Rattle.readback.specs.declared.Rewritten.{Rewritten}

-- `read`: five numbers an item
abbrev pub read_calls : InPieces Readback Back ℤ
read_calls = record { Promise = ReadPromise; next = λ a. a.next; taken = λ a. a.taken; written = λ a. 5 * a.items }

-- `rewrite`
abbrev pub rewrite_calls : InPieces Readback Rewritten ℕ
rewrite_calls = record { Promise = RewritePromise; next = λ a. a.next; taken = λ a. a.taken; written = λ a. a.written }
