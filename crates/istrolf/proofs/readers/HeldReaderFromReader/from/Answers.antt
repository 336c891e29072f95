-- The mark as a number.
use Prim.Native.Nat.{ℕ}
use mathlib.Core.Path.{ap}
use Rattle.ballbox.proofs.Marks.{as_number}
use Rattle.istrolf.proofs.readers.HeldReaderFromReader.from.Goals as goal

pub returns : goal.returns
returns c = let r = c.args.reader in
    ap (λ (n : ℕ). record { format = r.format; kept = r.kept; count = r.count; awaiting = n }) (as_number r.awaiting)
