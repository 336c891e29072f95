-- `write`: the bytes, where they have room.
use borrow.Author.Tests.{le-ltb}
use Rattle.wire.proofs.Front.{front}
use Rattle.wire.proofs.encoder.write.Goals as goal

pub returns : goal.returns
returns c = let a = c.args in
    let e = rw (c.bytes_of.ensures, c.size-length.ensures, front a.f a.report) at c.copy_from_slice.ensures.after in
    simp (le-ltb _ _ (rw c.size-length.ensures at c.if-buffer-length.false), c.size-length.ensures, e)
