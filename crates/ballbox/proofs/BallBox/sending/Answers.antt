-- `sending`: bytes are left, or none.
use borrow.Author.Tests.{ltb-true}
use mathlib.Core.Path.{sym, ◌∙◌}
use native.Mathlib.Omega.{arith}
use Rattle.ballbox.proofs.Parts.{ready_sent}
use Rattle.ballbox.specs.Events.{sending}
use Rattle.ballbox.proofs.BallBox.sending.Goals as goal

pub next_byte-requires : goal.next_byte-requires
next_byte-requires c =
    let b = c.args.self in
    let l = ltb-true b.going.sent b.going.length (sym c.bytes_left.ensures ∙ c.if-bytes_left.true) in
    rw (c.with_byte_ready.ensures, ready_sent b) (omega (arith, c.requires))

pub returns-then-bytes_left : goal.returns-then-bytes_left
unfolding sending
returns-then-bytes_left c = simp (sym c.bytes_left.ensures ∙ c.if-bytes_left.true) (rw c.with_byte_ready.ensures at c.next_byte.ensures)

pub returns-else-bytes_left : goal.returns-else-bytes_left
unfolding sending
returns-else-bytes_left c = simp (sym c.bytes_left.ensures ∙ c.if-bytes_left.false) c.gives.ensures
