-- What was read is judged.
use Rattle.myard.proofs.Turns.{stands, on, falls, closes}
use Rattle.myard.proofs.JudgeFilter.feed.Goals as goal

pub returns-then-over : goal.returns-then-over
returns-then-over c =
    let j = c.args.self in
    let bytes = c.args.bytes.now in
    let over = rw c.bytes-next.ensures at c.if-over.true in
    λ k. rw c.bytes-next.ensures (record { whole = tt; closes = closes c.args.system.now.turn j bytes k.ready k.stands over })

pub returns-else-over : goal.returns-else-over
returns-else-over c =
    let t = c.args.system.now.turn in
    let j = c.args.self in
    let bytes = c.args.bytes.now in
    let more = rw c.bytes-next.ensures at c.if-over.false in
    λ k.
    rw c.bytes-next.ensures
    (record {
      ready = (on t j bytes k.ready k.stands more).1;
      stands = stands t j bytes k.ready k.stands;
      nearer = falls t j bytes k.ready k.stands k.some more;
    })
