use Rattle.std.proofs.Common.{◌∙◌, sym, add-one, arith, drop-cons, drop_of_length-le}
use Rattle.myard.specs.Hearing.{behind_bytes}
use Rattle.myard.proofs.Judge.bytes.Goals as goal

pub loop-b-preserved : goal.loop-b-preserved
unfolding behind_bytes
loop-b-preserved c =
    let l = c.loop-b in
    l.invariant ∙ rw (drop-cons c.args.bytes.now l.b-index 0 (omega arith), c.byte-judge.ensures, add-one)

pub returns : goal.returns
unfolding behind_bytes
returns c =
    let l = c.loop-b in
    sym (l.invariant ∙ rw (drop_of_length-le c.args.bytes.now {i = l.b-index} (omega arith)))
