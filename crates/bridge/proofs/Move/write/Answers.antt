-- The encoder accepts it, and there is room.
use mathlib.Core.Path.{ap}
use Rattle.wire.specs.Encoder.{Encoding}
use Rattle.bridge.proofs.Writing.{written}
use Rattle.bridge.proofs.Move.write.Goals as goal

pub returns : goal.returns
returns c = let e = c.encode in
    ap (λ (l : Encoding). l.buffer) (written c.args.buttons c.args.self c.args.out.now c.requires e.result e.new.buffer c.report-report.ensures e.ensures)
