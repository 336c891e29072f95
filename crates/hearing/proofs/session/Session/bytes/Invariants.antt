-- Byte by byte.
use Rattle.hearing.specs.Steps.{Far}
use Rattle.hearing.specs.Turns.{over}
use Rattle.hearing.proofs.session.Session.bytes.Given as goal

abbrev pub invariant-loop-b : goal.invariant-loop-b
invariant-loop-b g l = Far (over g.T.Teller.text) (over g.T.Teller.told) g.T.Teller.most l.initial.self l.came l.initial.out l.b-index l.self l.out l.at
