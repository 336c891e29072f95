use Rattle.hearing.specs.Turns.{over}
use Rattle.hearing.proofs.Steps.{one_more_lem}
use Rattle.hearing.proofs.session.Session.bytes.Goals as goal

pub loop-b-preserved : goal.loop-b-preserved
loop-b-preserved g c =
    let a = c.args in
    let l = c.loop-b in
    one_more_lem (over g.T.Teller.text) (over g.T.Teller.told) g.T.Teller.most a.self.now a.came.now a.out.now l.b-index l.at l.self l.out l.invariant c.loop-b-test.true _ _ _ c.byte-at.ensures
