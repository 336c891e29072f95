-- Nothing was given, or a word.
use Rattle.hearing.proofs.Turns.{nothing, word}
use Rattle.hearing.proofs.session.Session.tell.Goals as goal

pub returns-in-None : goal.returns-in-None
returns-in-None g c = let a = c.args in λ h is. nothing g.T.Teller.text g.T.Teller.told g.T.Teller.most a.self.now a.heard h is a.out.now a.at c.in-None.is

pub returns-in-Some : goal.returns-in-Some
returns-in-Some g c =
    let a = c.args in
    λ h is. word g.T.Teller.text g.T.Teller.told g.T.Teller.most a.self.now a.heard h is a.out.now a.at c.in-Some.word _ _ _ c.in-Some.is c.word.ensures
