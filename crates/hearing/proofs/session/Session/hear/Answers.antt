-- Bytes, or a wait.
use borrow.Author.Rules.{rules}
use Rattle.std.proofs.Common.{◌≡◌, length}
use Rattle.hearing.specs.Turns.{over}
use Rattle.hearing.proofs.Turns.{a_wait}
use Rattle.hearing.proofs.session.Session.hear.Goals as goal

pub returns : goal.returns
returns g c =
    let a = c.args in
    let none : length a.came.now ≡ 0 = search rules in
    a_wait (over g.T.Teller.text) (over g.T.Teller.told) g.T.Teller.most a.self.now a.came.now a.out.now _ _ _ none (c.tell.ensures 256 c.quiet-heard.ensures)
