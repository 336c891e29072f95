-- `shown`: the first taken out, or nothing.
use borrow.Author.Rules.{rules}
use borrow.Author.Tests.{eq-eqb, ne_eqb}
use lib.ListN.{length}
use mathlib.Core.Path.{◌≡◌}
use Rattle.ballbox.proofs.Remembering.{eight_up}
use Rattle.ballbox.specs.Presses.{shown}
use Rattle.ballbox.proofs.Memory.shown.Goals as goal

pub returns-then-self-ne1 : goal.returns-then-self-ne1
unfolding shown
returns-then-self-ne1 c = simp (ne_eqb _ _ c.if-self-ne1.true)

pub returns : goal.returns
unfolding shown
returns c =
    let m = c.args.self in
    let eight : length m.states ≡ 8 = search rules in
    simp (eq-eqb _ _ c.if-self-ne1.false, c.less.ensures, eight_up m.states eight)
