-- `good`: its four rules.
use Rattle.ballbox.specs.Good.{good_going}
use Rattle.ballbox.proofs.Joined.{empty_going}
use Rattle.ballbox.proofs.Going.good.Goals as goal

pub returns-then-self-eq0 : goal.returns-then-self-eq0
returns-then-self-eq0 c =
    rw c.rest_zero.ensures (empty_going c.args.letter c.args.self c.if-self-eq0.true)

pub returns : goal.returns
unfolding good_going
returns c = simp (c.rest_zero-2.ensures, c.second_held.ensures, c.length_known.ensures, c.sent_below.ensures)
