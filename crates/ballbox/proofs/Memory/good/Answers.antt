-- `good`: its rules, and the array has eight places.
use borrow.Author.Rules.{rules}
use borrow.Author.Tests.{eq-eqb}
use lib.ListN.{length}
use mathlib.Core.Path.{◌≡◌}
use Rattle.ballbox.specs.Good.{good_memory}
use Rattle.ballbox.proofs.Joined.{empty_memory}
use Rattle.ballbox.proofs.Memory.good.Goals as goal

pub returns-then-self-eq0 : goal.returns-then-self-eq0
returns-then-self-eq0 c =
    let m = c.args.self in
    let eight : length m.states ≡ 8 = search rules in
    rw c.unused_zero.ensures (empty_memory m eight c.if-self-eq0.true)

pub returns : goal.returns
unfolding good_memory
returns c =
    let eight : length c.args.self.states ≡ 8 = search rules in
    simp (eq-eqb _ _ eight, c.unused_zero-2.ensures, c.states_small.ensures)
