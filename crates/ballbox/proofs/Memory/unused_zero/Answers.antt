-- `unused_zero`: one comparison.
use borrow.Author.Rules.{rules}
use mir.Syntax.{w8}
use mir.Val.{Fits}
use Prim.Native.Nat.{ℕ, ◌<◌}
use mathlib.Core.Path.{sym}
use Rattle.wire.specs.Reading.{at}
use Rattle.ballbox.proofs.Joined.{rest_none, rest_all}
use Rattle.ballbox.proofs.Memory.unused_zero.Goals as goal

pub returns-then-self-ge8 : goal.returns-then-self-ge8
returns-then-self-ge8 c = let g = c.args.self in sym (rest_all g.states 8 g.count c.if-self-ge8.true)

pub returns : goal.returns
returns c =
    let g = c.args.self in
    let small : (j : ℕ) → j < 8 → at j g.states < 256 = λ j b. let f : Fits w8 (at j g.states) = search rules in f.fits in
    rw (c.above.ensures, c.number.ensures) (rest_none g.states 8 g.count small)
