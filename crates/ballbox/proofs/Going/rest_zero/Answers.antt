-- `rest_zero`: one comparison.
use borrow.Author.Rules.{rules}
use mir.Syntax.{w8}
use mir.Val.{Fits}
use Prim.Native.Nat.{ℕ, ◌<◌}
use mathlib.Core.Path.{sym}
use Rattle.wire.specs.Reading.{at}
use Rattle.ballbox.proofs.Joined.{rest_none, rest_all}
use Rattle.ballbox.proofs.Going.rest_zero.Goals as goal

pub returns-then-self-ge5 : goal.returns-then-self-ge5
returns-then-self-ge5 c = let g = c.args.self in sym (rest_all g.bytes 5 g.length c.if-self-ge5.true)

pub returns : goal.returns
returns c =
    let g = c.args.self in
    let small : (j : ℕ) → j < 5 → at j g.bytes < 256 = λ j b. let f : Fits w8 (at j g.bytes) = search rules in f.fits in
    rw (c.above.ensures, c.number.ensures) (rest_none g.bytes 5 g.length small)
