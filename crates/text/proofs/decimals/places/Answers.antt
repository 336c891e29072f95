-- `places`: the width, or what the number needs.
use mathlib.Core.Path.{◌≡◌}
use native.Mathlib.Omega.{arith}
use lib.Dec.{ltb}
use borrow.Author.Tests.{ltb-true, ltb-false}
use Rattle.numbers.proofs.Choices.{cases}
use Rattle.text.specs.Decimals.{places_of, size_of}
use Rattle.text.proofs.decimals.places.Goals as goal

pub returns : goal.returns
unfolding places_of
returns c =
    let w = c.args.width in
    let n = size_of c.args.n in
    cases (λ k. c.max.result ≡ k) (ltb n w) (λ e. omega (arith, c.max.ensures, c.size.ensures, ltb-true n w e)) (λ e. omega (arith, c.max.ensures, c.size.ensures, ltb-false n w e))
