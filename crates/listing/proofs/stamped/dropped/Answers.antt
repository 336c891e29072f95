-- `dropped`: the letter and the stamp, the number, and a newline.
use native.Mathlib.Omega.{arith}
use Rattle.text.specs.Decimals.{decimal_of}
use Rattle.listing.proofs.Carried.{filled_more}
use Rattle.listing.proofs.stamped.dropped.Goals as goal

pub number-end-requires : goal.number-end-requires
number-end-requires c = let h = c.headed-first in (omega (arith, c.requires, h.auto.out, h.ensures.1), omega (arith, c.ranges.k))

pub byte-requires : goal.byte-requires
byte-requires c = let h = c.headed-first in
    let n = c.number-end in
    omega (arith, c.requires, h.auto.out, h.ensures.1, n.auto.out, n.ensures.1)

pub returns : goal.returns
unfolding decimal_of
returns c = let h = c.headed-first.ensures in
    let n = c.number-end.ensures in
    let b = c.byte.ensures in
    (filled_more (filled_more h.0 n.0) b, omega (arith, h.1, n.1, b.behind))
