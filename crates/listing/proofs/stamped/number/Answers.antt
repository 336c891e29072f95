-- `number`: the digits that it needs, by what it is below.
use native.Mathlib.Omega.{arith}
use Rattle.text.specs.Decimals.{digits_of}
use Rattle.text.proofs.Digits.{digits_long, unsigned_one, unsigned_is}
use Rattle.listing.proofs.stamped.number.Goals as goal

pub returns-then-n-lt10 : goal.returns-then-n-lt10
unfolding digits_of
returns-then-n-lt10 c = let a = c.args in
    let d = c.digits.ensures in
    (rw (unsigned_one 1 a.n c.if-n-lt10.true (omega arith)) d, omega (arith, d.behind))

pub returns-then-n-lt100 : goal.returns-then-n-lt100
returns-then-n-lt100 c = let a = c.args in
    let d = c.digits-then-n-lt100.ensures in
    (rw (unsigned_is 0 a.n (omega (arith, c.if-n-lt10.false)) (omega arith)) d, omega (arith, d.behind, digits_long 2 a.n))

pub returns-then-n-lt1000 : goal.returns-then-n-lt1000
returns-then-n-lt1000 c = let a = c.args in
    let d = c.digits-then-n-lt1000.ensures in
    (rw (unsigned_is 1 a.n (omega (arith, c.if-n-lt100.false)) (omega arith)) d, omega (arith, d.behind, digits_long 3 a.n))

pub returns-then-n-lt10000 : goal.returns-then-n-lt10000
returns-then-n-lt10000 c = let a = c.args in
    let d = c.digits-then-n-lt10000.ensures in
    (rw (unsigned_is 2 a.n (omega (arith, c.if-n-lt1000.false)) (omega arith)) d, omega (arith, d.behind, digits_long 4 a.n))

pub returns : goal.returns
returns c = let a = c.args in
    let d = c.digits-2.ensures in
    (rw (unsigned_is 3 a.n (omega (arith, c.if-n-lt10000.false)) (omega arith)) d, omega (arith, d.behind, digits_long 5 a.n))
