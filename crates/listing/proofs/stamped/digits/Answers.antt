use mathlib.Core.Path.{◌≡◌, ◌∙◌, ap}
use Prim.Native.Nat.{◌+◌, ◌-◌}
use native.Mathlib.Omega.{arith}
use lib.ListN.{set, length-set}
use Rattle.text.specs.Decimals.{digits_of}
use Rattle.text.proofs.Digits.{one_digit, digits_long}
use Rattle.listing.proofs.Carried.{filled_all}
use Rattle.listing.proofs.stamped.digits.Goals as goal

pub loop-k-preserved : goal.loop-k-preserved
loop-k-preserved c = let l = c.loop-k in
    let at = c.args.at in
    let wrote = ap (set l.out (at + (l.k - 1))) c.digit.ensures in
    (rw wrote (one_digit l.out at l.k l.v (omega arith) ∙ l.invariant.0), omega arith, length-set l.out (at + (l.k - 1)) c.digit.result ∙ l.invariant.2)

pub returns : goal.returns
unfolding digits_of
returns c = let a = c.args in
    let l = c.loop-k in
    let none : l.k ≡ 0 = omega arith in
    let long = digits_long a.places a.n in
    filled_all (digits_of a.places a.n) a.out.now a.at (omega (arith, long, c.requires)) _ _ (rw none at l.invariant.0) (rw long)
