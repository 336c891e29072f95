-- `signed`: by the sign.
use mathlib.Core.Path.{◌≡◌}
use mathlib.Core.Bool.{true, false}
use native.Mathlib.Omega.{arith}
use lib.IntN.{pos, ◌-ℤ◌, nat_abs}
use lib.Signed.{lt_z}
use mir.Syntax.{w64}
use mir.Val.{to_z, of_z}
use mir.Facts.{to_z-of_z, to_z_pos}
use Rattle.text.proofs.Digits.{up, minus_sign, no_sign}
use Rattle.listing.proofs.Carried.{filled_more, turned}
use Rattle.listing.proofs.stamped.signed.Goals as goal

pub overflow_sub-x : goal.overflow_sub-x
overflow_sub-x c =
    let same : to_z w64 (of_z w64 c.args.x) ≡ c.args.x = to_z-of_z c.ranges.x in
    let below : lt_z c.args.x (pos 0) ≡ true = rw same at c.if-x-lt0.true in
    let less : pos 0 -ℤ to_z w64 (of_z w64 c.args.x) ≡ pos (nat_abs c.args.x) = rw same (turned c.args.x below) in
    rw less (record { sfits = omega (arith, c.requires.1) })

pub overflow_cast-x : goal.overflow_cast-x
overflow_cast-x c =
    let same : to_z w64 (of_z w64 c.args.x) ≡ c.args.x = to_z-of_z c.ranges.x in
    let below : lt_z c.args.x (pos 0) ≡ true = rw same at c.if-x-lt0.true in
    let less : pos 0 -ℤ to_z w64 (of_z w64 c.args.x) ≡ pos (nat_abs c.args.x) = rw same (turned c.args.x below) in
    let kept : to_z w64 (of_z w64 (pos 0 -ℤ to_z w64 (of_z w64 c.args.x))) ≡ pos (nat_abs c.args.x) = let n = nat_abs c.args.x in rw less (to_z_pos w64 {n = n} (omega (arith, c.requires.1))) in
    rw kept (tt, record { fits = omega (arith, c.requires.1) })

pub number-requires : goal.number-requires
number-requires c =
    let same : to_z w64 (of_z w64 c.args.x) ≡ c.args.x = to_z-of_z c.ranges.x in
    let below : lt_z c.args.x (pos 0) ≡ true = rw same at c.if-x-lt0.true in
    let less : pos 0 -ℤ to_z w64 (of_z w64 c.args.x) ≡ pos (nat_abs c.args.x) = rw same (turned c.args.x below) in
    let kept : to_z w64 (of_z w64 (pos 0 -ℤ to_z w64 (of_z w64 c.args.x))) ≡ pos (nat_abs c.args.x) = let n = nat_abs c.args.x in rw less (to_z_pos w64 {n = n} (omega (arith, c.requires.1))) in
    let b = c.byte-behind in
    rw kept (omega (arith, c.requires.0, b.auto.out, b.ensures.behind), c.requires.1)

pub returns-then-x-lt0 : goal.returns-then-x-lt0
returns-then-x-lt0 c =
    let same : to_z w64 (of_z w64 c.args.x) ≡ c.args.x = to_z-of_z c.ranges.x in
    let below : lt_z c.args.x (pos 0) ≡ true = rw same at c.if-x-lt0.true in
    let less : pos 0 -ℤ to_z w64 (of_z w64 c.args.x) ≡ pos (nat_abs c.args.x) = rw same (turned c.args.x below) in
    let kept : to_z w64 (of_z w64 (pos 0 -ℤ to_z w64 (of_z w64 c.args.x))) ≡ pos (nat_abs c.args.x) = let n = nat_abs c.args.x in rw less (to_z_pos w64 {n = n} (omega (arith, c.requires.1))) in
    let b = c.byte-behind.ensures in
    let n = rw kept at c.number.ensures in
    (rw (minus_sign 1 c.args.x below) (filled_more b n.0), omega (arith, b.behind, n.1))

pub overflow_cast-x-2 : goal.overflow_cast-x-2
overflow_cast-x-2 c =
    let same : to_z w64 (of_z w64 c.args.x) ≡ c.args.x = to_z-of_z c.ranges.x in
    let above : lt_z c.args.x (pos 0) ≡ false = rw same at c.if-x-lt0.false in
    rw (same, up c.args.x above) (tt, record { fits = omega (arith, c.requires.1) })

pub returns : goal.returns
returns c =
    let same : to_z w64 (of_z w64 c.args.x) ≡ c.args.x = to_z-of_z c.ranges.x in
    let above : lt_z c.args.x (pos 0) ≡ false = rw same at c.if-x-lt0.false in
    let n = rw same at c.number-2.ensures in
    (rw (no_sign 1 c.args.x above) n.0, omega (arith, n.1))
