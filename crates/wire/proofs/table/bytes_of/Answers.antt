-- `bytes_of`: an accepted report keeps to what each row asks.
use borrow.Author.Rules.{rules}
use lib.IntN.{pos, neg_ℤ, ◌-ℤ◌}
use lib.Signed.{mag}
use mathlib.Core.Path.{◌≡◌, sym, ap}
use mathlib.Core.Bool.{true}
use mir.Syntax.{w16}
use mir.Val.{to_z, of_z}
use native.Mathlib.Omega.{arith}
use Rattle.numbers.proofs.Machine.{near_neg, minus_fits, minus_kept}
use Rattle.numbers.proofs.Twos.{within_near, twos_below}
use Rattle.wire.proofs.Codec.Accepted.{Parts, parts}
use Rattle.wire.proofs.Codec.Ranges.{at_most, magnitude, south}
use Rattle.wire.proofs.Sums.{sum_u, sum_t}
use Rattle.wire.specs.Table.{bytes_s, bytes_v, bytes_a, rows_a, bytes_b, bytes_u, bytes_t, bytes_w, rows_w}
use Rattle.wire.specs.declared.Format.TheVariants.{Mm, Microsoft, Absolute, Relative, FiveByte, ThreeByte, Hexadecimal}
use Rattle.wire.specs.declared.Format.{Format}
use Rattle.wire.specs.declared.Report.{Report}
use Rattle.wire.specs.Holds.{accepted}
use Rattle.wire.proofs.table.bytes_of.Goals as goal

-- an accepted report, at its format
kept : {f : Format} (its : Format) {r : Report} → accepted f r ≡ true → f ≡ its → Parts its r
kept its a e = parts its _ (rw e at a)

pub rows_s-requires : goal.rows_s-requires
rows_s-requires c =
    let x_is : to_z w16 (of_z w16 c.args.r.x1) ≡ c.args.r.x1 = search rules in
    let y_is : to_z w16 (of_z w16 c.args.r.y1) ≡ c.args.r.y1 = search rules in
    let p = kept Mm c.requires c.in-Mm.is in (omega arith, rw x_is (magnitude 126 c.args.r.x1 p.moved.x), rw y_is (magnitude 126 c.args.r.y1 p.moved.y))

pub overflow_sub-y : goal.overflow_sub-y
overflow_sub-y c =
    let y_is : to_z w16 (of_z w16 c.args.r.y1) ≡ c.args.r.y1 = search rules in
    let p = kept Microsoft c.requires c.in-Microsoft.is in rw y_is (minus_fits w16 c.args.r.y1 (omega (arith, near_neg c.args.r.y1, south 126 c.args.r.y1 p.moved.y)))

pub wrapped_byte-requires : goal.wrapped_byte-requires
wrapped_byte-requires c =
    let x_is : to_z w16 (of_z w16 c.args.r.x1) ≡ c.args.r.x1 = search rules in
    let p = kept Microsoft c.requires c.in-Microsoft.is in rw x_is (within_near 127 c.args.r.x1 p.moved.x)

pub wrapped_byte-requires-in-Microsoft : goal.wrapped_byte-requires-in-Microsoft
wrapped_byte-requires-in-Microsoft c =
    let y_is : to_z w16 (of_z w16 c.args.r.y1) ≡ c.args.r.y1 = search rules in
    let minus_y : Parts Microsoft c.args.r → to_z w16 (of_z w16 (pos 0 -ℤ to_z w16 (of_z w16 c.args.r.y1))) ≡ neg_ℤ c.args.r.y1 = λ p. rw y_is (minus_kept w16 c.args.r.y1 (omega (arith, near_neg c.args.r.y1, south 126 c.args.r.y1 p.moved.y))) in
    let p = kept Microsoft c.requires c.in-Microsoft.is in omega (arith, ap mag (minus_y p), south 126 c.args.r.y1 p.moved.y)

pub rows_v-requires : goal.rows_v-requires
rows_v-requires c =
    let p = kept Microsoft c.requires c.in-Microsoft.is in omega arith

pub rows_a-requires : goal.rows_a-requires
rows_a-requires c =
    let x_is : to_z w16 (of_z w16 c.args.r.x1) ≡ c.args.r.x1 = search rules in
    let y_is : to_z w16 (of_z w16 c.args.r.y1) ≡ c.args.r.y1 = search rules in
    let p = kept Absolute c.requires c.in-Absolute.is in
    (omega arith, rw (c.unsigned_abs.ensures.value, x_is) (omega (arith, at_most 4095 c.args.r.x1 p.moved.x)), rw (c.unsigned_abs-in-Absolute.ensures.value, y_is) (omega (arith, at_most 4095 c.args.r.y1 p.moved.y)))

pub wrapped-requires : goal.wrapped-requires
wrapped-requires c =
    let x_is : to_z w16 (of_z w16 c.args.r.x1) ≡ c.args.r.x1 = search rules in
    let p = kept Relative c.requires c.in-Relative.is in (rw x_is (within_near 2047 c.args.r.x1 p.moved.x), omega arith)

pub wrapped-requires-in-Relative : goal.wrapped-requires-in-Relative
wrapped-requires-in-Relative c =
    let y_is : to_z w16 (of_z w16 c.args.r.y1) ≡ c.args.r.y1 = search rules in
    let p = kept Relative c.requires c.in-Relative.is in (rw y_is (within_near 2047 c.args.r.y1 p.moved.y), omega arith)

pub rows_a-requires-in-Relative : goal.rows_a-requires-in-Relative
rows_a-requires-in-Relative c =
    let x_is : to_z w16 (of_z w16 c.args.r.x1) ≡ c.args.r.x1 = search rules in
    let y_is : to_z w16 (of_z w16 c.args.r.y1) ≡ c.args.r.y1 = search rules in
    let p = kept Relative c.requires c.in-Relative.is in
    (omega arith, rw (c.wrapped.ensures, x_is) (twos_below 2048 c.args.r.x1 (within_near 2047 c.args.r.x1 p.moved.x)), rw (c.wrapped-in-Relative.ensures, y_is) (twos_below 2048 c.args.r.y1 (within_near 2047 c.args.r.y1 p.moved.y)))

pub overflow_sub-result : goal.overflow_sub-result
overflow_sub-result c =
    let p = kept FiveByte c.requires c.in-FiveByte.is in omega arith

pub wrapped_byte-requires-in-FiveByte : goal.wrapped_byte-requires-in-FiveByte
wrapped_byte-requires-in-FiveByte c =
    let x_is : to_z w16 (of_z w16 c.args.r.x1) ≡ c.args.r.x1 = search rules in
    let p = kept FiveByte c.requires c.in-FiveByte.is in rw x_is (within_near 127 c.args.r.x1 p.moved.x)

pub wrapped_byte-requires-in-FiveByte-2 : goal.wrapped_byte-requires-in-FiveByte-2
wrapped_byte-requires-in-FiveByte-2 c =
    let y_is : to_z w16 (of_z w16 c.args.r.y1) ≡ c.args.r.y1 = search rules in
    let p = kept FiveByte c.requires c.in-FiveByte.is in rw y_is (within_near 127 c.args.r.y1 p.moved.y)

pub wrapped_byte-requires-in-FiveByte-3 : goal.wrapped_byte-requires-in-FiveByte-3
wrapped_byte-requires-in-FiveByte-3 c =
    let second_x_is : to_z w16 (of_z w16 c.args.r.x2) ≡ c.args.r.x2 = search rules in
    let p = kept FiveByte c.requires c.in-FiveByte.is in rw second_x_is (within_near 127 c.args.r.x2 p.moved.second_x)

pub wrapped_byte-requires-in-FiveByte-4 : goal.wrapped_byte-requires-in-FiveByte-4
wrapped_byte-requires-in-FiveByte-4 c =
    let second_y_is : to_z w16 (of_z w16 c.args.r.y2) ≡ c.args.r.y2 = search rules in
    let p = kept FiveByte c.requires c.in-FiveByte.is in rw second_y_is (within_near 127 c.args.r.y2 p.moved.second_y)

pub wrapped_byte-requires-in-ThreeByte : goal.wrapped_byte-requires-in-ThreeByte
wrapped_byte-requires-in-ThreeByte c =
    let x_is : to_z w16 (of_z w16 c.args.r.x1) ≡ c.args.r.x1 = search rules in
    let p = kept ThreeByte c.requires c.in-ThreeByte.is in rw x_is (within_near 127 c.args.r.x1 p.moved.x)

pub wrapped_byte-requires-in-ThreeByte-2 : goal.wrapped_byte-requires-in-ThreeByte-2
wrapped_byte-requires-in-ThreeByte-2 c =
    let y_is : to_z w16 (of_z w16 c.args.r.y1) ≡ c.args.r.y1 = search rules in
    let p = kept ThreeByte c.requires c.in-ThreeByte.is in rw y_is (within_near 127 c.args.r.y1 p.moved.y)

pub wrapped_byte-requires-in-Hexadecimal : goal.wrapped_byte-requires-in-Hexadecimal
wrapped_byte-requires-in-Hexadecimal c =
    let x_is : to_z w16 (of_z w16 c.args.r.x1) ≡ c.args.r.x1 = search rules in
    let p = kept Hexadecimal c.requires c.in-Hexadecimal.is in rw x_is (within_near 127 c.args.r.x1 p.moved.x)

pub wrapped_byte-requires-in-Hexadecimal-2 : goal.wrapped_byte-requires-in-Hexadecimal-2
wrapped_byte-requires-in-Hexadecimal-2 c =
    let y_is : to_z w16 (of_z w16 c.args.r.y1) ≡ c.args.r.y1 = search rules in
    let p = kept Hexadecimal c.requires c.in-Hexadecimal.is in rw y_is (within_near 127 c.args.r.y1 p.moved.y)

pub rows_w-requires : goal.rows_w-requires
rows_w-requires c =
    let p = kept Hexadecimal c.requires c.in-Hexadecimal.is in omega arith

pub returns-in-Mm : goal.returns-in-Mm
unfolding bytes_s
returns-in-Mm c =
    let x_is : to_z w16 (of_z w16 c.args.r.x1) ≡ c.args.r.x1 = search rules in
    let y_is : to_z w16 (of_z w16 c.args.r.y1) ≡ c.args.r.y1 = search rules in
    rw c.in-Mm.is (rw (x_is, y_is) at c.rows_s.ensures)

pub returns-in-Microsoft : goal.returns-in-Microsoft
unfolding bytes_v
returns-in-Microsoft c =
    let x_is : to_z w16 (of_z w16 c.args.r.x1) ≡ c.args.r.x1 = search rules in
    let y_is : to_z w16 (of_z w16 c.args.r.y1) ≡ c.args.r.y1 = search rules in
    let minus_y : Parts Microsoft c.args.r → to_z w16 (of_z w16 (pos 0 -ℤ to_z w16 (of_z w16 c.args.r.y1))) ≡ neg_ℤ c.args.r.y1 = λ p. rw y_is (minus_kept w16 c.args.r.y1 (omega (arith, near_neg c.args.r.y1, south 126 c.args.r.y1 p.moved.y))) in
    let p = kept Microsoft c.requires c.in-Microsoft.is in
    rw c.in-Microsoft.is
    (rw (c.wrapped_byte.ensures, c.wrapped_byte-in-Microsoft.ensures, x_is, minus_y p) at c.rows_v.ensures)

pub returns-in-Absolute : goal.returns-in-Absolute
unfolding bytes_a rows_a
returns-in-Absolute c =
    let x_is : to_z w16 (of_z w16 c.args.r.x1) ≡ c.args.r.x1 = search rules in
    let y_is : to_z w16 (of_z w16 c.args.r.y1) ≡ c.args.r.y1 = search rules in
    rw c.in-Absolute.is
    (rw (c.unsigned_abs.ensures.value, c.unsigned_abs-in-Absolute.ensures.value, x_is, y_is) at c.rows_a.ensures)

pub returns-in-Relative : goal.returns-in-Relative
unfolding bytes_b rows_a
returns-in-Relative c =
    let x_is : to_z w16 (of_z w16 c.args.r.x1) ≡ c.args.r.x1 = search rules in
    let y_is : to_z w16 (of_z w16 c.args.r.y1) ≡ c.args.r.y1 = search rules in
    rw c.in-Relative.is
    (rw (c.wrapped.ensures, c.wrapped-in-Relative.ensures, x_is, y_is) at c.rows_a-in-Relative.ensures)

pub returns-in-FiveByte : goal.returns-in-FiveByte
unfolding bytes_u
returns-in-FiveByte c =
    let x_is : to_z w16 (of_z w16 c.args.r.x1) ≡ c.args.r.x1 = search rules in
    let y_is : to_z w16 (of_z w16 c.args.r.y1) ≡ c.args.r.y1 = search rules in
    let second_x_is : to_z w16 (of_z w16 c.args.r.x2) ≡ c.args.r.x2 = search rules in
    let second_y_is : to_z w16 (of_z w16 c.args.r.y2) ≡ c.args.r.y2 = search rules in
    let p = kept FiveByte c.requires c.in-FiveByte.is in
    rw c.in-FiveByte.is
    (simp
    (sum_u c.args.r.buttons (omega arith), c.wrapped_byte-in-FiveByte.ensures, c.wrapped_byte-in-FiveByte-2.ensures, c.wrapped_byte-in-FiveByte-3.ensures, c.wrapped_byte-in-FiveByte-4.ensures, x_is, y_is, second_x_is, second_y_is))

pub returns-in-ThreeByte : goal.returns-in-ThreeByte
unfolding bytes_t
returns-in-ThreeByte c =
    let x_is : to_z w16 (of_z w16 c.args.r.x1) ≡ c.args.r.x1 = search rules in
    let y_is : to_z w16 (of_z w16 c.args.r.y1) ≡ c.args.r.y1 = search rules in
    let p = kept ThreeByte c.requires c.in-ThreeByte.is in
    rw c.in-ThreeByte.is
    (simp (sym (sum_t c.args.r.buttons (omega arith)), c.wrapped_byte-in-ThreeByte.ensures, c.wrapped_byte-in-ThreeByte-2.ensures, x_is, y_is))

pub returns-in-Hexadecimal : goal.returns-in-Hexadecimal
unfolding bytes_w rows_w
returns-in-Hexadecimal c =
    let x_is : to_z w16 (of_z w16 c.args.r.x1) ≡ c.args.r.x1 = search rules in
    let y_is : to_z w16 (of_z w16 c.args.r.y1) ≡ c.args.r.y1 = search rules in
    rw c.in-Hexadecimal.is
    (rw (c.wrapped_byte-in-Hexadecimal.ensures, c.wrapped_byte-in-Hexadecimal-2.ensures, x_is, y_is) at c.rows_w.ensures)
