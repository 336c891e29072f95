-- None, or a line.
use native.Mathlib.Omega.{arith}
use mathlib.Core.Path.{refl}
use mathlib.Core.List.{[], ◌∷◌}
use lib.IntN.{pos}
use mir.Syntax.{w64}
use mir.Facts.{to_z_pos}
use Rattle.mwatch.specs.Watching.{field_of, press_count, press_line}
use Rattle.mwatch.proofs.Looking.{put_byte, put_more}
use Rattle.mwatch.proofs.press_to.Goals as goal

pub returns-then-not-went : goal.returns-then-not-went
unfolding press_line press_count
returns-then-not-went c = rw c.if-not-went.true (record { so = refl; few = omega arith }, refl)

pub returns : goal.returns
unfolding press_line press_count
returns c =
    let a = c.args in
    let n = c.counted.result in
    let first = c.byte_to-first in
    let second = c.field_to-second in
    let third = c.byte_to-third in
    let fourth = c.byte_to-fourth in
    let fifth = c.byte_to in
    let f = rw (to_z_pos w64 {n = n} (omega arith)) at second.ensures in
    let p1 = put_byte a.at first.result 80 a.out.now first.new.out first.ensures in
    let p2 = put_more 1 21 a.at first.result second.result a.out.now first.new.out second.new.out (80 ∷ []) (field_of (pos n)) p1 f in
    let q3 = put_byte second.result third.result 9 second.new.out third.new.out third.ensures in
    let q4 = put_byte third.result fourth.result a.letter third.new.out fourth.new.out fourth.ensures in
    let q5 = put_byte fourth.result fifth.result 10 fourth.new.out fifth.new.out fifth.ensures in
    let q34 = put_more 1 1 second.result third.result fourth.result second.new.out third.new.out fourth.new.out (9 ∷ []) (a.letter ∷ []) q3 q4 in
    let q = put_more 2 1 second.result fourth.result fifth.result second.new.out fourth.new.out fifth.new.out (9 ∷ a.letter ∷ []) (10 ∷ []) q34 q5 in
    let all = put_more 22 3 a.at second.result fifth.result a.out.now second.new.out fifth.new.out (80 ∷ field_of (pos n)) (9 ∷ a.letter ∷ 10 ∷ []) p2 q in
    rw c.if-not-went.false (rw c.counted.ensures at all, c.counted.ensures)
