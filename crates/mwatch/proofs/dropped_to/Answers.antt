-- Part behind part.
use native.Mathlib.Omega.{arith}
use mathlib.Core.List.{[], ◌∷◌, ◌++◌}
use lib.IntN.{pos}
use mir.Syntax.{w64}
use mir.Facts.{to_z_pos}
use Rattle.mwatch.specs.Watching.{field_of, dropped_line}
use Rattle.mwatch.proofs.Looking.{put_byte, put_more}
use Rattle.mwatch.proofs.dropped_to.Goals as goal

pub returns : goal.returns
unfolding dropped_line
returns c =
    let a = c.args in
    let first = c.byte_to-first in
    let second = c.field_to-second in
    let third = c.field_to-third in
    let last = c.byte_to in
    let f = rw (to_z_pos w64 {n = a.count} (omega arith)) at second.ensures in
    let g = rw (to_z_pos w64 {n = a.lost} (omega arith)) at third.ensures in
    let p1 = put_byte a.at first.result 68 a.out.now first.new.out first.ensures in
    let p2 = put_more 1 21 a.at first.result second.result a.out.now first.new.out second.new.out (68 ∷ []) (field_of (pos a.count)) p1 f in
    let p3 = put_more 22 21 a.at second.result third.result a.out.now second.new.out third.new.out (68 ∷ field_of (pos a.count)) (field_of (pos a.lost)) p2 g in
    put_more 43 1 a.at third.result last.result a.out.now third.new.out last.new.out ((68 ∷ field_of (pos a.count)) ++ field_of (pos a.lost)) (10 ∷ []) p3
    (put_byte third.result last.result 10 third.new.out last.new.out last.ensures)
