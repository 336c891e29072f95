-- Part behind part.
use native.Mathlib.Omega.{arith}
use Prim.Native.Nat.{ℕ}
use mathlib.Core.List.{List, [], ◌∷◌, ◌++◌}
use lib.IntN.{pos}
use mir.Syntax.{w64}
use mir.Facts.{to_z-of_z, to_z_pos}
use Rattle.mwatch.specs.Watching.{field_of, buttons_of, report_line}
use Rattle.mwatch.proofs.Looking.{put_byte, put_more}
use Rattle.mwatch.proofs.report_to.Goals as goal

pub returns : goal.returns
unfolding report_line
returns c =
    let a = c.args in
    let r = c.byte_to-first in
    let n = c.field_to-second in
    let m = c.buttons_to-third in
    let x = c.field_to-fourth in
    let y = c.field_to-fifth in
    let e = c.byte_to in
    let out = a.out.now in
    let t1 : List ℕ = 82 ∷ field_of (pos a.count) in
    let t2 : List ℕ = t1 ++ buttons_of a.format a.buttons in
    let t3 : List ℕ = t2 ++ field_of a.x in
    let p0 = put_byte a.at r.result 82 out r.new.out r.ensures in
    let p1 = put_more 1 21 a.at r.result n.result out r.new.out n.new.out (82 ∷ []) (field_of (pos a.count)) p0 (rw (to_z_pos w64 {n = a.count} (omega arith)) at n.ensures) in
    let p2 = put_more 22 4 a.at n.result m.result out n.new.out m.new.out t1 (buttons_of a.format a.buttons) p1 m.ensures in
    let p3 = put_more 26 21 a.at m.result x.result out m.new.out x.new.out t2 (field_of a.x) p2 (rw (to_z-of_z c.ranges.x) at x.ensures) in
    let p4 = put_more 47 21 a.at x.result y.result out x.new.out y.new.out t3 (field_of a.y) p3 (rw (to_z-of_z c.ranges.y) at y.ensures) in
    put_more 68 1 a.at y.result e.result out y.new.out e.new.out (t3 ++ field_of a.y) (10 ∷ []) p4
    (put_byte y.result e.result 10 y.new.out e.new.out e.ensures)
