-- `reported`: the letter and the stamp, the buttons, x, y, and a newline.
use native.Mathlib.Omega.{arith}
use mir.Facts.{to_z-of_z}
use Rattle.listing.proofs.Carried.{filled_more}
use Rattle.listing.proofs.stamped.reported.Goals as goal

pub three-second-requires : goal.three-second-requires
three-second-requires c = let h = c.headed-first in omega (arith, c.requires.0, h.auto.out, h.ensures.1)

pub signed-third-requires : goal.signed-third-requires
signed-third-requires c = let h = c.headed-first in
    let t = c.three-second in
    rw (to_z-of_z c.ranges.x) (omega (arith, c.requires.0, h.auto.out, h.ensures.1, t.auto.out, t.ensures.behind), c.requires.1)

pub byte-fourth-requires : goal.byte-fourth-requires
byte-fourth-requires c = let h = c.headed-first in
    let t = c.three-second in
    let x = c.signed-third in
    omega (arith, c.requires.0, h.auto.out, h.ensures.1, t.auto.out, t.ensures.behind, x.auto.out, x.ensures.1)

pub signed-end-requires : goal.signed-end-requires
signed-end-requires c = let h = c.headed-first in
    let t = c.three-second in
    let x = c.signed-third in
    let b = c.byte-fourth in
    rw (to_z-of_z c.ranges.y) (omega (arith, c.requires.0, h.auto.out, h.ensures.1, t.auto.out, t.ensures.behind, x.auto.out, x.ensures.1, b.auto.out, b.ensures.behind), c.requires.2)

pub byte-requires : goal.byte-requires
byte-requires c = let h = c.headed-first in
    let t = c.three-second in
    let x = c.signed-third in
    let b = c.byte-fourth in
    let y = c.signed-end in
    omega (arith, c.requires.0, h.auto.out, h.ensures.1, t.auto.out, t.ensures.behind, x.auto.out, x.ensures.1, b.auto.out, b.ensures.behind, y.auto.out, y.ensures.1)

pub returns : goal.returns
returns c = let h = c.headed-first.ensures in
    let t = c.three-second.ensures in
    let x = rw (to_z-of_z c.ranges.x) at c.signed-third.ensures in
    let b = c.byte-fourth.ensures in
    let y = rw (to_z-of_z c.ranges.y) at c.signed-end.ensures in
    let e = c.byte.ensures in
    (filled_more (filled_more (filled_more (filled_more (filled_more h.0 t) x.0) b) y.0) e, omega (arith, h.1, t.behind, x.1, b.behind, y.1, e.behind))
