-- All V reports of a report, or none.
use borrow.Author.Rules.{rules}
use mathlib.Core.Path.{◌∙◌, ap}
use native.Mathlib.Omega.{arith}
use mir.Syntax.{w16}
use mir.Val.{SFits}
use Rattle.bridge.specs.Splitting.{NearMove, count_of}
use Rattle.bridge.specs.Remembered.{movement}
use Rattle.bridge.proofs.Near.{near_movement}
use Rattle.bridge.proofs.Writing.{no_room, all_written}
use Rattle.bridge.proofs.Bridge.report.Goals as goal

pub count-n-requires : goal.count-n-requires
count-n-requires c =
    let x_fits : SFits w16 c.args.self.past.base.x = search rules in
    let y_fits : SFits w16 c.args.self.past.base.y = search rules in
    let x1_fits : SFits w16 c.args.report.x1 = search rules in
    let y1_fits : SFits w16 c.args.report.y1 = search rules in
    let x2_fits : SFits w16 c.args.report.x2 = search rules in
    let y2_fits : SFits w16 c.args.report.y2 = search rules in
    let near : NearMove (movement c.args.self.reader.format c.args.self.past c.args.report) = near_movement c.args.self.reader.format c.args.self.past c.args.report x_fits y_fits x1_fits y1_fits x2_fits y2_fits in
    rw c.moved-m.ensures near

pub returns-then-out-n-clause-reported : goal.returns-then-out-n-clause-reported
returns-then-out-n-clause-reported c = let a = c.args in
    let n = c.count-n.ensures ∙ ap count_of c.moved-m.ensures in
    rw c.converted.ensures (no_room a.self a.next a.report a.out.now (omega (arith, n, c.if-out-n.true)))

pub put-requires : goal.put-requires
put-requires c =
    let x_fits : SFits w16 c.args.self.past.base.x = search rules in
    let y_fits : SFits w16 c.args.self.past.base.y = search rules in
    let x1_fits : SFits w16 c.args.report.x1 = search rules in
    let y1_fits : SFits w16 c.args.report.y1 = search rules in
    let x2_fits : SFits w16 c.args.report.x2 = search rules in
    let y2_fits : SFits w16 c.args.report.y2 = search rules in
    let near : NearMove (movement c.args.self.reader.format c.args.self.past c.args.report) = near_movement c.args.self.reader.format c.args.self.past c.args.report x_fits y_fits x1_fits y1_fits x2_fits y2_fits in
    (rw c.moved-m.ensures near, omega (arith, c.if-out-n.false))

pub returns-clause-reported : goal.returns-clause-reported
returns-clause-reported c = let a = c.args in
    let m = c.moved-m.ensures in
    let n = c.count-n.ensures ∙ ap count_of m in
    rw (c.converted-2.ensures, c.noted.ensures, c.put.ensures, m, n)
    (all_written a.self a.next a.report a.out.now (omega (arith, n, c.if-out-n.false)))
