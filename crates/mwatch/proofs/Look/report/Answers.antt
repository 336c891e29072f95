-- Its line, and those of its presses.
use borrow.Author.Rules.{rules}
use mir.Syntax.{w16}
use mir.Val.{SFits}
use mir.Facts.{to_z-of_z}
use lib.IntN.{◌+ℤ◌}
use Rattle.saves.specs.Rules.{heard_of}
use Rattle.mwatch.specs.Watching.{counted, report_line, press_lines}
use Rattle.mwatch.proofs.Looking.{sum_fits, put_more}
use Rattle.mwatch.proofs.Look.report.Goals as goal

pub returns : goal.returns
returns c =
    let x1_fits : SFits w16 c.args.report.x1 = search rules in
    let x2_fits : SFits w16 c.args.report.x2 = search rules in
    let y1_fits : SFits w16 c.args.report.y1 = search rules in
    let y2_fits : SFits w16 c.args.report.y2 = search rules in
    let a = c.args in
    let l = a.self.now in
    let p = a.report in
    let n = c.counted-self in
    let x = c.sum-x in
    let y = c.sum-y in
    let r = c.report_to-first in
    let t = c.heard-told in
    let q = c.presses_to in
    let line = rw (n.ensures, x.ensures, y.ensures, to_z-of_z x1_fits, to_z-of_z x2_fits, to_z-of_z y1_fits, to_z-of_z y2_fits, to_z-of_z (sum_fits x1_fits x2_fits), to_z-of_z (sum_fits y1_fits y2_fits)) at r.ensures in
    let lines = rw t.ensures at q.ensures.0 in
    let count = rw t.ensures at q.ensures.1 in (
      put_more 69 75 a.at r.result q.result a.out.now r.new.out q.new.out
          (report_line l.reader.format (counted l.reports 1) p.buttons (p.x1 +ℤ p.x2) (p.y1 +ℤ p.y2))
          (press_lines l.presses (heard_of l.watch p).down) line lines,
      rw (n.ensures, count, t.ensures),
    )
