-- One button behind the other.
use Rattle.mwatch.specs.Watching.{is_left, is_middle, is_right, press_count, press_line}
use mathlib.Core.Path.{◌∙◌, ap}
use mathlib.Core.List.{◌++◌}
use Rattle.mwatch.proofs.Looking.{put_more}
use Rattle.mwatch.proofs.presses_to.Goals as goal

pub returns : goal.returns
returns c =
    let a = c.args in
    let l = c.press_to-left in
    let m = c.press_to-middle in
    let r = c.press_to in
    let n = a.count.now in
    let d = a.down in
    let n' = press_count n (is_left d) in
    let n'' = press_count n' (is_middle d) in
    let middle = rw l.ensures.1 at m.ensures.0 in
    let count = m.ensures.1 ∙ ap (λ k. press_count k (is_middle d)) l.ensures.1 in
    let right = rw count at r.ensures.0 in
    let two = put_more 25 25 a.at l.result m.result a.out.now l.new.out m.new.out (press_line n (is_left d) 76) (press_line n' (is_middle d) 77) l.ensures.0 middle in (
      put_more 50 25 a.at m.result r.result a.out.now m.new.out r.new.out (press_line n (is_left d) 76 ++ press_line n' (is_middle d) 77) (press_line n'' (is_right d) 82) two right,
      r.ensures.1 ∙ ap (λ k. press_count k (is_right d)) count,
    )
