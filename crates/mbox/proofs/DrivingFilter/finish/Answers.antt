-- Each call's text is handed out, until the recording has ended.
use Rattle.std.proofs.Common.{rules, ◌≡◌, length, sym, ◌∙◌, arith}
use Rattle.std.proofs.lemmas.Result.{err_from_is_err_and}
use lib.Seq.{length-take-le}
use Rattle.shell.proofs.Laws as standing
use Rattle.driver.specs.Promises.{driven_in}
use Rattle.driver.proofs.Calls.{finish_within, last_kept}
use Rattle.mbox.specs.Program.{mbox}
use Rattle.mbox.proofs.Turns.{few_calls, last_calls, last_fails, less, ends}
use Rattle.mbox.proofs.DrivingFilter.finish.Goals as goal

pub slice_bounds-show-end-in-loop : goal.slice_bounds-show-end-in-loop
slice_bounds-show-end-in-loop c =
    let finish = c.finish-last in
    let same : length finish.new.out ≡ length c.loop.out = search rules in
    omega (arith, same, finish_within _ _ _ (driven_in finish.result) finish.ensures)

pub slice_bounds-show-end-in-loop-2 : goal.slice_bounds-show-end-in-loop-2
slice_bounds-show-end-in-loop-2 c =
    let finish = c.finish-last in
    let same : length finish.new.out ≡ length c.loop.out = search rules in
    sym (length-take-le _ _ (omega (arith, same, finish_within _ _ _ (driven_in finish.result) finish.ensures)))

pub returns-in_err-show : goal.returns-in_err-show
returns-in_err-show c =
    let l = c.loop in
    let finish = c.finish-last in
    let p = err_from_is_err_and c.from_residual.result c.from_residual.ensures.1 in
    λ f. let k = l.invariant.goes f.whole f.fits f.closes in rw p.1 (standing.fails mbox c.show.new.self.turn (last_fails l.out k.0 k.1 finish.ensures c.show.new.self.turn c.in_err-show.ensures.handed))

pub loop-preserved : goal.loop-preserved
loop-preserved c =
    let l = c.loop in
    let finish = c.finish-last in
    let same : length finish.new.out ≡ length l.out = search rules in
    record {
      room = same ∙ l.invariant.room;
      goes = λ kept room closes.
          let k = l.invariant.goes kept room closes in
          let falls = less l.out k.0 k.1 finish.ensures (omega (arith, l.invariant.room, room)) in
          let here = rw c.if-here.false at k.2 in (
            last_kept l.here l.out finish.new.out (driven_in finish.result) k.0 finish.ensures,
            last_calls l.out k.0 k.1 finish.ensures c.show.new.self.turn c.in_ok-show.ensures.handed,
            omega (arith, falls, here),
          );
    }

pub returns-then-here : goal.returns-then-here
returns-then-here c =
    let l = c.loop in
    λ f. let k = l.invariant.goes f.whole f.fits f.closes in standing.ends mbox l.system.turn (ends l.system.turn l.here k.0 k.1 c.if-here.true)

pub returns : goal.returns
returns c =
    let l = c.loop in
    λ f. let k = l.invariant.goes f.whole f.fits f.closes in absurd (omega (arith, k.2, few_calls c.args.self.driver f.whole))
