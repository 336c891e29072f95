-- What was rewritten is written, and the rest is held.
use borrow.Author.Rules.{rules}
use Rattle.std.proofs.Common.{◌≡◌, true, false, length, sym, refl}
use lib.Seq.{length-take-le}
use Rattle.mwidth.proofs.Turns.{fits, taken_fits, fails, refuses, goes_on, broke}
use Rattle.mwidth.proofs.listed.Goals as goal

pub overflow_sub-left : goal.overflow_sub-left
overflow_sub-left c =
    let a = c.args in
    let f = c.rewrite-told in
    taken_fits a.reader a.all a.input.now a.out.now f.new.out f.result c.requires.all_in_bounds.0 c.requires.all_in_bounds.2 f.ensures

pub slice_bounds-show-end-2 : goal.slice_bounds-show-end-2
slice_bounds-show-end-2 c =
    let a = c.args in
    let f = c.rewrite-told in
    fits a.reader a.all a.input.now a.out.now f.new.out f.result c.requires.all_in_bounds.0 c.requires.all_in_bounds.2 f.ensures

pub slice_bounds-show-end-3 : goal.slice_bounds-show-end-3
slice_bounds-show-end-3 c =
    let a = c.args in
    let f = c.rewrite-told in
    sym (length-take-le _ _ (fits a.reader a.all a.input.now a.out.now f.new.out f.result c.requires.all_in_bounds.0 c.requires.all_in_bounds.2 f.ensures))

pub returns-in_err-show : goal.returns-in_err-show
returns-in_err-show c =
    let a = c.args in
    let f = c.rewrite-told in
    let r = c.requires.all_in_bounds in
    let t' = c.show.new.self.turn in
    record {
      leaves = λ held b l. broke t' a.reader held c.from_residual.result a.input.now c.from_residual.ensures.0
          (fails a.system.now.turn t' a.reader a.all a.input.now a.out.now f.new.out f.result false r.0 r.1 r.2 c.requires.stands f.ensures c.in_err-show.ensures.handed refl);
    }

pub returns-then-told-ne0 : goal.returns-then-told-ne0
returns-then-told-ne0 c =
    let a = c.args in
    let f = c.rewrite-told in
    let r = c.requires.all_in_bounds in
    record {
      leaves = λ held b l. refuses a.system.now.turn c.show.new.self.turn a.reader a.all a.input.now a.out.now f.new.out f.result true r.0 r.1 r.2 c.requires.stands f.ensures c.in_ok-show.ensures.handed refl c.if-told-ne0.true;
    }

pub returns : goal.returns
returns c =
    let a = c.args in
    let f = c.rewrite-told in
    let r = c.requires.all_in_bounds in
    let k = c.keep in
    let same : length k.new.input ≡ length a.input.now = search rules in
    record {
      leaves = λ held b l. goes_on a.system.now.turn c.show.new.self.turn a.reader a.all a.input.now a.out.now f.new.out f.result true r.0 r.1 r.2 c.requires.stands f.ensures c.in_ok-show.ensures.handed refl c.if-told-ne0.false
          k.new.input same k.ensures held b l;
    }
