use mathlib.Core.Path.{◌≡◌, sym, ◌∙◌, ap}
use borrow.Author.Tests.{not-true, not-false}
use Prim.Native.Nat.{◌+◌}
use native.Mathlib.Omega.{arith}
use lib.ListN.{length, drop, length-drop}
use Rattle.fold.proofs.Parts.{rest_is}
use Rattle.text.specs.Growth.{text_of}
use Rattle.text.proofs.Laws.{put_none}
use Rattle.listing.proofs.Feeds.{size, put_room, put_wrote, put_short}
use Rattle.driver.specs.Feeding.{tick_of, Ticks}
use Rattle.driver.specs.Promises.{driven_in, whole}
use Rattle.driver.specs.declared.Driven as declared
use Rattle.driver.specs.declared.Turn.{Turn}
use Rattle.driver.proofs.Keeps.{parts, tick_keeps}
use Rattle.driver.proofs.Feeds.{some_left, none_left, Stands, starts, far, ends_all, stops_here, again, less}
use Rattle.driver.proofs.Driver.ticks.Goals as goal

pub loop-at-init : goal.loop-at-init
loop-at-init c = let a = c.args in let s = starts a.self a.input.now a.out.now in (s, parts a.self c.requires, far s)

pub tick-tick-requires : goal.tick-tick-requires
tick-tick-requires c = let l = c.loop-at in
    let input = c.args.input.now in
    (l.invariant.1.few, λ z. rw (rest_is input l.at) (omega (arith, length-drop l.at input, some_left l.at (length input) l.m.owed c.loop-at-test.true z)))

pub returns-then-not-put : goal.returns-then-not-put
returns-then-not-put c =
    let goes : let l = c.loop-at in Ticks l.m (drop l.at c.args.input.now) c.tick-tick.result = rw (rest_is c.args.input.now c.loop-at.at) at c.tick-tick.ensures in
    let text_is : c.tick-tick.result.turn.text ≡ text_of (tick_of c.loop-at.m goes.tick).text = ap (λ (t : Turn). t.text) goes.turns.0 in
    let l = c.loop-at in
    let p = c.put in
    let t = c.tick-tick.result.turn.text in
    let g = goes in
    let x = (tick_of l.m g.tick).text in
    let unfit = sym p.ensures.0 ∙ not-true _ c.if-not-put.true-raw in
    ap (whole _) (p.ensures.1 ∙ put_none t l.used l.out unfit) ∙ ap (λ (r : declared.Driven). whole (driven_in r) l.out) c.answer.ensures
    ∙ stops_here l.invariant.0 g (omega (arith, put_short x t text_is g.turns.1 l.used l.out unfit, size x t text_is g.turns.1 l.used l.out))

pub overflow_add-at : goal.overflow_add-at
overflow_add-at c =
    let goes : let l = c.loop-at in Ticks l.m (drop l.at c.args.input.now) c.tick-tick.result = rw (rest_is c.args.input.now c.loop-at.at) at c.tick-tick.ensures in
    let text_is : c.tick-tick.result.turn.text ≡ text_of (tick_of c.loop-at.m goes.tick).text = ap (λ (t : Turn). t.text) goes.turns.0 in
    let turn : let l = c.loop-at in
    let a = c.args in
    let y = c.tick-tick.result in
    Stands a.self a.input.now a.out.now y.turn.next (l.at + y.taken) (l.used + y.turn.text.len) c.put.new.out = let l = c.loop-at in
    let p = c.put in
    let t = c.tick-tick.result.turn.text in
    let g = goes in
    let x = (tick_of l.m g.tick).text in
    let fits = sym p.ensures.0 ∙ not-false _ c.if-not-put.false-raw in
    rw (ap (λ (t : Turn). t.next) g.turns.0)
    (again l.invariant.0 g p.new.out t.len (size x t text_is g.turns.1 l.used l.out)
    (put_room t l.used l.out fits) (p.ensures.1 ∙ put_wrote x t text_is g.turns.1 l.used l.out fits)) in
    omega (arith, far turn, c.well_formed.1.0.1)

pub overflow_add-used : goal.overflow_add-used
overflow_add-used c =
    let goes : let l = c.loop-at in Ticks l.m (drop l.at c.args.input.now) c.tick-tick.result = rw (rest_is c.args.input.now c.loop-at.at) at c.tick-tick.ensures in
    let text_is : c.tick-tick.result.turn.text ≡ text_of (tick_of c.loop-at.m goes.tick).text = ap (λ (t : Turn). t.text) goes.turns.0 in
    let turn : let l = c.loop-at in
    let a = c.args in
    let y = c.tick-tick.result in
    Stands a.self a.input.now a.out.now y.turn.next (l.at + y.taken) (l.used + y.turn.text.len) c.put.new.out = let l = c.loop-at in
    let p = c.put in
    let t = c.tick-tick.result.turn.text in
    let g = goes in
    let x = (tick_of l.m g.tick).text in
    let fits = sym p.ensures.0 ∙ not-false _ c.if-not-put.false-raw in
    rw (ap (λ (t : Turn). t.next) g.turns.0)
    (again l.invariant.0 g p.new.out t.len (size x t text_is g.turns.1 l.used l.out)
    (put_room t l.used l.out fits) (p.ensures.1 ∙ put_wrote x t text_is g.turns.1 l.used l.out fits)) in
    omega (arith, far turn, c.well_formed.1.1.0.1)

pub loop-at-smaller : goal.loop-at-smaller
loop-at-smaller c =
    let goes : let l = c.loop-at in Ticks l.m (drop l.at c.args.input.now) c.tick-tick.result = rw (rest_is c.args.input.now c.loop-at.at) at c.tick-tick.ensures in
    let l = c.loop-at in
    rw (ap (λ (t : Turn). t.next) goes.turns.0) (less l.invariant.0 goes)

pub loop-at-preserved : goal.loop-at-preserved
loop-at-preserved c =
    let goes : let l = c.loop-at in Ticks l.m (drop l.at c.args.input.now) c.tick-tick.result = rw (rest_is c.args.input.now c.loop-at.at) at c.tick-tick.ensures in
    let text_is : c.tick-tick.result.turn.text ≡ text_of (tick_of c.loop-at.m goes.tick).text = ap (λ (t : Turn). t.text) goes.turns.0 in
    let turn : let l = c.loop-at in
    let a = c.args in
    let y = c.tick-tick.result in
    Stands a.self a.input.now a.out.now y.turn.next (l.at + y.taken) (l.used + y.turn.text.len) c.put.new.out = let l = c.loop-at in
    let p = c.put in
    let t = c.tick-tick.result.turn.text in
    let g = goes in
    let x = (tick_of l.m g.tick).text in
    let fits = sym p.ensures.0 ∙ not-false _ c.if-not-put.false-raw in
    rw (ap (λ (t : Turn). t.next) g.turns.0)
    (again l.invariant.0 g p.new.out t.len (size x t text_is g.turns.1 l.used l.out)
    (put_room t l.used l.out fits) (p.ensures.1 ∙ put_wrote x t text_is g.turns.1 l.used l.out fits)) in
    let l = c.loop-at in
    (turn, rw (ap (λ (t : Turn). t.next) goes.turns.0) (tick_keeps l.m goes.tick l.invariant.1), far turn)

pub returns : goal.returns
returns c = let l = c.loop-at in
    let e = none_left l.at (length c.args.input.now) l.m.owed c.loop-at-test.false in
    ap (λ (r : declared.Driven). whole (driven_in r) l.out) c.answer-2.ensures ∙ ends_all l.invariant.0 e.0 e.1
