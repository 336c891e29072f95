-- 6 for a driver that is not good; then the newline that the last line lacks, and the end.
use native.Mathlib.Omega.{arith}
use Prim.Native.Nat.{◌+◌}
use mathlib.Core.Path.{sym, ◌∙◌, ap}
use borrow.Author.Tests.{not-true, not-false}
use Rattle.driver.specs.Promises.{driven_in}
use Rattle.driver.specs.declared.Turn.{Turn}
use Rattle.driver.specs.declared.Driver.{Driver}
use Rattle.driver.proofs.Feeds.{answer_of, finish_refused}
use Rattle.driver.proofs.Closing.{finish_lacks, finish_stops, finish_room, finish_goes}
use Rattle.driver.proofs.Driver.finish.Goals as goal

pub returns-then-not-good : goal.returns-then-not-good
returns-then-not-good c = let a = c.args in finish_refused a.self a.out.now _ (sym c.good.ensures ∙ not-true _ c.if-not-good.true-raw) (ap driven_in c.answer.ensures)

pub closed-closed-requires : goal.closed-closed-requires
closed-closed-requires c = sym c.good.ensures ∙ not-false _ c.if-not-good.false-raw

pub returns-then-last-self : goal.returns-then-last-self
returns-then-last-self c = let a = c.args in
    let ok = sym c.good.ensures ∙ not-false _ c.if-not-good.false-raw in
    finish_lacks a.self a.out.now _ ok _ c.closed-closed.ensures _ c.if-last-self.true (ap driven_in c.answer-then-last-self.ensures)

pub returns-then-not-put : goal.returns-then-not-put
returns-then-not-put c = let a = c.args in
    let ok = sym c.good.ensures ∙ not-false _ c.if-not-good.false-raw in
    let t = c.end-t in
    let p = c.put in
    finish_stops a.self a.out.now _ ok _ c.closed-closed.ensures c.if-last-self.false t.result.text (ap (λ (t : Turn). t.text) t.ensures.0) t.ensures.1 _ _ (sym p.ensures.0 ∙ not-true _ c.if-not-put.true-raw) p.ensures.1 (ap driven_in c.answer-then-not-put.ensures)

pub overflow_add-used : goal.overflow_add-used
overflow_add-used c = let a = c.args in
    let ok = sym c.good.ensures ∙ not-false _ c.if-not-good.false-raw in
    let t = c.end-t in
    let p = c.put in
    omega (arith, finish_room a.self a.out.now _ ok _ c.closed-closed.ensures c.if-last-self.false t.result.text (ap (λ (t : Turn). t.text) t.ensures.0) t.ensures.1 (sym p.ensures.0 ∙ not-false _ c.if-not-put.false-raw), c.well_formed.1.0.1)

pub returns : goal.returns
returns c = let a = c.args in
    let ok = sym c.good.ensures ∙ not-false _ c.if-not-good.false-raw in
    let t = c.end-t in
    let p = c.put in
    finish_goes a.self a.out.now _ ok _ c.closed-closed.ensures c.if-last-self.false t.result.text (ap (λ (t : Turn). t.text) t.ensures.0) t.ensures.1 _ _ (sym p.ensures.0 ∙ not-false _ c.if-not-put.false-raw) p.ensures.1
    (ap driven_in c.answer-2.ensures ∙ ap (λ (n : Driver). answer_of 0 n 0 (c.closed-closed.result.written + t.result.text.len)) (ap (λ (t : Turn). t.next) t.ensures.0))
