-- 6 for a lister that is not good; then the end, if it has room.
use mathlib.Core.Path.{sym, ◌∙◌, ap}
use borrow.Author.Tests.{not-true, not-false}
use Rattle.listing.specs.Promises.{listed_in}
use Rattle.listing.specs.declared.Turn.{Turn}
use Rattle.listing.specs.declared.Lister.{Lister}
use Rattle.listing.proofs.Few.{few_last}
use Rattle.listing.proofs.Feeds.{answer_of, finish_refused, finish_stops, finish_goes}
use Rattle.listing.proofs.Lister.finish.Goals as goal

pub returns-then-not-good : goal.returns-then-not-good
returns-then-not-good c = let a = c.args in finish_refused a.self a.out.now _ (sym c.good.ensures ∙ not-true _ c.if-not-good.true-raw) (ap listed_in c.answer.ensures)

pub returns-then-not-put : goal.returns-then-not-put
returns-then-not-put c = let a = c.args in let m = a.self in
    let p = c.put in
    let ok = sym c.good.ensures ∙ not-false _ c.if-not-good.false-raw in
    finish_stops m a.out.now _ _ ok _ (ap (λ (t : Turn). t.text) c.last-t.ensures) (few_last m ok) p.ensures.1 (sym p.ensures.0 ∙ not-true _ c.if-not-put.true-raw) (ap listed_in c.answer-then-not-put.ensures)

pub returns : goal.returns
returns c = let a = c.args in let m = a.self in
    let p = c.put in
    let t = c.last-t in
    let ok = sym c.good.ensures ∙ not-false _ c.if-not-good.false-raw in
    finish_goes m a.out.now _ _ ok _ (ap (λ (t : Turn). t.text) t.ensures) (few_last m ok) p.ensures.1 (sym p.ensures.0 ∙ not-false _ c.if-not-put.false-raw)
    (ap listed_in c.answer-2.ensures ∙ ap (λ (n : Lister). answer_of 0 n 0 t.result.text.len) (ap (λ (t : Turn). t.next) t.ensures))
