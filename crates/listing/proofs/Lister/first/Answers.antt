-- `first`: whether the text of the byte has room.
use mathlib.Core.Path.{◌≡◌, sym, ◌∙◌, ap}
use lib.ListN.{get_or}
use borrow.Author.Tests.{not-true, not-false}
use Rattle.listing.specs.Feeding.{turning, turned, fed_byte}
use Rattle.listing.specs.declared.Scan.{Scan}
use Rattle.listing.specs.declared.Turn.{Turn}
use Rattle.listing.proofs.Feeds.{first_stops, first_goes}
use Rattle.listing.proofs.Lister.first.Goals as goal

pub returns-then-not-put : goal.returns-then-not-put
unfolding fed_byte
returns-then-not-put c =
    let fed : let a = c.args in c.opened-t.result ≡ turned (fed_byte a.self (get_or a.input.now 0 0)) = let a = c.args in c.opened-t.ensures ∙ ap (λ (s : Scan). turned (turning a.self s)) c.byte.ensures in
    let p = c.put in
    rw c.front.ensures (first_stops c.args.input.now c.args.self c.args.out.now _ c.requires _ (ap (λ (t : Turn). t.text) fed) p.ensures.1 (sym p.ensures.0 ∙ not-true _ c.if-not-put.true-raw))

pub returns : goal.returns
unfolding fed_byte
returns c =
    let fed : let a = c.args in c.opened-t.result ≡ turned (fed_byte a.self (get_or a.input.now 0 0)) = let a = c.args in c.opened-t.ensures ∙ ap (λ (s : Scan). turned (turning a.self s)) c.byte.ensures in
    let p = c.put in
    rw (c.front-2.ensures, ap (λ (t : Turn). t.next) fed) (first_goes c.args.input.now c.args.self c.args.out.now _ c.requires _ (ap (λ (t : Turn). t.text) fed) p.ensures.1 (sym p.ensures.0 ∙ not-false _ c.if-not-put.false-raw))
