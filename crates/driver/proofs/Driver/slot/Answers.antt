-- A slot, and its word.
use mathlib.Core.Path.{ap}
use Rattle.ballbox.specs.Box.{Step}
use Rattle.driver.specs.Feeding.{slot_of}
use Rattle.driver.proofs.Driver.slot.Goals as goal

pub returns : goal.returns
unfolding slot_of
returns c = let e = c.slot-step.ensures in
    let next = ap (λ (s : Step). s.next) e in
    let words = ap (λ (s : Step). s.words) e in
    let l = rw (c.given.ensures, words) at c.line.ensures in
    (rw (next, l.0), l.1)
