-- `word_at`: a byte, a silence or a break.
use mathlib.Core.Path.{refl}
use native.Mathlib.Omega.{arith}
use Rattle.listing.specs.Lines.{mark_in, said_by}
use Rattle.listing.proofs.lines.word_at.Goals as goal

pub returns-in-81-eq10 : goal.returns-in-81-eq10
unfolding said_by mark_in
returns-in-81-eq10 c = rw (c.in-81-eq10.is-0, c.in-81-eq10.is-1) (λ _. (refl, omega arith, refl), λ z. omega arith)

pub returns-in-88-eq10 : goal.returns-in-88-eq10
unfolding said_by mark_in
returns-in-88-eq10 c = rw (c.in-88-eq10.is-0, c.in-88-eq10.is-1) (λ _. (refl, omega arith, refl), λ z. omega arith)
