-- `keep`: the byte goes behind the kept, and the last gives the report.
use native.Mathlib.Omega.{arith}
use mathlib.Core.Path.{sym, ◌∙◌, ap}
use borrow.Author.Tests.{eq-eqb, ne_eqb}
use Rattle.wire.specs.Line.{size_by}
use Rattle.reader.specs.Rules.{keep}
use Rattle.wire.proofs.Letters.{at_most_five}
use Rattle.reader.proofs.Reader.keep.Goals as goal

pub bounds-self-at : goal.bounds-self-at
bounds-self-at c = omega (arith, at_most_five c.args.letter)

pub returns-then-at-size : goal.returns-then-at-size
unfolding keep
returns-then-at-size c = simp (eq-eqb _ _ (c.if-at-size.true ∙ c.size.ensures ∙ ap size_by c.requires.0))
    (rw (c.no_bytes.ensures, c.report_of-report.ensures, c.requires.0))

pub overflow_add-self : goal.overflow_add-self
overflow_add-self c = omega (arith, at_most_five c.args.letter)

pub returns : goal.returns
unfolding keep
returns c = simp (ne_eqb _ _ (λ e. c.if-at-size.false (e ∙ sym (c.size.ensures ∙ ap size_by c.requires.0)))) (rw c.requires.2)
