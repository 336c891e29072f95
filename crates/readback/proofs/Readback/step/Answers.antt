-- By where the line stands.
use mathlib.Core.Path.{sym, ◌∙◌, ap}
use borrow.Author.Tests.{eq-eqb, ne_eqb}
use Rattle.readback.specs.Steps.{said}
use Rattle.readback.proofs.Goodness.{step_ended, step_first, step_item}
use Rattle.readback.proofs.Readback.step.Goals as goal

pub returns-then-self-eq1 : goal.returns-then-self-eq1
returns-then-self-eq1 c = sym (step_ended c.args.self c.args.line.now (eq-eqb _ 1 c.if-self-eq1.true))

pub returns-in_err-width : goal.returns-in_err-width
returns-in_err-width c = let s = c.args in
    rw (c.from_residual.ensures, step_first s.self s.line.now (ne_eqb _ 1 c.if-self-eq1.false) c.if-self-eq0.true, c.in_err-width.ensures)

pub returns-then-self-eq0 : goal.returns-then-self-eq0
returns-then-self-eq0 c = let s = c.args in
    c.opens.ensures ∙ rw (c.salvage.ensures, c.in_ok-width.ensures) (sym (step_first s.self s.line.now (ne_eqb _ 1 c.if-self-eq1.false) c.if-self-eq0.true))

pub returns-in_err-item : goal.returns-in_err-item
returns-in_err-item c = rw c.from_residual-in_err-item.ensures
    (ap (said c.args.self) (sym c.in_err-item.was ∙ c.item.ensures) ∙ rw c.from.ensures (sym (step_item c.args.self c.args.line.now (ne_eqb _ 1 c.if-self-eq1.false) c.if-self-eq0.false)))

pub returns : goal.returns
returns c =
    c.passes.ensures ∙ ap (said c.args.self) (sym c.in_ok-item.was ∙ c.item.ensures) ∙ rw c.from.ensures (sym (step_item c.args.self c.args.line.now (ne_eqb _ 1 c.if-self-eq1.false) c.if-self-eq0.false))
