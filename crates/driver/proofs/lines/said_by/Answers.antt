-- What a line says, by its length and the byte behind its letter.
use mathlib.Core.Path.{◌∙◌, ap}
use borrow.Author.Tests.{eq-eqb, ne_eqb}
use Rattle.fold.proofs.Parts.{rest_is}
use Rattle.driver.specs.Lines.{with_fields}
use Rattle.driver.proofs.Reading.{blank, lone, longer}
use Rattle.driver.proofs.lines.said_by.Goals as goal

pub returns-then-line-eq0 : goal.returns-then-line-eq0
returns-then-line-eq0 c = blank _ c.if-line-eq0.true

pub returns-then-line-eq1 : goal.returns-then-line-eq1
returns-then-line-eq1 c = c.alone.ensures ∙ lone _ c.if-line-eq1.true

pub returns-then-line-eq9 : goal.returns-then-line-eq9
returns-then-line-eq9 c = let l = c.args.line.now in
    rw (longer l c.if-line-eq0.false c.if-line-eq1.false, eq-eqb _ _ c.if-line-eq9.true)
    (c.with_fields.ensures ∙ ap (with_fields _) (rest_is l 2))

pub returns : goal.returns
returns c = rw (longer _ c.if-line-eq0.false c.if-line-eq1.false, ne_eqb _ _ c.if-line-eq9.false)
