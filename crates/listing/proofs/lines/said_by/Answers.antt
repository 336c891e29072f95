-- What the first n of five bytes say, by n and by the first two of them.
use mathlib.Core.Path.{◌∙◌}
use Rattle.listing.proofs.Parse.{single, few, format, format_long, decimal, other}
use Rattle.listing.proofs.lines.said_by.Goals as goal

pub returns-then-n-eq1 : goal.returns-then-n-eq1
returns-then-n-eq1 c = c.mark.ensures ∙ single _ _ _ _ _ _ c.if-n-eq1.true

pub returns-then-n-lt3 : goal.returns-then-n-lt3
returns-then-n-lt3 c = few _ _ _ _ _ _ c.if-n-eq1.false c.if-n-lt3.true

pub returns-then-n-eq3 : goal.returns-then-n-eq3
returns-then-n-eq3 c = c.format.ensures ∙ format _ _ _ _ _ _ c.if-n-eq3.true c.if-a-b.true

pub returns-then-a-b : goal.returns-then-a-b
returns-then-a-b c = format_long _ _ _ _ _ _ c.if-n-lt3.false c.if-n-eq3.false c.if-a-b.true

pub returns-then-a-b-2 : goal.returns-then-a-b-2
returns-then-a-b-2 c = c.decimal.ensures ∙ decimal _ _ _ _ _ _ c.if-n-lt3.false c.if-a-b.false c.if-a-b-2.true

pub returns : goal.returns
returns c = other _ _ _ _ _ _ c.if-n-lt3.false c.if-a-b.false c.if-a-b-2.false
