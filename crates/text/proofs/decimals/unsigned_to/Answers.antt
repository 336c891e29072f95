-- `unsigned_to`: one digit, the six digits of a line number, or as many as there are places.
use mathlib.Core.Path.{◌∙◌}
use Rattle.text.proofs.Digits.{unsigned_one, places_six}
use Rattle.text.proofs.decimals.unsigned_to.Goals as goal

pub returns-then-width-lt2 : goal.returns-then-width-lt2
returns-then-width-lt2 c = let a = c.args in
    c.byte_to.ensures ∙ rw (c.digit.ensures, unsigned_one a.width a.n c.if-n-lt10.true c.if-width-lt2.true)

pub returns-then-n-lt1000000 : goal.returns-then-n-lt1000000
returns-then-n-lt1000000 c = let a = c.args in
    c.digits.ensures ∙ rw (c.if-width-eq6.true, places_six a.n c.if-n-lt1000000.true)
