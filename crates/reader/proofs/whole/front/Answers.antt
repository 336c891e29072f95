-- `front`: the bytes of three words or of five.
use mathlib.Core.Path.{sym, ◌∙◌}
use native.Mathlib.Omega.{arith}
use Rattle.reader.proofs.WholeReports.{three_or_more, either, five_bytes}
use Rattle.reader.proofs.whole.front.Goals as goal

pub bounds-words-0 : goal.bounds-words-0
bounds-words-0 c = omega (arith, three_or_more (either c.args.letter c.requires.0))

pub bounds-words-1 : goal.bounds-words-1
bounds-words-1 c = omega (arith, three_or_more (either c.args.letter c.requires.0))

pub bounds-words-2 : goal.bounds-words-2
bounds-words-2 c = omega (arith, three_or_more (either c.args.letter c.requires.0))

pub returns-then-size-eq3 : goal.returns-then-size-eq3
returns-then-size-eq3 c = rw (sym c.size.ensures ∙ c.if-size-eq3.true, c.byte_of-a.ensures, c.byte_of-b.ensures, c.byte_of-c.ensures)

pub bounds-words-3 : goal.bounds-words-3
bounds-words-3 c = omega (arith, five_bytes c.args.letter c.requires.0 (λ e. c.if-size-eq3.false (c.size.ensures ∙ e)), c.requires.1)

pub bounds-words-4 : goal.bounds-words-4
bounds-words-4 c = omega (arith, five_bytes c.args.letter c.requires.0 (λ e. c.if-size-eq3.false (c.size.ensures ∙ e)), c.requires.1)

pub returns : goal.returns
returns c = rw (five_bytes c.args.letter c.requires.0 (λ e. c.if-size-eq3.false (c.size.ensures ∙ e)), c.byte_of-a.ensures, c.byte_of-b.ensures, c.byte_of-c.ensures, c.byte_of.ensures, c.byte_of-2.ensures)
