-- A whole line: ended, the last, or one that has passed.
use mathlib.Core.Path.{sym, ◌∙◌}
use native.Mathlib.Omega.{arith}
use Rattle.listing.specs.Scanning.{taken_of}
use Rattle.listing.proofs.Scanned.{goes_on}
use Rattle.listing.proofs.Scanner.taken.Goals as goal

pub returns-then-self : goal.returns-then-self
unfolding taken_of
returns-then-self c = rw c.if-self.true c.at_line.ensures

pub returns-then-ends : goal.returns-then-ends
unfolding taken_of
returns-then-ends c = rw (c.if-self.false, ← c.line_in-found.ensures, sym c.ends.ensures ∙ c.if-ends.true) c.at_line-then-ends.ensures

pub overflow_add-self : goal.overflow_add-self
overflow_add-self c = let a = c.args in
    let few = goes_on a.self.line a.line (rw c.line_in-found.ensures at (sym c.ends.ensures ∙ c.if-ends.false)) in
    record { fits = omega arith }

pub returns : goal.returns
unfolding taken_of
returns c = rw (c.if-self.false, ← c.line_in-found.ensures, sym c.ends.ensures ∙ c.if-ends.false) c.at_line-2.ensures
