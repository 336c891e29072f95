-- `fresh`: a letter that is not in the table is refused.
use borrow.Author.Tests.{not-true, not-false}
use Rattle.wire.specs.Line.{marked_by, named_by}
use Rattle.reader.specs.Promises.{fresh_of}
use mathlib.Core.Path.{sym, ◌∙◌}
use Rattle.reader.proofs.Reader.fresh.Goals as goal

pub returns-then-not-known : goal.returns-then-not-known
unfolding fresh_of marked_by named_by
returns-then-not-known c = rw (sym c.known.ensures ∙ not-true _ c.if-not-known.true-raw)

pub returns : goal.returns
unfolding fresh_of
returns c = rw (sym c.known.ensures ∙ not-false _ c.if-not-known.false-raw, c.no_bytes.ensures, c.marked.ensures)
