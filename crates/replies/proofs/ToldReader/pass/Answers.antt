-- `pass`: what the report reader makes of the word.
use Rattle.std.proofs.Common.{Ok, Err}
use borrow.Author.Tests.{ne_eqb}
use Rattle.std.proofs.lemmas.Result.{err_from_is_err_and}
use Rattle.wire.specs.Refusals.{number_of}
use Rattle.wire.proofs.Numbered.{never_success}
use Rattle.reader.specs.State.{read_in}
use Rattle.reader.proofs.Permitted.{step_is}
use Rattle.replies.specs.Rules.{pass}
use Rattle.replies.proofs.ToldReader.pass.Goals as goal

pub returns-in_err-read : goal.returns-in_err-read
unfolding pass
returns-in_err-read c =
    let a = c.args in
    let e = c.in_err-read.field-0.0 in
    let i = step_is a.self.reader a.word (read_in a.self.reader (Err e)) c.in_err-read.ensures in
    let p = err_from_is_err_and c.from_residual.result c.from_residual.ensures.1 in
    rw (p.1, p.2, ← i) (simp (ne_eqb (number_of e) 0 (never_success e)))

pub returns : goal.returns
unfolding pass
returns c =
    let a = c.args in
    let i = step_is a.self.reader a.word (read_in a.self.reader (Ok c.in_ok-read.read)) c.in_ok-read.ensures in
    rw (← i, c.broken.ensures, c.nothing.ensures)
