-- `on_host`: without a break, or with one.
use borrow.Author.Tests.{not-true, not-false}
use mathlib.Core.Path.{sym, ap, ◌∙◌}
use Rattle.ballbox.specs.Promises.{stepped}
use Rattle.ballbox.proofs.Cases.{host_busy, host_idle}
use Rattle.ballbox.proofs.BallBox.on_host.Goals as goal

pub returns-then-not-bytes_left : goal.returns-then-not-bytes_left
returns-then-not-bytes_left c =
    let a = c.args in
    let l = sym c.bytes_left.ensures ∙ not-true _ c.if-not-bytes_left.true-raw in
    (simp (c.obeyed-next.ensures, c.heard.ensures, c.dropped-clear.ensures) at c.quietly.ensures) ∙ ap stepped (sym (host_idle a.self a.byte l))

pub returns : goal.returns
returns c =
    let a = c.args in
    let l = sym c.bytes_left.ensures ∙ not-false _ c.if-not-bytes_left.false-raw in
    (simp (c.obeyed-next.ensures, c.heard.ensures, c.dropped-clear.ensures) at c.gives.ensures) ∙ ap stepped (sym (host_busy a.self a.byte l))
