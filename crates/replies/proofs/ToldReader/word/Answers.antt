-- `word`: the next byte of the reply, or a word for the report reader.
use mathlib.Core.Path.{sym, ◌∙◌}
use Rattle.replies.specs.Rules.{word_of}
use Rattle.replies.proofs.Fronts.{byte_same}
use Rattle.replies.proofs.ToldReader.word.Goals as goal

pub returns-then-continues : goal.returns-then-continues
unfolding word_of
returns-then-continues c = let e = sym c.continues.ensures ∙ c.if-continues.true in
    let a = c.args in
    simp e (rw (byte_same a.self.awaited a.word e) at c.keep.ensures)

pub returns : goal.returns
unfolding word_of
returns c = simp (sym c.continues.ensures ∙ c.if-continues.false) c.pass.ensures
