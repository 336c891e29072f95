-- No line is left, or a line.
use borrow.Author.Rules.{rules}
use Rattle.std.proofs.Common.{◌<◌}
use Rattle.mrecord.proofs.Lines.{full, one_line}
use Rattle.mrecord.proofs.TapeTeller.word.Goals as goal

pub returns-then-self-eq0 : goal.returns-then-self-eq0
returns-then-self-eq0 c = let a = c.args in full a.self.now a.word a.out.now a.at c.if-self-eq0.true

pub returns : goal.returns
returns c =
    let a = c.args in
    let small : a.word < 65536 = search rules in
    one_line a.self.now a.word a.out.now a.at _ _ _ c.if-self-eq0.false small c.behind_line-self.ensures c.line_to-line_end.ensures
