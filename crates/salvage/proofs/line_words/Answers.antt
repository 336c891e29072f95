use mathlib.Core.Path.{sym, ◌∙◌}
use native.Mathlib.Omega.{arith}
use Rattle.salvage.proofs.Fitting.{line_more, line_end}
use Rattle.salvage.proofs.line_words.Goals as goal

pub loop-word-preserved : goal.loop-word-preserved
loop-word-preserved c =
    let l = c.loop-word in
    l.invariant ∙ line_more c.args.words.now l.ok l.word-index (omega arith)

pub returns : goal.returns
returns c = let l = c.loop-word in sym (l.invariant ∙ line_end c.args.words.now l.ok l.word-index (omega arith))
