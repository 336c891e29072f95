-- `word`: a place more, or one too many.
use Rattle.salvaged.proofs.Hearing.{word_over, word_more}
use Rattle.salvaged.proofs.log.word.Goals as goal

pub returns-then-n-ge-MOST : goal.returns-then-n-ge-MOST
returns-then-n-ge-MOST c = rw c.made.ensures (word_over c.requires c.args.w c.if-n-ge-MOST.true)

pub returns : goal.returns
returns c = rw c.made-2.ensures (word_more c.requires c.args.w c.if-n-ge-MOST.false)
