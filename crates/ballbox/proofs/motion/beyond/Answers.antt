-- `beyond`: the difference in 64 bits.
use borrow.Author.Rules.{rules}
use mir.Facts.{sfits_widen}
use Rattle.numbers.proofs.Held.{difference_fits}
use Rattle.ballbox.proofs.motion.beyond.Goals as goal

pub overflow_sub-result : goal.overflow_sub-result
overflow_sub-result c = search (rules, sfits_widen, difference_fits)

pub returns : goal.returns
returns c = search (rules, sfits_widen, difference_fits)
