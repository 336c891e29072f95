-- `items`: what stands alone, or the pieces and the end.
use Rattle.salvaged.proofs.Writing.{adds_both}
use Rattle.salvaged.proofs.Walking.{items_lines}
use Rattle.salvaged.proofs.walk.items.Goals as goal

pub item-requires-in-Some : goal.item-requires-in-Some
item-requires-in-Some c = rw c.in-Some.is at c.requires.1

pub returns-in-None : goal.returns-in-None
returns-in-None c =
    let a = c.args in
    rw (c.in-None.is, items_lines a.letter a.words.now) (adds_both c.walk-all.ensures c.item.ensures)

pub returns-in-Some : goal.returns-in-Some
returns-in-Some c = rw c.in-Some.is c.item-in-Some.ensures
