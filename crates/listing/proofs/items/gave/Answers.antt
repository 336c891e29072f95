-- What is found, by its case.
use Rattle.listing.specs.Items.{gave_of}
use Rattle.listing.proofs.items.gave.Goals as goal

pub returns-in-Nothing : goal.returns-in-Nothing
unfolding gave_of
returns-in-Nothing c = rw c.in-Nothing.is

pub returns-in-Format : goal.returns-in-Format
unfolding gave_of
returns-in-Format c = rw c.in-Format.is c.format.ensures

pub returns-in-Word : goal.returns-in-Word
unfolding gave_of
returns-in-Word c = rw c.in-Word.is c.word.ensures

pub returns-in-Bad : goal.returns-in-Bad
unfolding gave_of
returns-in-Bad c = rw c.in-Bad.is

pub returns-in-Over : goal.returns-in-Over
unfolding gave_of
returns-in-Over c = rw c.in-Over.is

pub returns-in-End : goal.returns-in-End
unfolding gave_of
returns-in-End c = rw c.in-End.is
