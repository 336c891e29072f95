-- `news`: by the case of what is found.
use Rattle.salvaged.proofs.Hearing.{beside, as_it_was, marked_short}
use Rattle.salvaged.proofs.log.news.Goals as goal

pub returns-in-Nothing : goal.returns-in-Nothing
returns-in-Nothing c = rw c.in-Nothing.is (as_it_was c.requires.0)

pub returns-in-Format : goal.returns-in-Format
returns-in-Format c =
    rw (c.in-Format.is, c.made.ensures, c.marked.ensures)
    (beside c.requires.0 _ _ (marked_short _))

pub returns-in-Word : goal.returns-in-Word
returns-in-Word c = rw c.in-Word.is c.word.ensures

pub returns-in-Bad : goal.returns-in-Bad
returns-in-Bad c =
    let e = c.in-Bad.is in
    rw (e, c.made-in-Bad.ensures) (beside c.requires.0 _ _ (rw e at c.requires.1, tt))

pub returns-in-Over : goal.returns-in-Over
returns-in-Over c = rw (c.in-Over.is, c.made-in-Over.ensures) (beside c.requires.0 _ _ tt)

pub returns-in-End : goal.returns-in-End
returns-in-End c = rw c.in-End.is (as_it_was c.requires.0)
