-- `hear`: where nothing stands alone yet, what is found.
use Rattle.salvaged.specs.Hearing.{log_in}
use Rattle.salvaged.proofs.Hearing.{as_it_was, heard_new, heard_behind}
use Rattle.salvaged.proofs.log.hear.Goals as goal

pub returns-in-None : goal.returns-in-None
returns-in-None c =
    let a = c.args in
    rw (heard_new (log_in a.log a.words.now) a.found c.in-None.is) c.news.ensures

pub returns-in-Some : goal.returns-in-Some
returns-in-Some c =
    rw (heard_behind (log_in c.args.log c.args.words.now) c.args.found c.in-Some.is) (as_it_was c.requires.0)
