-- `prompted`: the memory emptied.
use Rattle.ballbox.proofs.Marks.{as_number}
use Rattle.ballbox.proofs.BallBox.prompted.Goals as goal

pub returns : goal.returns
returns c =
    let s = c.args in
    simp (c.none-self.ensures, as_number s.due)
