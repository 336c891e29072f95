-- The three buttons, one by one.
use Rattle.readback.proofs.items.buttons_at.Goals as goal

pub returns : goal.returns
returns c = rw c.middle_at.ensures
