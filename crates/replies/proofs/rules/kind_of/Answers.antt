-- `kind_of`: a command, or a waking.
use Rattle.replies.proofs.rules.kind_of.Goals as goal

pub returns-in-Command : goal.returns-in-Command
returns-in-Command c = rw c.in-Command.is c.reply_to.ensures
