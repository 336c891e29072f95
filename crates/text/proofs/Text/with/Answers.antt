-- `with`: whether there is room.
use mathlib.Core.Path.{sym}
use Rattle.text.proofs.Laws.{room, full}
use Rattle.text.proofs.Text.with.Goals as goal

pub returns-then-self-lt40 : goal.returns-then-self-lt40
returns-then-self-lt40 c = sym (room c.args.self c.args.b c.if-self-lt40.true)

pub returns-else-self-lt40 : goal.returns-else-self-lt40
returns-else-self-lt40 c = sym (full c.args.self c.args.b c.if-self-lt40.false)
