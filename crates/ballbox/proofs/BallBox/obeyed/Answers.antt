-- `obeyed`: command by command.
use Rattle.ballbox.specs.Box.{going_from}
use Rattle.ballbox.specs.Commands.{obeyed}
use Rattle.ballbox.proofs.BallBox.obeyed.Goals as goal

pub returns-in-SetFormat : goal.returns-in-SetFormat
unfolding obeyed
returns-in-SetFormat c = rw c.in-SetFormat.is c.with_format.ensures

pub returns-in-SetStream : goal.returns-in-SetStream
unfolding obeyed
returns-in-SetStream c = rw c.in-SetStream.is c.with_mode.ensures

pub returns-in-SetPrompt : goal.returns-in-SetPrompt
unfolding obeyed
returns-in-SetPrompt c = rw c.in-SetPrompt.is c.prompted.ensures

pub returns-in-AskReport : goal.returns-in-AskReport
unfolding obeyed
returns-in-AskReport c = rw c.in-AskReport.is c.prompted-in-AskReport.ensures

pub returns-in-AskAck : goal.returns-in-AskAck
unfolding obeyed going_from
returns-in-AskAck c = rw c.in-AskAck.is c.replying.ensures

pub returns-in-AskCode : goal.returns-in-AskCode
unfolding obeyed going_from
returns-in-AskCode c = rw c.in-AskCode.is (rw c.code_byte.ensures at c.replying-in-AskCode.ensures)

pub returns-in-AskLetters : goal.returns-in-AskLetters
unfolding obeyed going_from
returns-in-AskLetters c = rw c.in-AskLetters.is c.replying-in-AskLetters.ensures

pub returns-in-AskButtons : goal.returns-in-AskButtons
unfolding obeyed going_from
returns-in-AskButtons c = rw c.in-AskButtons.is c.replying-in-AskButtons.ensures

pub returns-in-Sleep : goal.returns-in-Sleep
unfolding obeyed
returns-in-Sleep c = rw c.in-Sleep.is c.put_to_sleep.ensures

pub returns-in-Ignored : goal.returns-in-Ignored
unfolding obeyed
returns-in-Ignored c = rw c.in-Ignored.is
