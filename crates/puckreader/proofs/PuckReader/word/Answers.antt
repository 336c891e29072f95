-- `word`: above 257, no byte, or a byte.
use mathlib.Core.Path.{◌∙◌, sym}
use Rattle.puckreader.proofs.Word.{bad_is, pause_is}
use Rattle.puckreader.proofs.PuckReader.word.Goals as goal

pub returns-then-word-gt-SILENCE : goal.returns-then-word-gt-SILENCE
returns-then-word-gt-SILENCE c = sym (bad_is _ _ c.if-word-gt-SILENCE.true)

pub returns-then-word-ge-BREAK : goal.returns-then-word-ge-BREAK
returns-then-word-ge-BREAK c = c.pause.ensures ∙ sym (pause_is _ _ c.if-word-ge-BREAK.true c.if-word-gt-SILENCE.false)
