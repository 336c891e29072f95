-- `byte_to`: whether there is a place.
use mathlib.Core.Path.{sym}
use Rattle.text.specs.Growth.{slice}
use Rattle.text.proofs.Filled.{fills, is_full}
use Rattle.text.proofs.Text.byte_to.Goals as goal

pub returns-then-at-out : goal.returns-then-at-out
returns-then-at-out c = let a = c.args in sym (is_full (slice a.out.now a.at) a.b c.if-at-out.true)

pub returns : goal.returns
returns c = let a = c.args in sym (fills (slice a.out.now a.at) a.b c.if-at-out.false)
