-- What is told.
use Rattle.mrecord.proofs.Handing.{gone_told, silence_told, full_told, ends}
use Rattle.mrecord.proofs.end.Goals as goal

pub returns-then-tape-ne0 : goal.returns-then-tape-ne0
returns-then-tape-ne0 c =
    let s = c.args.session in
    let k = c.say in
    ends c.args.system.now.turn k.new.self.turn s _ _ (gone_told s c.if-tape-ne0.true) k.ensures.said

pub returns-then-tape-eq-SILENCE : goal.returns-then-tape-eq-SILENCE
returns-then-tape-eq-SILENCE c =
    let s = c.args.session in
    let k = c.say-then-tape-eq-SILENCE in
    ends c.args.system.now.turn k.new.self.turn s _ _ (silence_told s c.if-tape-ne0.false c.if-tape-eq-SILENCE.true) k.ensures.said

pub returns-else-tape-eq-SILENCE : goal.returns-else-tape-eq-SILENCE
returns-else-tape-eq-SILENCE c =
    let s = c.args.session in
    let k = c.say-else-tape-eq-SILENCE in
    ends c.args.system.now.turn k.new.self.turn s _ _ (full_told s c.if-tape-ne0.false c.if-tape-eq-SILENCE.false) k.ensures.said
