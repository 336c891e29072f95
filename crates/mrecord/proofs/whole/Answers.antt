-- A wrong call.
use Rattle.std.proofs.Common.{refl}
use Rattle.mrecord.proofs.Handing.{wrong}
use Rattle.mrecord.proofs.whole.Goals as goal

pub returns-in_default : goal.returns-in_default
returns-in_default g c =
    let a = c.args in
    let s = c.say in
    wrong a.letter a.tenths a.begins a.system.now.turn s.new.self.turn _ _ (rw c.in_default.is refl) c.requires.2 s.ensures.said

pub returns-in_default-tenths : goal.returns-in_default-tenths
returns-in_default-tenths g c =
    let a = c.args in
    let s = c.say-in_default-tenths in
    wrong a.letter a.tenths a.begins a.system.now.turn s.new.self.turn _ _ (rw (c.in-Some.is, c.in_default-tenths.is) refl) c.requires.2 s.ensures.said

pub returns-in_default-begins : goal.returns-in_default-begins
returns-in_default-begins g c =
    let a = c.args in
    let s = c.say-in_default-begins in
    wrong a.letter a.tenths a.begins a.system.now.turn s.new.self.turn _ _ (rw (c.in-Some.is, c.in-Some-tenths.is, c.in_default-begins.is) refl) c.requires.2 s.ensures.said
