-- The first lines, the turns and the end.
use Rattle.std.proofs.Common.{true, false, sym, refl, subst, arith}
use lib.Seq.{length-take-le}
use Rattle.shell.specs.Standing.{Stands}
use Rattle.shell.proofs.Laws as standing
use Rattle.hearing.specs.declared.session.Session.{Session}
use Rattle.hearing.proofs.Steps.{within}
use Rattle.hearing.proofs.Turns.{not_ok}
use Rattle.mrecord.specs.Recording.{rest, told, first_lines, mrecord}
use Rattle.mrecord.specs.declared.Tape.{Tape}
use Rattle.mrecord.proofs.Handing.{short, opened, not_opened}
use Rattle.mrecord.proofs.recorded.Goals as goal

pub slice_bounds-show-end : goal.slice_bounds-show-end
slice_bounds-show-end g c =
    let a = c.args in
    let f = c.first_lines-n in
    within a.out.now f.new.out (first_lines a.letter a.begins) f.result f.ensures (omega (arith, short a.letter a.begins, c.requires.0, c.requires.1))

pub slice_bounds-show-end-2 : goal.slice_bounds-show-end-2
slice_bounds-show-end-2 g c =
    let a = c.args in
    let f = c.first_lines-n in
    let fits = within a.out.now f.new.out (first_lines a.letter a.begins) f.result f.ensures (omega (arith, short a.letter a.begins, c.requires.0, c.requires.1)) in
    sym (length-take-le f.result f.new.out fits)

pub returns-in_err-show : goal.returns-in_err-show
returns-in_err-show g c =
    let a = c.args in
    let f = c.first_lines-n in
    let h = c.show in
    let p = mrecord a.letter a.tenths a.begins in
    rw (not_ok c.from_residual.result c.from_residual.ensures.0)
    (standing.breaks_off p h.new.self.turn
    (not_opened a.letter a.tenths a.begins a.system.now.turn h.new.self.turn f.result a.out.now f.new.out false c.requires.2 f.ensures
    (omega (arith, c.requires.0, c.requires.1)) c.in_err-show.ensures.handed refl))

pub returns-in_err-turns : goal.returns-in_err-turns
returns-in_err-turns g c =
    let a = c.args in
    let f = c.first_lines-n in
    let h = c.show in
    let t = c.turns in
    let p = mrecord a.letter a.tenths a.begins in
    let at =
    opened a.letter a.tenths a.begins a.system.now.turn h.new.self.turn f.result a.out.now f.new.out true c.requires.2 f.ensures
    (omega (arith, c.requires.0, c.requires.1)) c.in_ok-show.ensures.handed refl in
    let here = subst (λ (x : Session Tape). Stands p h.new.self.turn (rest x) (told x)) (sym c.fresh-session.ensures) at in
    rw (not_ok c.from_residual-in_err-turns.result c.from_residual-in_err-turns.ensures.0) (standing.breaks_off p t.new.system.turn (c.in_err-turns.ensures.goes p refl refl here))

pub returns : goal.returns
returns g c =
    let a = c.args in
    let f = c.first_lines-n in
    let h = c.show in
    let t = c.turns in
    let p = mrecord a.letter a.tenths a.begins in
    let at =
    opened a.letter a.tenths a.begins a.system.now.turn h.new.self.turn f.result a.out.now f.new.out true c.requires.2 f.ensures
    (omega (arith, c.requires.0, c.requires.1)) c.in_ok-show.ensures.handed refl in
    let here = subst (λ (x : Session Tape). Stands p h.new.self.turn (rest x) (told x)) (sym c.fresh-session.ensures) at in
    standing.left p c.end.new.system.turn (c.end.ensures p (c.in_ok-turns.ensures.goes p refl refl here))
