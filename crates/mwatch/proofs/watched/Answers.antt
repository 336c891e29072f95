-- The turns and the end.
use borrow.Author.Rules.{rules}
use Rattle.std.proofs.Common.{◌≡◌, sym, refl, subst, arith, length}
use Rattle.shell.specs.Standing.{Stands}
use Rattle.shell.proofs.Laws as standing
use Rattle.hearing.specs.declared.session.Session.{Session}
use Rattle.hearing.proofs.Turns.{not_ok}
use Rattle.mwatch.specs.Watching.{rest, told, mwatch}
use Rattle.mwatch.specs.declared.Look.{Look}
use Rattle.mwatch.proofs.watched.Goals as goal

pub returns-in_err-turns : goal.returns-in_err-turns
returns-in_err-turns g c =
    let a = c.args in
    let t = c.turns in
    let p = mwatch a.letter a.tenths in
    let at = subst (λ (x : Session Look). Stands p a.system.now.turn (rest x) (told x)) (sym c.fresh-session.ensures) (standing.begins p a.system.now.turn c.requires.2) in
    rw (not_ok c.from_residual.result c.from_residual.ensures.0) (standing.breaks_off p t.new.system.turn (c.in_err-turns.ensures.goes p refl refl at))

pub end-requires : goal.end-requires
end-requires g c =
    let long : length c.turns.new.out ≡ length c.args.out.now = search rules in
    omega (arith, long, c.requires.0, c.requires.1)

pub returns : goal.returns
returns g c =
    let a = c.args in
    let t = c.turns in
    let e = c.end in
    let p = mwatch a.letter a.tenths in
    let at = subst (λ (x : Session Look). Stands p a.system.now.turn (rest x) (told x)) (sym c.fresh-session.ensures) (standing.begins p a.system.now.turn c.requires.2) in
    standing.left p e.new.system.turn (e.ensures p (c.in_ok-turns.ensures.goes p refl refl at))
