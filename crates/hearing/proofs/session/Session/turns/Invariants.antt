-- Turn after turn.
use Rattle.std.proofs.Common.{◌≡◌}
use Rattle.shell.specs.Standing.{Program, Stands}
use Rattle.hearing.specs.Turns.{over}
use Rattle.hearing.proofs.session.Session.turns.Given as goal

abbrev pub invariant-loop : goal.invariant-loop
invariant-loop g l = (p : Program) → p.input ≡ l.names.input.now → p.output ≡ l.names.output.now → Stands p l.initial.system.turn (over g.T.Teller.text l.initial.self) (over g.T.Teller.told l.initial.self) → Stands p l.system.turn (over g.T.Teller.text l.self) (over g.T.Teller.told l.self)
