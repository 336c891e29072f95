-- At the loop's head what is done, joined to what the rest of the bytes gives, is the whole.
use Rattle.fold.specs.Calls.{Stands}
use Rattle.port.specs.Line.{hears_bytes}
use Rattle.port.proofs.line.line.Given as goal

abbrev pub invariant-loop-taken : goal.invariant-loop-taken
invariant-loop-taken l = Stands hears_bytes l.initial.next l.raw l.initial.out l.next l.taken l.written l.written l.out
