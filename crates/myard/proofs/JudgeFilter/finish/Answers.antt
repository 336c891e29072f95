-- The line of the verdict, all of it.
use Rattle.std.proofs.Common.{ℕ, List, [], take, sym, subst, is_ok}
use Rattle.shell.specs.Standing.{Closes}
use Rattle.shell.proofs.Laws as standing
use Rattle.myard.specs.Program.{myard}
use Rattle.myard.proofs.Turns.{short_enough, line_said}
use Rattle.myard.proofs.JudgeFilter.finish.Goals as goal

pub shared_ref_as_front-show : goal.shared_ref_as_front-show
shared_ref_as_front-show c = short_enough c.args.self c.last.result c.line_for-text.result c.last.ensures c.line_for-text.ensures

pub returns : goal.returns
returns c =
    let last = c.last in
    let line = c.line_for-text in
    let said = line_said c.args.self last.result line.result last.ensures line.ensures in
    λ l.
    standing.last myard c.args.system.now.turn c.show.new.self.turn (is_ok c.show.result) (take line.result.len line.result.bytes)
    (subst (λ (text : List ℕ). Closes myard c.args.system.now.turn text []) (sym said) l.closes) c.show.ensures.handed
