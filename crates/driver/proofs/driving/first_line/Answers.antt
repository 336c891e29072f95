-- The format, or a bad line.
use mathlib.Core.Path.{ap}
use Rattle.ballbox.specs.declared.Stepped.{Stepped}
use Rattle.driver.proofs.driving.first_line.Goals as goal

pub returns-in-Format : goal.returns-in-Format
returns-in-Format c = rw (c.in-Format.is, ap (λ (s : Stepped). s.next) c.step-step.ensures, c.fresh-fresh.ensures)
