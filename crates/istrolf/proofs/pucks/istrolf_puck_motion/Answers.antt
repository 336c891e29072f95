-- The motion as it was handed in.
use mir.Syntax.{w16}
use Rattle.ballbox.specs.declared.Event.TheVariants.{Motion}
use Rattle.numbers.proofs.Machine.{passed}
use Rattle.puck.specs.Promises.{stepped, step_of}
use Rattle.istrolf.proofs.pucks.istrolf_puck_motion.Goals as goal

pub returns : goal.returns
returns c = passed (λ dx dy. stepped (step_of c.args.puck (Motion dx dy))) w16 c.ranges.dx c.ranges.dy c.step.ensures
