-- A good device.
use Rattle.std.specs.Prelude.{Bool, not, ◌&&◌, ◌||◌, eqb, ltb, leb}
use Rattle.wire.specs.Line.{letter_of}
use Rattle.wire.specs.declared.Format.TheVariants.{Mm}
use Rattle.ballbox.specs.Box.{mode_d, dormant, due}
use Rattle.ballbox.specs.Good as boxes
use Rattle.ballbox.specs.declared.BallBox.{BallBox}
use Rattle.puck.specs.Rules.{mode_r}
use Rattle.puck.specs.declared.Puck.{Puck}

-- a box in S, in mode R or D, awake, with nothing or a report going
unfoldable pub follows : BallBox → Bool
follows b =
    eqb b.settings.format (letter_of Mm) && (eqb b.settings.mode mode_r || eqb b.settings.mode mode_d) && not (dormant b) &&
    (eqb b.going.length 0 || eqb b.going.length 3)

-- nothing is going in it, it is in prompt mode, and nothing is due or remembered
unfoldable pub rests : BallBox → Bool
rests b = eqb b.going.length 0 && eqb b.settings.mode mode_d && not (due b) && eqb b.memory.count 0

-- no self-test, or one to four of its bytes left, while the box rests
unfoldable pub good_test : Puck → Bool
good_test p =
    (eqb p.test.left 0 && eqb p.test.buttons 0) || (ltb 0 p.test.left && leb p.test.left 4 && leb p.test.buttons 7 && rests p.ball)

unfoldable pub good : Puck → Bool
good p = boxes.good p.ball && follows p.ball && good_test p && leb p.revision 15 && leb p.maker 7
