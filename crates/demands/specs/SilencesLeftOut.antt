-- Silences that are left out are no damage: what is left are the words of a run of demand 3 again, so that all of demand 3
-- speaks of them. (That a press is seen as before is said beside it: survives_unheard in Saves.)
use Rattle.std.specs.Prelude.{ℕ, List}
use Rattle.frames.specs.Damage.{Fewer}
use Rattle.wire.specs.declared.Format.{Format}
use Rattle.ballbox.specs.Box.{FiveBytes}
use Rattle.ballbox.specs.Commands.{asks_for_reports}
use Rattle.ballbox.specs.declared.BallBox.{BallBox}
use Rattle.ballbox.specs.declared.Event.{Event}
use Rattle.ballbox.specs.declared.Stepped.{Stepped}
use Rattle.ballbox.proofs.Goodness.{step_stays_good}
use Rattle.history.specs.Runs.{words_given}
use Rattle.history.specs.Thinned.{Thins, Chosen}
use Rattle.history.proofs.Thinned as thinned
use Rattle.demands.specs.Demand3.{Run}

module _ {f : Format} {b : BallBox} {a : Stepped} {events : List Event} {answers : List Stepped} (run : Run f b a events answers) where
  -- with idle Sends left out it is a run of demand 3 again
  pub still_a_run : {fewer : List Event} {answered : List Stepped} → Thins a.next events answers fewer answered → Run f b a fewer answered
  still_a_run t =
      record {
        good = run.good;
        awake = run.awake;
        set = run.set;
        asked = thinned.thinned_hosts asks_for_reports t run.asked;
        permitted = thinned.thinned_run t run.permitted;
      }

  -- Whichever silences of its words are left out, there is such a choice by which the same box sends what is left.
  pub chosen : FiveBytes a.next.going → (words : List ℕ) → Fewer words (words_given answers) → Chosen a.next events answers words
  chosen five words few = thinned.chosen events answers a.next (step_stays_good b _ a run.set run.good) five run.permitted words few
