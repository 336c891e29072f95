-- A device that streams: where its memory is not emptied, no ninth change comes and all states have been shown, its
-- movement reports show as many presses as were made.
use Prim.Native.Nat.{ℕ}
use mathlib.Core.Path.{◌≡◌, refl}
use mathlib.Core.Bool.{Bool, true, false, not}
use mathlib.Core.List.{List, [], ◌∷◌, map}
use native.Mathlib.Omega.{arith}
use lib.Dec.{eqb}
use Rattle.numbers.proofs.Tested.{holds}
use Rattle.frames.specs.Passages.{nothing, finished_by}
use Rattle.wire.specs.Messages.{finished_reports}
use Rattle.wire.specs.Buttons.{presses, buttons_of}
use Rattle.wire.specs.declared.Format.TheVariants.{Mm}
use Rattle.ballbox.specs.Presses.{remembered}
use Rattle.ballbox.specs.Commands.{is_stream}
use Rattle.ballbox.specs.Events.{bytes_left}
use Rattle.ballbox.specs.declared.Event.{Event}
use Rattle.ballbox.specs.declared.Event.TheVariants.{Motion, Buttons, Host, Latch, Send, Period}
use Rattle.history.specs.History as box_history
use Rattle.history.specs.Presses.{buttons_told, never_ninth, box_after}
use Rattle.history.proofs.Asking.{hosts_by}
use Rattle.history.proofs.Presses.{at_rest_lem, streams_from}
use Rattle.history.proofs.Unmade.{Last}
use Rattle.history.proofs.Counts as counts
use Rattle.vsxxx.specs.Reports.{shown_by_puck}
use Rattle.vsxxx.specs.Buttons.{movements_in}
use Rattle.puck.specs.Rules.{letter_t, as_box}
use Rattle.puck.specs.Good.{good}
use Rattle.puck.specs.declared.Puck.{Puck}
use Rattle.puck.proofs.Parts.{Tests, none_going, one_going, parts}
use Rattle.puckhistory.specs.Runs.{puck_after, without_t}
use Rattle.puckhistory.specs.History.{passages_of}
use Rattle.puckhistory.specs.Carried.{Holds, by_box_lem}
use Rattle.puckhistory.specs.Presses.{leaves, all_leave}
use Rattle.puckhistory.proofs.AsBox.{box_passages, ball_after}
use Rattle.puckhistory.proofs.Presses.{leaves_t, handed_keeps}
use Rattle.puckhistory.proofs.Survives.{moves_as}

-- no self-test is going in a stream mode
streams_out : (p : Puck) → good p ≡ true → is_stream p.ball.settings.mode ≡ true → p.test.left ≡ 0
streams_out p k stream = go (parts p k).tests
  where
    go : Tests p → p.test.left ≡ 0
    go (none_going z w) = z
    go (one_going g) = absurd (holds (rw g.rests.mode at stream))

-- its box is told of the same buttons
told_same : (events : List Event) → buttons_told (map as_box events) ≡ buttons_told events
unfolding buttons_told
told_same [] = refl
told_same (Motion dx dy ∷ events) = told_same events
told_same (Buttons n ∷ events) = rw (told_same events)
told_same (Host byte ∷ events) = told_same events
told_same (Latch ∷ events) = told_same events
told_same (Send ∷ events) = told_same events
told_same (Period ∷ events) = told_same events

module _ (p : Puck) (k : good p ≡ true) (stream : is_stream p.ball.settings.mode ≡ true) (idle : bytes_left p.ball ≡ false) where
  -- with nothing going, nothing is under way
  pub rests_so : Holds p nothing
  rests_so =
      let has = parts p k in
      by_box_lem nothing (streams_out p k stream)
      (record { good = has.ball; awake = has.follows.awake; format = has.follows.format; carries = idle; sound = tt })

  pub as_many : (events : List Event) → remembered p.ball.memory ≡ [] → all_leave events ≡ true → never_ninth p.ball (map as_box events) ≡ true
      → remembered (puck_after p events).ball.memory ≡ []
      → (down : ℕ → Bool)
      → presses down (down p.ball.settings.buttons) (buttons_of (movements_in (finished_by shown_by_puck (passages_of p nothing events))))
      ≡ presses down (down p.ball.settings.buttons) (buttons_told events)
  unfolding presses
  as_many events none keeps never shown down =
      let b = p.ball in
      let has = parts p k in
      let z = streams_out p k stream in
      let no_t : without_t events ≡ true = hosts_by leaves (λ byte. not (eqb byte letter_t)) leaves_t events keeps in
      let streams = streams_from b nothing (at_rest_lem b has.ball idle) has.follows.awake stream in
      let last : Last b.settings.buttons b nothing = record { newest = rw none; going = tt } in
      let all = counts.as_many Mm down (λ n. refl) b.settings.buttons b nothing (map as_box events) streams (handed_keeps events keeps) last never in
      let end : remembered (box_after b (map as_box events)).memory ≡ [] = rw (ball_after p events k z no_t) at shown in
      let sent : movements_in (finished_by shown_by_puck (passages_of p nothing events)) ≡ finished_reports Mm (box_history.passages_of b nothing (map as_box events)) =
      rw (box_passages p nothing events k z no_t).0 (moves_as (box_history.passages_of b nothing (map as_box events))) in
      rw sent (omega (arith, rw (none, end, told_same events) at all))
