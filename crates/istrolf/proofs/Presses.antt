-- The press theorem over the C functions.
use mathlib.Core.Path.{◌≡◌}
use mathlib.Core.Bool.{true, false}
use mathlib.Core.List.{List, ◌∷◌, ◌++◌, map}
use Rattle.frames.specs.Passages.{Passage, silent, UnderWay, nothing, Unbroken, Unpaused, Sub}
use Rattle.wire.specs.Line.{letter_of, marked_of}
use Rattle.wire.specs.Messages.{Message, finished_reports}
use Rattle.wire.specs.Buttons.{buttons_of, buttons_in}
use Rattle.wire.specs.declared.Format.{Format}
use Rattle.reader.specs.State.{ready}
use Rattle.ballbox.specs.declared.BallBox.{BallBox}
use Rattle.ballbox.specs.declared.Event.{Event}
use Rattle.ballbox.specs.declared.Stepped.{Stepped}
use Rattle.history.specs.Presses.{no_host, only_streams, shown_by}
use Rattle.history.specs.Runs.{words_given}
use Rattle.demands.specs.Presses as demand
use Rattle.istrolf.specs.Readers as readers
use Rattle.istrolf.specs.Runs.{HandsOutBy, HandsOut}
use Rattle.istrolf.specs.Presses.{sent, Shown}
use Rattle.istrolf.proofs.Below.{hands_out, hands_out_by}

module _ {b : BallBox} {going : UnderWay Message} {events : List Event} {answers : List Stepped} (run : demand.Streaming b going events answers) where
  -- presses outlive a busy line
  pub presses_in_c : Shown b going events answers
  presses_in_c =
      record {
        in_order = demand.in_order run;
        again = demand.shown_again run;
        within = λ quiet slots. demand.within_slots run quiet slots;
      }

-- and the recorder sees each: its reader, ready or fresh, is handed the words of a run that begins where nothing is going
module _ {b : BallBox} {events : List Event} {answers : List Stepped} (run : demand.Streaming b nothing events answers)
    (f : Format) (set : b.settings.format ≡ letter_of f) (hosts : only_streams events ≡ true) where
  pub seen_marked_in_c : marked_of f ≡ true
      → HandsOutBy (readers.packed (ready (letter_of f))) (words_given answers) (finished_reports f (sent b nothing events))
  seen_marked_in_c m = hands_out_by (demand.seen_marked run f set hosts m)

  pub seen_unbroken_in_c : Unbroken (sent b nothing events)
      → HandsOutBy (readers.packed (ready (letter_of f))) (words_given answers) (finished_reports f (sent b nothing events))
  seen_unbroken_in_c u = hands_out_by (demand.seen_unbroken run f set hosts u)

  pub seen_without_host_in_c : no_host events ≡ true
      → HandsOutBy (readers.packed (ready (letter_of f))) (words_given answers) (finished_reports f (sent b nothing events))
  seen_without_host_in_c q = hands_out_by (demand.seen_without_host run f set hosts q)

  pub fresh_seen_marked_in_c : marked_of f ≡ true
      → HandsOut f (words_given answers) (finished_reports f (sent b nothing events))
  fresh_seen_marked_in_c m =
      hands_out f (words_given answers) (finished_reports f (sent b nothing events))
      (demand.fresh_seen_marked run f set hosts m)

  -- in U, T and W from the first silence on
  pub fresh_seen_in_c : (front rest : List (Passage Message))
      → sent b nothing events ≡ front ++ (silent ∷ rest)
      → marked_of f ≡ false
      → Unpaused front
      → Unbroken rest
      → HandsOut f (words_given answers) (finished_reports f rest)
  fresh_seen_in_c front rest is m p u =
      hands_out f (words_given answers) (finished_reports f rest)
      (demand.fresh_seen run f set hosts front rest is m p u)

  pub each_seen_in_c : Sub (map (buttons_in f) (shown_by (sent b nothing events))) (buttons_of (finished_reports f (sent b nothing events)))
  each_seen_in_c = demand.each_seen run f set hosts
