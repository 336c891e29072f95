-- Presses that outlive a busy line, of a device: one that streams, with nothing going, over events of which no byte of the host's is D, P or T.
use Rattle.std.specs.Prelude.{ℕ, suc, ◌*◌, ◌≤◌, ◌≡◌, true, false, not, List, ◌++◌, map, length, eqb}
use Rattle.std.proofs.Common.{sym, ◌∙◌, ap, ltb-false, arith}
use Rattle.frames.specs.Passages.{Passage, nothing, Sub, finished_by}
use Rattle.wire.specs.Line.{size_by}
use Rattle.wire.specs.declared.Format.TheVariants.{Mm}
use Rattle.ballbox.specs.Presses.{remembered}
use Rattle.ballbox.specs.Events.{bytes_left}
use Rattle.ballbox.specs.declared.Event.{Event}
use Rattle.history.specs.History as box_history
use Rattle.history.specs.Carried.{SetTo}
use Rattle.history.specs.Presses.{no_host, changes_in, states_over, never_ninth, ShownAgain, slots_in}
use Rattle.history.proofs.Asking.{hosts_by}
use Rattle.history.proofs.Presses.{at_rest_lem}
use Rattle.vsxxx.specs.Reports.{PuckMessage, of_box_lem}
use Rattle.puck.specs.Device.{testing}
use Rattle.puck.specs.Rules.{mode_r, letter_t, as_box}
use Rattle.puck.specs.Good.{good}
use Rattle.puck.specs.declared.Puck.{Puck}
use Rattle.puck.specs.declared.PuckStepped.{PuckStepped}
use Rattle.puck.proofs.Parts.{Good, parts}
use Rattle.puckreader.specs.HandedOut.{HandsOut, finished_reports}
use Rattle.puckreader.proofs.Handed.{followed}
use Rattle.puckhistory.specs.Runs.{RunPromise, words_given, last_puck, as_box_answer, without_t}
use Rattle.puckhistory.specs.History.{in_box, passages_of, going_after}
use Rattle.puckhistory.specs.Carried.{Holds, by_box_lem}
use Rattle.puckhistory.specs.Presses.{leaves, all_leave, shown_in_puck, of_box, buttons_in}
use Rattle.puckhistory.proofs.Bridge.{in_box_lem, run_passages, run_sound}
use Rattle.puckhistory.proofs.AsBox.{box_run, last_ball, box_passages, finished_as}
use Rattle.puckhistory.proofs.Presses.{box_again, shown_among, leaves_t, handed_keeps, same_events, three_bytes}
use Rattle.demands.specs.Presses as presses
use Rattle.demands.specs.Presses.{AllShown}

-- such a device, and a run of it: any answers that the promise of the public step permits
pub record Streaming (p : Puck) (events : List Event) (answers : List PuckStepped) : Type 0 where
  pub good : good p ≡ true
  pub stream : p.ball.settings.mode ≡ mode_r
  pub no_test : testing p ≡ false
  pub idle : bytes_left p.ball ≡ false
  pub keeps : all_leave events ≡ true
  pub permitted : RunPromise p events answers

module _ {p : Puck} {events : List Event} {answers : List PuckStepped} (run : Streaming p events answers) where
  -- what it sent, the states that its finished reports showed, and the device after it
  abbrev pub sent : List (Passage PuckMessage)
  sent = passages_of p nothing events

  abbrev pub shown : List ℕ
  shown = finished_by shown_in_puck sent

  abbrev pub last : Puck
  last = last_puck p answers

  has : Good p
  has = parts p run.good

  none_left : p.test.left ≡ 0
  none_left = omega (arith, ltb-false 0 p.test.left run.no_test)

  no_t : without_t events ≡ true
  no_t = hosts_by leaves (λ byte. not (eqb byte letter_t)) leaves_t events run.keeps

  -- the box's run, and its passages
  box : presses.Streaming p.ball nothing (map as_box events) (map as_box_answer answers)
  box =
      record {
        box = at_rest_lem p.ball has.ball run.idle;
        awake = has.follows.awake;
        stream = rw run.stream;
        keeps = handed_keeps events run.keeps;
        permitted = box_run p events answers run.good none_left no_t run.permitted;
      }

  same_shown : presses.shown box ≡ shown
  same_shown = sym (finished_as of_box_lem shown_in_puck (presses.sent box))
      ∙ ap (finished_by shown_in_puck) (sym (box_passages p nothing events run.good none_left no_t).0)

  same_last : presses.last box ≡ last.ball
  same_last = sym (last_ball p answers)

  -- "in order, [..] each shown by a report of its own. [..] A ninth change replaces the newest"
  pub in_order : states_over p.ball (remembered p.ball.memory) (map as_box events) ≡ shown ++ remembered last.ball.memory
  in_order = rw (same_shown, same_last) at (presses.in_order box)

  pub in_order_plainly : never_ninth p.ball (map as_box events) ≡ true
      → remembered p.ball.memory ++ changes_in p.ball (map as_box events) ≡ shown ++ remembered last.ball.memory
  in_order_plainly never = rw (same_shown, same_last) at (presses.in_order_plainly box never)

  -- "so a broken-off report is followed by another with the same buttons"
  pub shown_again : ShownAgain (of_box sent) (in_box (going_after p nothing events))
  shown_again =
      let s = box_passages p nothing events run.good none_left no_t in
      rw (s.0, box_again (presses.sent box), s.1, in_box_lem (box_history.going_after p.ball nothing (map as_box events))) (presses.shown_again box)

  -- within so many slots: with k remembered, after (k + 1) times the three slots of a report those k have been shown
  pub within_slots : no_host events ≡ true
      → suc (length (remembered p.ball.memory)) * 3 ≤ slots_in events
      → AllShown p.ball events shown last.ball
  within_slots quiet slots =
      let e = same_events events quiet in
      let size : size_by p.ball.settings.format ≡ 3 = three_bytes p.ball.settings.format has.follows.format in
      rw (same_shown, same_last, e) at (presses.within_slots box (rw e quiet) (rw (e, size) slots))

  -- a recorder sees them: a fresh reader is handed the words of the run, and hands out exactly the finished reports
  pub seen : HandsOut (words_given answers) (finished_reports sent)
  seen =
      let k : SetTo Mm p.ball nothing = record {
        good = has.ball;
        awake = has.follows.awake;
        format = has.follows.format;
        carries = run.idle;
        sound = tt;
      } in
      let h : Holds p nothing = by_box_lem nothing none_left k in
      let s = run_sound p nothing events run.good h in
      rw (run_passages p nothing events answers run.good h run.permitted) (followed sent (going_after p nothing events) s.0 s.1)

  -- so each state that was shown is seen, in order
  pub each_seen : Sub shown (map buttons_in (finished_reports sent))
  each_seen = shown_among sent
