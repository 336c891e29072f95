-- Demand 3 over the C functions.
use Prim.Native.Nat.{ℕ, ◌<◌}
use mathlib.Core.Path.{◌≡◌}
use mathlib.Core.Bool.{true}
use mathlib.Core.List.{List, ◌∷◌, ◌++◌}
use lib.ListN.{length}
use Rattle.frames.specs.Passages.{Passage, silent, finished, Unbroken, InOne, Sub}
use Rattle.frames.specs.Words.{line_words}
use Rattle.wire.specs.Line.{marked_of}
use Rattle.wire.specs.Holds.{carried}
use Rattle.wire.specs.Messages.{Latched, Message, report, message_bytes, finished_reports}
use Rattle.wire.specs.declared.Format.{Format}
use Rattle.reader.specs.DamagedLines.{Within, EndsAt}
use Rattle.ballbox.specs.declared.BallBox.{BallBox}
use Rattle.ballbox.specs.declared.Stepped.{Stepped}
use Rattle.ballbox.specs.declared.Event.{Event}
use Rattle.history.specs.Runs.{words_given}
use Rattle.demands.specs.Demand3 as demand
use Rattle.istrolf.specs.Runs.{HandsOut, HandsOutAt}
use Rattle.istrolf.proofs.Below.{hands_out, hands_out_at}

module _ {f : Format} {b : BallBox} {a : Stepped} {events : List Event} {answers : List Stepped} (run : demand.Run f b a events answers) where
  module _ {front : List ℕ} (in_front : demand.Front a front)
      (pre old new post : List ℕ)
      (line : words_given answers ≡ pre ++ (old ++ post))
      (legal : line_words new ≡ true)
      (before : List (Passage Message)) (r : Latched) (after : List (Passage Message))
      (is : demand.sent a events ≡ before ++ (finished (report r) ∷ after))
      (i : ℕ)
      (place : EndsAt f before front old new i) where
    -- "In the four formats with a marked first byte, each finished report that begins after the stretch is handed out as the box sent it."
    pub marked_in_c : marked_of f ≡ true
        → Within before pre old
        → HandsOutAt f (front ++ (pre ++ (new ++ post))) i (carried f r.report)
    marked_in_c m w =
        hands_out_at f (front ++ (pre ++ (new ++ post))) i (carried f r.report)
        (demand.marked run in_front pre old new post line legal before r after is i place m w)

    -- "In the other three this holds for each finished report that begins after a silence following the stretch, with no broken-off report between."
    pub unmarked_in_c : (quietly ahead : List (Passage Message))
        → before ≡ ahead ++ (silent ∷ quietly)
        → Unbroken quietly
        → Within ahead pre old
        → HandsOutAt f (front ++ (pre ++ (new ++ post))) i (carried f r.report)
    unmarked_in_c quietly ahead e u w =
        hands_out_at f (front ++ (pre ++ (new ++ post))) i (carried f r.report)
        (demand.unmarked run in_front pre old new post line legal before r after is i place quietly ahead e u w)

  -- "If the stretch only removed bytes of a single report of a marked format, exactly the finished reports other than that one are handed out, in
  -- the order sent."
  pub exactly_in_c : {front pre old : List ℕ} {others : List (Passage Message)} (new post : List ℕ)
      → demand.Front a front
      → marked_of f ≡ true
      → words_given answers ≡ pre ++ (old ++ post)
      → InOne message_bytes pre old (demand.sent a events) (demand.still_going a events) others
      → Sub new old
      → length new < length old
      → HandsOut f (front ++ (pre ++ (new ++ post))) (finished_reports f others)
  exactly_in_c {front} {pre} {old} {others} new post in_front m line one d less =
      hands_out f (front ++ (pre ++ (new ++ post))) (finished_reports f others) (demand.exactly run new post in_front m line one d less)
