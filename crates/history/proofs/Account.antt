-- The whole account of a move: what a step adds to the motion fed, it adds to the seven parts.
use Prim.Native.Nat.{ℕ, ◌+◌, ◌≤◌}
use mathlib.Core.Path.{◌≡◌, refl, sym, ap, ap₂, subst, ◌∙◌}
use mathlib.Core.Bool.{Bool, true, false, not, cond, ◌&&◌, ◌||◌, and-false}
use mathlib.Core.List.{List, [], ◌∷◌, ◌++◌}
use native.Mathlib.Omega.{arith}
use lib.Dec.{eqb}
use lib.ListN.{length}
use lib.IntN.{ℤ, pos, ◌+ℤ◌, +ℤ_assoc, +ℤ_idl, +ℤ_idr}
use borrow.Author.Tests.{eqb-true, ne_eqb, not-true}
use Rattle.numbers.proofs.Choices.{cases}
use Rattle.numbers.proofs.Tested.{holds, left, right}
use Rattle.numbers.proofs.Sums.{none, term, ◌plus◌, same_terms}
use Rattle.frames.specs.Passages.{Passage, silent, finished, broken, UnderWay, nothing, first}
use Rattle.frames.specs.Sender.{Told, told, sent_one, broken_off, passages_over, going_over}
use Rattle.wire.specs.Line.{letter_of, known}
use Rattle.wire.specs.declared.Format.TheVariants.{FiveByte}
use Rattle.wire.specs.Messages.{Latched, Message, report, reply, message_bytes}
use Rattle.wire.specs.declared.Report.{Report}
use Rattle.ballbox.specs.Motion.{counted, counted_over, moved_by, is_a}
use Rattle.ballbox.specs.Latching.{movement, taken, taken_over, cleared, latched, latched_report, second_latched}
use Rattle.ballbox.specs.Thrown.{no_excess, sums, no_sums}
use Rattle.ballbox.specs.Excesses.{limit_throws, counter_throws, thrown}
use Rattle.ballbox.specs.Box.{pair, mode_d, Step, dormant}
use Rattle.ballbox.specs.Commands.{is_stream, letter_p, space, letterf, lettert, byte05, letterd, command_of, reply_to, obeyed}
use Rattle.ballbox.specs.Events.{on_motion, on_buttons, on_period, bytes_left, wanted, latching, second_now, with_byte_ready, next_byte, sending, dropped, on_host, awake, woken, asleep}
use Rattle.ballbox.specs.Good.{good}
use Rattle.ballbox.specs.Promises.{above_seven}
use Rattle.ballbox.specs.declared.BallBox.{BallBox}
use Rattle.ballbox.specs.declared.Settings.{Settings}
use Rattle.ballbox.specs.declared.Command.{Command}
use Rattle.ballbox.specs.declared.Command.TheVariants.{SetFormat, SetStream, SetPrompt, AskReport, AskAck, AskCode, AskLetters, AskButtons, Sleep, Ignored}
use Rattle.ballbox.specs.declared.Pair.{Pair}
use Rattle.ballbox.specs.declared.Track.{Track}
use Rattle.ballbox.specs.declared.Excess.{Excess}
use Rattle.ballbox.specs.declared.Sums.{Sums}
use Rattle.ballbox.specs.declared.Event.{Event}
use Rattle.ballbox.specs.declared.Event.TheVariants.{Motion, Buttons, Host, Latch, Send, Period}
use Rattle.ballbox.proofs.Cases.{latching_busy, latching_wanted, latching_idle, sending_byte, sending_silence}
use Rattle.ballbox.proofs.Obeying.{dropped_settings}
use Rattle.ballbox.proofs.Goodness.{stepped_good}
use Rattle.ballbox.proofs.Throwing.{taken_whole, counted_whole}
use Rattle.ballbox.proofs.Refusals.{ruled, refused_next}
use Rattle.history.specs.History.{begun, paired_at, paired, with_pair, is_five, unsent_reply, when_awake, when_asleep, told_by, next_box, passages_of, going_after}
use Rattle.history.specs.Presses.{box_after}
use Rattle.history.specs.Sums.{Kind, over_limit, over_counter, Axis, x_axis, y_axis, excess_of, thrown_in, sum_of}
use Rattle.history.specs.Carried.{Carries}
use Rattle.history.proofs.Sending.{bytes_left_lem}
use Rattle.history.proofs.Bridge.{step_sends, told_is, buttons_line}
use Rattle.history.proofs.Asking.{latching_alike, sending_alike, refused_told}
use Rattle.history.specs.Account.{along, added_over, while_awake, over, fed_by, value_of, value_in, values_finished, value_going, values_broken, in_finished, in_going, in_counter, in_broken, cleared_by, selects_a, never_a}

-- what an event of a box that is awake throws away
abbrev latches_now : BallBox → Event → Bool
latches_now b (Motion dx dy) = false
latches_now b (Buttons n) = false
latches_now b (Host byte) = false
latches_now b Latch = not (bytes_left b) && wanted b
latches_now b Send = bytes_left b && second_now b
latches_now b Period = false

abbrev excess_along : Axis → Excess → ℤ
excess_along x_axis e = e.x
excess_along y_axis e = e.y

abbrev over_limit_by : Axis → BallBox → Event → ℤ
over_limit_by a b e = cond (latches_now b e) (excess_along a (taken_over b.settings.format b.track)) (pos 0)

abbrev over_counter_by : Axis → BallBox → Event → ℤ
over_counter_by a b (Motion dx dy) = excess_along a (counted_over b.track.counter dx dy)
over_counter_by a b (Buttons n) = pos 0
over_counter_by a b (Host byte) = pos 0
over_counter_by a b Latch = pos 0
over_counter_by a b Send = pos 0
over_counter_by a b Period = pos 0

-- what a step ends or loses, part by part
pub record Parts : Type 0 where
  pub finished : ℤ
  pub limit : ℤ
  pub counter : ℤ
  pub broken : ℤ
  pub cleared : ℤ

abbrev pub all : Parts → ℤ
all p = p.finished +ℤ (p.limit +ℤ (p.counter +ℤ (p.broken +ℤ p.cleared)))

abbrev with_more : Parts → Parts → Parts
with_more p q =
    record {
      finished = p.finished +ℤ q.finished;
      limit = p.limit +ℤ q.limit;
      counter = p.counter +ℤ q.counter;
      broken = p.broken +ℤ q.broken;
      cleared = p.cleared +ℤ q.cleared;
    }

all_more : (p q : Parts) → all (with_more p q) ≡ all p +ℤ all q
all_more p q =
    same_terms (p.finished ∷ p.limit ∷ p.counter ∷ p.broken ∷ p.cleared ∷ q.finished ∷ q.limit ∷ q.counter ∷ q.broken ∷ q.cleared ∷ [])
    ((term 0 plus term 5) plus (term 1 plus term 6) plus (term 2 plus term 7) plus (term 3 plus term 8) plus (term 4 plus term 9))
    ((term 0 plus term 1 plus term 2 plus term 3 plus term 4) plus (term 5 plus term 6 plus term 7 plus term 8 plus term 9))
    refl

-- an event that ends nothing and changes no counter
pub quiet_accounts : (x y : ℤ) → (x +ℤ y) +ℤ pos 0 ≡ (pos 0 +ℤ (pos 0 +ℤ (pos 0 +ℤ (pos 0 +ℤ pos 0)))) +ℤ (x +ℤ y)
quiet_accounts x y = same_terms (x ∷ y ∷ []) ((term 0 plus term 1) plus none) ((none plus none plus none plus none plus none) plus (term 0 plus term 1)) refl

-- the values of passages in two parts; and of what is going when it is broken off, with a counter of which a part is cleared
module _ {K : Type 0} (value : K → ℤ) where
  finished_more : (p q : List (Passage K)) → values_finished value (p ++ q) ≡ values_finished value p +ℤ values_finished value q
  finished_more [] q = sym (+ℤ_idl (values_finished value q))
  finished_more (silent ∷ p) q = finished_more p q
  finished_more (finished m ∷ p) q = ap (λ (x : ℤ). value m +ℤ x) (finished_more p q) ∙ sym (+ℤ_assoc (value m) (values_finished value p) (values_finished value q))
  finished_more (broken n m ∷ p) q = finished_more p q

  broken_more : (p q : List (Passage K)) → values_broken value (p ++ q) ≡ values_broken value p +ℤ values_broken value q
  broken_more [] q = sym (+ℤ_idl (values_broken value q))
  broken_more (silent ∷ p) q = broken_more p q
  broken_more (finished m ∷ p) q = broken_more p q
  broken_more (broken n m ∷ p) q = ap (λ (x : ℤ). value m +ℤ x) (broken_more p q) ∙ sym (+ℤ_assoc (value m) (values_broken value p) (values_broken value q))

  pub broken_accounts : (g : UnderWay K) (c cleared now : ℤ) → cleared +ℤ now ≡ c
      → (value_going value g +ℤ c) +ℤ pos 0 ≡ (values_finished value (broken_off g) +ℤ (pos 0 +ℤ (pos 0 +ℤ (values_broken value (broken_off g) +ℤ cleared)))) +ℤ (pos 0 +ℤ now)
  broken_accounts nothing c cleared now e =
      ap (λ (x : ℤ). (pos 0 +ℤ x) +ℤ pos 0) (sym e)
      ∙ same_terms (cleared ∷ now ∷ []) ((none plus (term 0 plus term 1)) plus none) ((none plus none plus none plus none plus term 0) plus (none plus term 1)) refl
  broken_accounts (first n m) c cleared now e =
      ap (λ (x : ℤ). (value m +ℤ x) +ℤ pos 0) (sym e)
      ∙ same_terms (value m ∷ cleared ∷ now ∷ []) ((term 0 plus (term 1 plus term 2)) plus none)
      ((none plus none plus none plus (term 0 plus none) plus term 1) plus (none plus term 2)) refl

-- A device with these events: its step, what it tells of the line, what its messages say and its counter, and what an event feeds, throws away and clears.
pub record Moved (K S : Type 0) : Type 0 where
  pub next : S → Event → S
  pub tells : S → Event → UnderWay K → Told K
  pub value : K → ℤ
  pub counter : S → ℤ
  pub fed : S → Event → ℤ
  pub limit : S → Event → ℤ
  pub sixteen : S → Event → ℤ
  pub cleared : S → Event → ℤ

module _ {K S : Type 0} (d : Moved K S) where
  -- what is on its way
  abbrev pub under_way : S → UnderWay K → ℤ
  under_way s g = value_going d.value g +ℤ d.counter s

  abbrev pub parts_by : S → Event → List (Passage K) → Parts
  parts_by s e passages =
      record {
        finished = values_finished d.value passages;
        limit = d.limit s e;
        counter = d.sixteen s e;
        broken = values_broken d.value passages;
        cleared = d.cleared s e;
      }

  -- an event adds to the parts, and to what is on its way, what it adds to the motion fed
  abbrev pub Balances : S → Event → UnderWay K → S → Told K → Type 0
  Balances s e g next t = under_way s g +ℤ d.fed s e ≡ all (parts_by s e t.passages) +ℤ under_way next t.going

  -- each event of a run does, which ends here
  abbrev pub Balanced : S → UnderWay K → List Event → S → Type 0
  Balanced s g [] end = s ≡ end
  Balanced s g (e ∷ events) end = Balances s e g (d.next s e) (d.tells s e g) × Balanced (d.next s e) (d.tells s e g).going events end

  abbrev parts_over : S → UnderWay K → List Event → Parts
  parts_over s g events =
      record {
        finished = values_finished d.value (passages_over d.next d.tells s g events);
        limit = added_over d.next d.limit s events;
        counter = added_over d.next d.sixteen s events;
        broken = values_broken d.value (passages_over d.next d.tells s g events);
        cleared = added_over d.next d.cleared s events;
      }

  accounts : (s : S) (g : UnderWay K) (events : List Event) (end : S) → Balanced s g events end
      → under_way s g +ℤ added_over d.next d.fed s events ≡ all (parts_over s g events) +ℤ under_way end (going_over d.next d.tells s g events)
  unfolding added_over passages_over going_over
  accounts s g [] end h = quiet_accounts (value_going d.value g) (d.counter s) ∙ rw h
  accounts s g (e ∷ events) end h =
      let t = d.tells s e g in
      let next = d.next s e in
      let more = added_over d.next d.fed next events in
      let now = parts_by s e t.passages in
      let rest = parts_over next t.going events in
      let last = under_way end (going_over d.next d.tells next t.going events) in
      let later = passages_over d.next d.tells next t.going events in
      sym (+ℤ_assoc (under_way s g) (d.fed s e) more)
      ∙ (ap (λ (x : ℤ). x +ℤ more) h.0
      ∙ (+ℤ_assoc (all now) (under_way next t.going) more
      ∙ (ap (λ (x : ℤ). all now +ℤ x) (accounts next t.going events end h.1)
      ∙ (sym (+ℤ_assoc (all now) (all rest) last)
      ∙ (ap (λ (x : ℤ). x +ℤ last) (sym (all_more now rest))
      ∙ rw (finished_more d.value t.passages later, broken_more d.value t.passages later))))))

  -- the account of a run at whose start nothing is on its way
  pub balance : (s : S) (g : UnderWay K) (events : List Event) (end : S) → Balanced s g events end → under_way s g ≡ pos 0
      → added_over d.next d.fed s events
      ≡ values_finished d.value (passages_over d.next d.tells s g events)
      +ℤ (value_going d.value (going_over d.next d.tells s g events)
      +ℤ (d.counter end
      +ℤ (added_over d.next d.limit s events
      +ℤ (added_over d.next d.sixteen s events
      +ℤ (values_broken d.value (passages_over d.next d.tells s g events)
      +ℤ added_over d.next d.cleared s events)))))
  balance s g events end h z =
      let p = parts_over s g events in
      let n = value_going d.value (going_over d.next d.tells s g events) in
      sym (+ℤ_idl _)
      ∙ (ap (λ (x : ℤ). x +ℤ added_over d.next d.fed s events) (sym z)
      ∙ (accounts s g events end h
      ∙ same_terms (p.finished ∷ p.limit ∷ p.counter ∷ p.broken ∷ p.cleared ∷ n ∷ d.counter end ∷ []) ((term 0 plus term 1 plus term 2 plus term 3 plus term 4) plus (term 5 plus term 6))
      (term 0 plus term 5 plus term 6 plus term 1 plus term 2 plus term 3 plus term 4) refl))

-- a good box, not set to A, with what is going in it; of a report of which at most three bytes have gone the second pair is to come
abbrev pub Unpaired : UnderWay Message → Type 0
Unpaired nothing = Unit {0}
Unpaired (first n (report l)) = n ≤ 3 → (l.report.x2 ≡ pos 0) × (l.report.y2 ≡ pos 0)
Unpaired (first n (reply bytes)) = Unit {0}

pub record Standing (b : BallBox) (g : UnderWay Message) : Type 0 where
  pub good : good b ≡ true
  pub carries : Carries b g
  pub relative : is_a b.settings.format ≡ false
  pub unpaired : Unpaired g

-- a format command clears the counters and sets the format; the others leave both
Other : Command → Type 0
Other (SetFormat f) = ⊥
Other (SetStream m) = Unit {0}
Other SetPrompt = Unit {0}
Other AskReport = Unit {0}
Other AskAck = Unit {0}
Other AskCode = Unit {0}
Other AskLetters = Unit {0}
Other AskButtons = Unit {0}
Other Sleep = Unit {0}
Other Ignored = Unit {0}

other_command : (byte : ℕ) → known byte ≡ false → Other (command_of byte)
unfolding command_of Other
other_command byte e =
    rw e
    (cases Other (is_stream byte) (λ _. tt)
    (λ _. cases Other (eqb byte mode_d) (λ _. tt)
    (λ _. cases Other (eqb byte letter_p) (λ _. tt)
    (λ _. cases Other (eqb byte space) (λ _. tt)
    (λ _. cases Other (eqb byte letterf) (λ _. tt)
    (λ _. cases Other (eqb byte lettert) (λ _. tt) (λ _. cases Other (eqb byte byte05) (λ _. tt) (λ _. cases Other (eqb byte letterd) (λ _. tt) (λ _. tt)))))))))

other_leaves : (c : Command) (b : BallBox) → Other c → ((obeyed c b).track ≡ b.track) × ((obeyed c b).settings.format ≡ b.settings.format)
unfolding obeyed Other
other_leaves (SetFormat f) b o = absurd o
other_leaves (SetStream m) b o = (refl, refl)
other_leaves SetPrompt b o = (refl, refl)
other_leaves AskReport b o = (refl, refl)
other_leaves AskAck b o = (refl, refl)
other_leaves AskCode b o = (refl, refl)
other_leaves AskLetters b o = (refl, refl)
other_leaves AskButtons b o = (refl, refl)
other_leaves Sleep b o = (refl, refl)
other_leaves Ignored b o = (refl, refl)

dropped_track : (b : BallBox) → (dropped b).track ≡ b.track
unfolding dropped
dropped_track b = cases (λ (x : BallBox). x.track ≡ b.track) (bytes_left b) (λ e. refl) (λ e. refl)

set_command : (byte : ℕ) → known byte ≡ true → command_of byte ≡ SetFormat byte
unfolding command_of
set_command byte e = rw e

host_sets : (byte : ℕ) (b : BallBox) → known byte ≡ true → ((on_host byte b).next.track ≡ cleared b.track) × ((on_host byte b).next.settings.format ≡ byte)
unfolding on_host obeyed
host_sets byte b e = rw (set_command byte e) (ap cleared (dropped_track b), refl)

host_leaves : (byte : ℕ) (b : BallBox) → known byte ≡ false → ((on_host byte b).next.track ≡ b.track) × ((on_host byte b).next.settings.format ≡ b.settings.format)
unfolding on_host
host_leaves byte b e =
    let l = other_leaves (command_of byte) (dropped b) (other_command byte e) in
    (l.0 ∙ dropped_track b, l.1 ∙ ap (λ (x : Settings). x.format) (dropped_settings b))

-- the second pair is latched now, or not
second_now_lem : (b : BallBox) (n : ℕ) (l : Latched) → Carries b (first n (report l)) → second_now b ≡ is_five l.format && eqb n 3
second_now_lem b n l h = rw (h.1.sendable.0, h.0)

reply_plain : (b : BallBox) (n : ℕ) (bytes : List ℕ) → Carries b (first n (reply bytes)) → second_now b ≡ false
reply_plain b n bytes h = rw (h.0, ne_eqb n 3 (λ q. omega (arith, h.1.left, h.1.sendable))) (and-false (eqb b.settings.format (letter_of FiveByte)))

-- what comes to something while awake
awake_is : (b : BallBox) (s : Bool) → dormant b ≡ s → (v : ℤ) → while_awake b v ≡ cond s (pos 0) v
awake_is b s q v = ap (λ (t : Bool). cond t (pos 0) v) q

nothing_comes : (b : BallBox) → while_awake b (pos 0) ≡ pos 0
nothing_comes b = cases (λ (v : ℤ). v ≡ pos 0) (dormant b) (λ _. refl) (λ _. refl)

module _ (a : Axis) where
  -- what is on its way, and what an event adds
  abbrev on_way : BallBox → UnderWay Message → ℤ
  on_way b g = in_going a g +ℤ in_counter a b

  abbrev parts_of : BallBox → Event → List (Passage Message) → Parts
  parts_of b e passages =
      record {
        finished = in_finished a passages;
        limit = over_limit_by a b e;
        counter = over_counter_by a b e;
        broken = in_broken a passages;
        cleared = cleared_by a b e;
      }

  -- an event adds to the parts, and to what is on its way, what it adds to the motion fed
  abbrev Accounts : BallBox → Event → UnderWay Message → BallBox → Told Message → Type 0
  Accounts b e g c t = on_way b g +ℤ fed_by a b e ≡ all (parts_of b e t.passages) +ℤ on_way c t.going

  counted_along : (c : Pair) (dx dy : ℤ) → along a (counted c dx dy) +ℤ excess_along a (counted_over c dx dy) ≡ along a c +ℤ along a (pair dx dy)
  counted_along c dx dy = go a
    where
      go : (a : Axis) → along a (counted c dx dy) +ℤ excess_along a (counted_over c dx dy) ≡ along a c +ℤ along a (pair dx dy)
      go x_axis = (counted_whole c dx dy).0
      go y_axis = (counted_whole c dx dy).1

  motion_accounts : (b : BallBox) (dx dy : ℤ) (g : UnderWay Message) → Accounts b (Motion dx dy) g (on_motion dx dy b) (told [] g)
  unfolding moved_by
  motion_accounts b dx dy g =
      let c = b.track.counter in
      let v = in_going a g in
      let o = excess_along a (counted_over c dx dy) in
      let k = along a (counted c dx dy) in
      +ℤ_assoc v (along a c) (along a (pair dx dy))
      ∙ (ap (λ (x : ℤ). v +ℤ x) (sym (counted_along c dx dy))
      ∙ same_terms (v ∷ k ∷ o ∷ []) (term 0 plus (term 1 plus term 2)) ((none plus none plus term 2 plus none plus none) plus (term 0 plus term 1)) refl)

  -- a pair that is taken, and its excess, are the counters, but in A
  taken_along : (letter : ℕ) (t : Track) → is_a letter ≡ false → along a (taken letter t) +ℤ excess_along a (taken_over letter t) ≡ along a t.counter
  unfolding movement
  taken_along letter t r = go a
    where
      go : (a : Axis) → along a (taken letter t) +ℤ excess_along a (taken_over letter t) ≡ along a t.counter
      go x_axis = (taken_whole letter t).0 ∙ rw r
      go y_axis = (taken_whole letter t).1 ∙ rw r

  cleared_along : (t : Track) → along a (cleared t).counter ≡ pos 0
  unfolding cleared
  cleared_along t = go a
    where
      go : (a : Axis) → along a (cleared t).counter ≡ pos 0
      go x_axis = refl
      go y_axis = refl

  latched_value : (b : BallBox) → value_of a (latched_report b) ≡ along a (taken b.settings.format b.track)
  unfolding latched_report
  latched_value b = go a
    where
      go : (a : Axis) → value_of a (latched_report b) ≡ along a (taken b.settings.format b.track)
      go x_axis = +ℤ_idr _
      go y_axis = +ℤ_idr _

  -- a report whose second pair was to come, with it
  with_pair_lem : (r : Report) → (r.x2 ≡ pos 0) × (r.y2 ≡ pos 0) → (p : Pair) (l c : ℤ) → along a p +ℤ l ≡ c → value_of a r +ℤ c ≡ l +ℤ (value_of a (with_pair p r) +ℤ pos 0)
  with_pair_lem r z p l c e = go a e
    where
      put : (one two second : ℤ) → second ≡ pos 0 → two +ℤ l ≡ c → (one +ℤ second) +ℤ c ≡ l +ℤ ((one +ℤ two) +ℤ pos 0)
      put one two second y q =
          ap₂ (λ (s t : ℤ). (one +ℤ s) +ℤ t) y (sym q)
          ∙ same_terms (one ∷ two ∷ l ∷ []) ((term 0 plus none) plus (term 1 plus term 2)) (term 2 plus ((term 0 plus term 1) plus none)) refl

      go : (a : Axis) → along a p +ℤ l ≡ c → value_of a r +ℤ c ≡ l +ℤ (value_of a (with_pair p r) +ℤ pos 0)
      go x_axis q = put r.x1 p.x r.x2 z.0 q
      go y_axis q = put r.y1 p.y r.y2 z.1 q

  -- Latch
  latched_accounts : (v l c : ℤ) → v +ℤ l ≡ c → (pos 0 +ℤ c) +ℤ pos 0 ≡ (pos 0 +ℤ (l +ℤ (pos 0 +ℤ (pos 0 +ℤ pos 0)))) +ℤ (v +ℤ pos 0)
  latched_accounts v l c e =
      ap (λ (x : ℤ). (pos 0 +ℤ x) +ℤ pos 0) (sym e)
      ∙ same_terms (v ∷ l ∷ []) ((none plus (term 0 plus term 1)) plus none) ((none plus term 1 plus none plus none plus none) plus (term 0 plus none)) refl

  latch_accounts : (b : BallBox) (g : UnderWay Message) → Standing b g → Accounts b Latch g (latching b) (told [] (begun b g))
  unfolding latched
  latch_accounts b (first n m) k =
      let l = bytes_left_lem b n m k.carries in
      rw (l, latching_busy b l) (quiet_accounts (value_in a m) (in_counter a b))
  latch_accounts b nothing k = go (wanted b) refl
    where
      go : (t : Bool) → wanted b ≡ t → Accounts b Latch nothing (latching b) (told [] (begun b nothing))
      go true w =
          rw (w, k.carries, latching_wanted b k.carries w, latched_value b, cleared_along b.track)
          (latched_accounts (along a (taken b.settings.format b.track)) (excess_along a (taken_over b.settings.format b.track)) (in_counter a b)
          (taken_along b.settings.format b.track k.relative))
      go false w = rw (w, k.carries, latching_idle b k.carries w) (quiet_accounts (pos 0) (in_counter a b))

  -- Host: what is going is broken off, and a format command clears the counter
  reply_value : (bytes : List ℕ) → in_going a (unsent_reply bytes) ≡ pos 0
  reply_value [] = refl
  reply_value (byte ∷ bytes) = refl

  host_accounts : (b : BallBox) (byte : ℕ) (g : UnderWay Message)
      → Accounts b (Host byte) g (on_host byte b).next (told (broken_off g) (unsent_reply (reply_to b (command_of byte))))
  host_accounts b byte g = rw (reply_value (reply_to b (command_of byte))) (go (known byte) refl)
    where
      go : (t : Bool) → known byte ≡ t
          → (in_going a g +ℤ in_counter a b) +ℤ pos 0
          ≡ (in_finished a (broken_off g) +ℤ (pos 0 +ℤ (pos 0 +ℤ (in_broken a (broken_off g) +ℤ cleared_by a b (Host byte))))) +ℤ (pos 0 +ℤ in_counter a (on_host byte b).next)
      go true e = rw (e, (host_sets byte b e).0, cleared_along b.track) (broken_accounts (value_in a) g (in_counter a b) (in_counter a b) (pos 0) (+ℤ_idr _))
      go false e = rw (e, (host_leaves byte b e).0) (broken_accounts (value_in a) g (in_counter a b) (pos 0) (in_counter a b) (+ℤ_idl _))

  -- Send: U's second pair, and then a byte, which may end the report
  paired_accounts : (b : BallBox) (n : ℕ) (m : Message) → Standing b (first n m)
      → value_in a m +ℤ in_counter a b ≡ cond (second_now b) (excess_along a (taken_over b.settings.format b.track)) (pos 0) +ℤ (value_in a (paired_at b n m) +ℤ in_counter a (with_byte_ready b))
  unfolding with_byte_ready second_latched
  paired_accounts b n (reply bytes) k =
      let e : second_now b ≡ false = reply_plain b n bytes k.carries in
      rw e (sym (+ℤ_idl _))
  paired_accounts b n (report l) k = go (is_five l.format && eqb n 3) refl
    where
      now : second_now b ≡ is_five l.format && eqb n 3
      now = second_now_lem b n l k.carries

      go : (t : Bool) → is_five l.format && eqb n 3 ≡ t
          → value_in a (report l) +ℤ in_counter a b ≡ cond (second_now b) (excess_along a (taken_over b.settings.format b.track)) (pos 0) +ℤ (value_in a (paired_at b n (report l)) +ℤ in_counter a (with_byte_ready b))
      go true e =
          let z = k.unpaired (omega (arith, eqb-true n 3 (right (is_five l.format) (eqb n 3) e))) in
          rw (now, e, cleared_along b.track) (with_pair_lem l.report z (taken b.settings.format b.track) (excess_along a (taken_over b.settings.format b.track)) (in_counter a b) (taken_along b.settings.format b.track k.relative))
      go false e = rw (now, e) (sym (+ℤ_idl _))

  -- the byte that goes out
  sent_value : (n : ℕ) (m : Message) → in_finished a (sent_one message_bytes (first n m)).passages +ℤ in_going a (sent_one message_bytes (first n m)).going ≡ value_in a m
  sent_value n m =
      cases (λ (t : Told Message). in_finished a t.passages +ℤ in_going a t.going ≡ value_in a m) (eqb (n + 1) (length (message_bytes m)))
      (λ e. same_terms (value_in a m ∷ []) ((term 0 plus none) plus none) (term 0) refl)
      (λ e. +ℤ_idl (value_in a m))

  sent_unbroken : (n : ℕ) (m : Message) → in_broken a (sent_one message_bytes (first n m)).passages ≡ pos 0
  sent_unbroken n m = cases (λ (t : Told Message). in_broken a t.passages ≡ pos 0) (eqb (n + 1) (length (message_bytes m))) (λ e. refl) (λ e. refl)

  sent_accounts : (v c l v' c' f w : ℤ) → v +ℤ c ≡ l +ℤ (v' +ℤ c') → f +ℤ w ≡ v'
      → (v +ℤ c) +ℤ pos 0 ≡ (f +ℤ (l +ℤ (pos 0 +ℤ (pos 0 +ℤ pos 0)))) +ℤ (w +ℤ c')
  sent_accounts v c l v' c' f w e q =
      ap (λ (x : ℤ). x +ℤ pos 0) (e ∙ ap (λ (x : ℤ). l +ℤ (x +ℤ c')) (sym q))
      ∙ same_terms (l ∷ f ∷ w ∷ c' ∷ []) ((term 0 plus ((term 1 plus term 2) plus term 3)) plus none) ((term 1 plus term 0 plus none plus none plus none) plus (term 2 plus term 3)) refl

  send_accounts : (b : BallBox) (g : UnderWay Message) → Standing b g → Accounts b Send g (sending b).next (sent_one message_bytes (paired b g))
  unfolding next_byte
  send_accounts b nothing k = rw (sending_silence b k.carries, k.carries) (quiet_accounts (pos 0) (in_counter a b))
  send_accounts b (first n m) k =
      let l = bytes_left_lem b n m k.carries in
      let p = paired_at b n m in
      rw (sending_byte b l, l, sent_unbroken n p)
      (sent_accounts (value_in a m) (in_counter a b) (cond (second_now b) (excess_along a (taken_over b.settings.format b.track)) (pos 0)) (value_in a p) (in_counter a (with_byte_ready b))
      (in_finished a (sent_one message_bytes (first n p)).passages) (in_going a (sent_one message_bytes (first n p)).going)
      (paired_accounts b n m k) (sent_value n p))

  -- every step, awake
  buttons_track : (n : ℕ) (b : BallBox) → (on_buttons n b).track ≡ b.track
  unfolding on_buttons
  buttons_track n b = cases (λ (c : BallBox). c.track ≡ b.track) (eqb n b.settings.buttons) (λ e. refl) (λ e. refl)

  awake_accounts : (b : BallBox) (e : Event) (g : UnderWay Message) → Standing b g → Accounts b e g (awake b e).next (when_awake b e g)
  unfolding awake on_period
  awake_accounts b (Motion dx dy) g k = motion_accounts b dx dy g
  awake_accounts b (Buttons n) g k = rw (buttons_track n b) (quiet_accounts (in_going a g) (in_counter a b))
  awake_accounts b (Host byte) g k = host_accounts b byte g
  awake_accounts b Latch g k = latch_accounts b g k
  awake_accounts b Send g k = send_accounts b g k
  awake_accounts b Period g k = quiet_accounts (in_going a g) (in_counter a b)

  -- every step, dormant: nothing is going
  asleep_accounts : (b : BallBox) (e : Event)
      → on_way b nothing +ℤ pos 0
      ≡ (in_finished a (when_asleep b e nothing).passages +ℤ (pos 0 +ℤ (pos 0 +ℤ (in_broken a (when_asleep b e nothing).passages +ℤ pos 0)))) +ℤ on_way (asleep b e).next (when_asleep b e nothing).going
  unfolding asleep woken
  asleep_accounts b (Motion dx dy) = quiet_accounts (pos 0) (in_counter a b)
  asleep_accounts b (Buttons n) = quiet_accounts (pos 0) (in_counter a b)
  asleep_accounts b (Host byte) = quiet_accounts (pos 0) (in_counter a b)
  asleep_accounts b Latch = quiet_accounts (pos 0) (in_counter a b)
  asleep_accounts b Send = quiet_accounts (pos 0) (in_counter a b)
  asleep_accounts b Period = quiet_accounts (pos 0) (in_counter a b)

  -- the box: what its events come to while awake
  abbrev pub box : Moved Message BallBox
  box =
      record {
        next = next_box;
        tells = told_by;
        value = value_in a;
        counter = in_counter a;
        fed = λ b e. while_awake b (fed_by a b e);
        limit = λ b e. while_awake b (over_limit_by a b e);
        sixteen = λ b e. while_awake b (over_counter_by a b e);
        cleared = λ b e. while_awake b (cleared_by a b e);
      }

  -- every step of a good box
  abbrev pub StepAccounts : BallBox → Event → UnderWay Message → Type 0
  StepAccounts b e g = Balances box b e g (next_box b e) (told_by b e g)

  comes : (b : BallBox) (e : Event) (g : UnderWay Message) (c : BallBox) (t : Told Message) → next_box b e ≡ c → told_by b e g ≡ t → Balances box b e g c t → StepAccounts b e g
  comes b e g c t n d h = subst (λ (x : BallBox). Balances box b e g x (told_by b e g)) (sym n) (subst (Balances box b e g c) (sym d) h)

  refused_accounts : (b : BallBox) (e : Event) (g : UnderWay Message) → good b ≡ true → above_seven e ≡ true → StepAccounts b e g
  refused_accounts b (Motion dx dy) g k p = absurd (holds p)
  refused_accounts b (Buttons n) g k p =
      comes b (Buttons n) g b (told [] g) (refused_next b (Buttons n) k p) (refused_told b (Buttons n) g p) (rw (nothing_comes b) (quiet_accounts (in_going a g) (in_counter a b)))
  refused_accounts b (Host byte) g k p = absurd (holds p)
  refused_accounts b Latch g k p = absurd (holds p)
  refused_accounts b Send g k p = absurd (holds p)
  refused_accounts b Period g k p = absurd (holds p)

  pub step_accounts : (b : BallBox) (e : Event) (g : UnderWay Message) → Standing b g → StepAccounts b e g
  step_accounts b e g k = go (above_seven e) refl (dormant b) refl g k
    where
      go : (t : Bool) → above_seven e ≡ t → (s : Bool) → dormant b ≡ s → (g : UnderWay Message) → Standing b g → StepAccounts b e g
      go true p s q g k = refused_accounts b e g k.good p
      go false p true q (first n m) k = absurd (holds (sym k.carries.1.awake ∙ q))
      go false p true q nothing k =
          let w = awake_is b true q in
          comes b e nothing (asleep b e).next (when_asleep b e nothing) (ap (λ (x : Step). x.next) (ruled b e true k.good p q)) (told_is b e nothing true p q)
          (rw (w (fed_by a b e), w (over_limit_by a b e), w (over_counter_by a b e), w (cleared_by a b e)) (asleep_accounts b e))
      go false p false q g k =
          let w = awake_is b false q in
          comes b e g (awake b e).next (when_awake b e g) (ap (λ (x : Step). x.next) (ruled b e false k.good p q)) (told_is b e g false p q)
          (rw (w (fed_by a b e), w (over_limit_by a b e), w (over_counter_by a b e), w (cleared_by a b e)) (awake_accounts b e g k))

-- a step keeps all that
awake_relative : (b : BallBox) (e : Event) → is_a b.settings.format ≡ false → (dormant b ≡ false) → selects_a b e ≡ false → is_a (awake b e).next.settings.format ≡ false
unfolding awake on_period
awake_relative b (Motion dx dy) r d s = r
awake_relative b (Buttons n) r d s = ap is_a (buttons_line n b).1.format ∙ r
awake_relative b (Host byte) r d s = go (known byte) refl
  where
    go : (t : Bool) → known byte ≡ t → is_a (on_host byte b).next.settings.format ≡ false
    go true e = ap is_a (host_sets byte b e).1 ∙ (ap (λ (t : Bool). not t && is_a byte) (sym d) ∙ s)
    go false e = ap is_a (host_leaves byte b e).1 ∙ r
awake_relative b Latch r d s = ap is_a (latching_alike b).format ∙ r
awake_relative b Send r d s = ap is_a (sending_alike b).format ∙ r
awake_relative b Period r d s = r

asleep_relative : (b : BallBox) (e : Event) → is_a b.settings.format ≡ false → is_a (asleep b e).next.settings.format ≡ false
unfolding asleep woken
asleep_relative b (Motion dx dy) r = r
asleep_relative b (Buttons n) r = r
asleep_relative b (Host byte) r = r
asleep_relative b Latch r = r
asleep_relative b Send r = r
asleep_relative b Period r = r

reply_unpaired : (bytes : List ℕ) → Unpaired (unsent_reply bytes)
reply_unpaired [] = tt
reply_unpaired (byte ∷ bytes) = tt

sent_unpaired : (b : BallBox) (n : ℕ) (m : Message) → Unpaired (first n m) → Unpaired (sent_one message_bytes (first n (paired_at b n m))).going
sent_unpaired b n m u =
    cases (λ (t : Told Message). Unpaired t.going) (eqb (n + 1) (length (message_bytes (paired_at b n m)))) (λ e. tt) (λ e. go m u)
  where
    go : (m : Message) → Unpaired (first n m) → Unpaired (first (n + 1) (paired_at b n m))
    go (reply bytes) u = tt
    go (report l) u =
        cases (λ (m : Message). Unpaired (first (n + 1) m)) (is_five l.format && eqb n 3)
        (λ e h. absurd (omega (arith, h, eqb-true n 3 (right (is_five l.format) (eqb n 3) e)))) (λ e h. u (omega (arith, h)))

awake_unpaired : (b : BallBox) (e : Event) (g : UnderWay Message) → Unpaired g → Unpaired (when_awake b e g).going
unfolding latched_report
awake_unpaired b (Motion dx dy) g u = u
awake_unpaired b (Buttons n) g u = u
awake_unpaired b (Host byte) g u = reply_unpaired (reply_to b (command_of byte))
awake_unpaired b Latch nothing u = cases Unpaired (wanted b) (λ w h. (refl, refl)) (λ w. tt)
awake_unpaired b Latch (first n m) u = u
awake_unpaired b Send nothing u = tt
awake_unpaired b Send (first n m) u = sent_unpaired b n m u
awake_unpaired b Period g u = u

asleep_unpaired : (b : BallBox) (e : Event) → Unpaired (when_asleep b e nothing).going
asleep_unpaired b (Motion dx dy) = tt
asleep_unpaired b (Buttons n) = tt
asleep_unpaired b (Host byte) = tt
asleep_unpaired b Latch = tt
asleep_unpaired b Send = tt
asleep_unpaired b Period = tt

pub standing_step : (b : BallBox) (e : Event) (g : UnderWay Message) → Standing b g → selects_a b e ≡ false → Standing (next_box b e) (told_by b e g).going
standing_step b e g k s =
    let r = rest (above_seven e) refl (dormant b) refl g k in
    record { good = stepped_good b e k.good; carries = (step_sends b e g k.good k.carries).carries; relative = r.0; unpaired = r.1 }
  where
    Rest : BallBox → Told Message → Type 0
    Rest c t = (is_a c.settings.format ≡ false) × Unpaired t.going

    both : (g : UnderWay Message) (c : BallBox) (t : Told Message) → next_box b e ≡ c → told_by b e g ≡ t → Rest c t → Rest (next_box b e) (told_by b e g)
    both g c t n d h = (ap (λ (x : BallBox). is_a x.settings.format) n ∙ h.0, subst (λ (x : Told Message). Unpaired x.going) (sym d) h.1)

    rest : (t : Bool) → above_seven e ≡ t → (d : Bool) → dormant b ≡ d → (g : UnderWay Message) → Standing b g → Rest (next_box b e) (told_by b e g)
    rest true p d q g k = both g b (told [] g) (refused_next b e k.good p) (refused_told b e g p) (k.relative, k.unpaired)
    rest false p true q (first n m) k = absurd (holds (sym k.carries.1.awake ∙ q))
    rest false p true q nothing k =
        both nothing (asleep b e).next (when_asleep b e nothing) (ap (λ (x : Step). x.next) (ruled b e true k.good p q)) (told_is b e nothing true p q)
        (asleep_relative b e k.relative, asleep_unpaired b e)
    rest false p false q g k =
        both g (awake b e).next (when_awake b e g) (ap (λ (x : Step). x.next) (ruled b e false k.good p q)) (told_is b e g false p q)
        (awake_relative b e k.relative q s, awake_unpaired b e g k.unpaired)

-- over every run that never selects A
balanced : (a : Axis) (b : BallBox) (g : UnderWay Message) (events : List Event) → Standing b g → never_a b events ≡ true → Balanced (box a) b g events (box_after b events)
unfolding never_a box_after
balanced a b g [] k n = refl
balanced a b g (e ∷ events) k n =
    let none = not (selects_a b e) in
    let later = never_a (next_box b e) events in
    (step_accounts a b e g k, balanced a (next_box b e) (told_by b e g).going events (standing_step b e g k (not-true (selects_a b e) (left none later n))) (right none later n))

-- the excesses of a run's steps are those of what its events throw away while awake
pub none_along : (k : Kind) (a : Axis) → excess_of k a no_sums ≡ pos 0
none_along over_limit x_axis = refl
none_along over_limit y_axis = refl
none_along over_counter x_axis = refl
none_along over_counter y_axis = refl

abbrev pub over_by : Kind → Axis → BallBox → Event → ℤ
over_by over_limit a b e = over_limit_by a b e
over_by over_counter a b e = over_counter_by a b e

either_along : (a : Axis) (t : Bool) (e o : Excess) → excess_of over_limit a (sums (cond t e no_excess) o) ≡ cond t (excess_along a e) (pos 0)
either_along x_axis true e o = refl
either_along y_axis true e o = refl
either_along x_axis false e o = refl
either_along y_axis false e o = refl

no_counter : (a : Axis) (l : Excess) → excess_of over_counter a (sums l no_excess) ≡ pos 0
no_counter x_axis l = refl
no_counter y_axis l = refl

throws : (k : Kind) (a : Axis) (b : BallBox) (e : Event) → excess_of k a (sums (limit_throws b e) (counter_throws b e)) ≡ over_by k a b e
throws over_limit a b (Motion dx dy) = either_along a false no_excess _
throws over_limit a b (Buttons n) = either_along a false no_excess _
throws over_limit a b (Host byte) = either_along a false no_excess _
throws over_limit a b Latch = either_along a (not (bytes_left b) && wanted b) (taken_over b.settings.format b.track) no_excess
throws over_limit a b Send = either_along a (bytes_left b && second_now b) (taken_over b.settings.format b.track) no_excess
throws over_limit a b Period = either_along a false no_excess _
throws over_counter x_axis b (Motion dx dy) = refl
throws over_counter y_axis b (Motion dx dy) = refl
throws over_counter a b (Buttons n) = no_counter a _
throws over_counter a b (Host byte) = no_counter a _
throws over_counter a b Latch = no_counter a _
throws over_counter a b Send = no_counter a _
throws over_counter a b Period = no_counter a _

refused_none : (k : Kind) (a : Axis) (b : BallBox) (e : Event) → above_seven e ≡ true → over_by k a b e ≡ pos 0
refused_none k a b (Motion dx dy) p = absurd (holds p)
refused_none over_limit a b (Buttons n) p = refl
refused_none over_counter a b (Buttons n) p = refl
refused_none k a b (Host byte) p = absurd (holds p)
refused_none k a b Latch p = absurd (holds p)
refused_none k a b Send p = absurd (holds p)
refused_none k a b Period p = absurd (holds p)

pub step_throws : (k : Kind) (a : Axis) (b : BallBox) (e : Event) → good b ≡ true → excess_of k a (thrown b e) ≡ while_awake b (over_by k a b e)
unfolding thrown
step_throws k a b e g = rw g (go (above_seven e) refl (dormant b) refl)
  where
    both : Sums
    both = sums (limit_throws b e) (counter_throws b e)

    still : (d : Bool) → excess_of k a (cond d no_sums both) ≡ cond d (pos 0) (over_by k a b e)
    still true = none_along k a
    still false = throws k a b e

    go : (t : Bool) → above_seven e ≡ t → (d : Bool) → dormant b ≡ d → excess_of k a (cond (above_seven e || dormant b) no_sums both) ≡ while_awake b (over_by k a b e)
    go true p d q = rw (p, refused_none k a b e p) (none_along k a ∙ sym (nothing_comes b))
    go false p d q =
        rw p
        (ap (λ (t : Bool). excess_of k a (cond t no_sums both)) q ∙ (still d ∙ sym (awake_is b d q (over_by k a b e))))

run_throws : (k : Kind) (a : Axis) (b : BallBox) (events : List Event) → good b ≡ true → over (over_by k a) b events ≡ sum_of (thrown_in k a b events)
unfolding added_over thrown_in sum_of
run_throws k a b [] g = refl
run_throws k a b (e ∷ events) g = ap₂ ◌+ℤ◌ (sym (step_throws k a b e g)) (run_throws k a (next_box b e) events (stepped_good b e g))

-- The account, from a good box that is not set to A and has nothing going and nothing counted.
pub account : (a : Axis) (b : BallBox) (events : List Event) → Standing b nothing → in_counter a b ≡ pos 0 → never_a b events ≡ true
    → over (fed_by a) b events
    ≡ in_finished a (passages_of b nothing events)
    +ℤ (in_going a (going_after b nothing events)
    +ℤ (in_counter a (box_after b events)
    +ℤ (sum_of (thrown_in over_limit a b events)
    +ℤ (sum_of (thrown_in over_counter a b events)
    +ℤ (in_broken a (passages_of b nothing events)
    +ℤ over (cleared_by a) b events)))))
account a b events k z n =
    balance (box a) b nothing events (box_after b events) (balanced a b nothing events k n) (+ℤ_idl _ ∙ z)
    ∙ rw (run_throws over_limit a b events k.good, run_throws over_counter a b events k.good)
