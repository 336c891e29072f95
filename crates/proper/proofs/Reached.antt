-- Events by which a box sends a line: prompted for each report, and broken off by D.
use Prim.Native.Nat.{ℕ, zero, suc, ◌+◌, ◌-◌, ◌<◌, ◌≤◌}
use mathlib.Core.Path.{◌≡◌, refl, sym, ap, ◌∙◌, subst}
use mathlib.Core.Bool.{Bool, true, false, ◌&&◌}
use mathlib.Core.List.{List, [], ◌∷◌, ◌++◌, append_assoc, append-nil}
use native.Mathlib.Omega.{arith}
use lib.Dec.{eqb, leb}
use lib.IntN.{ℤ, pos, neg_ℤ, ◌-ℤ◌, +ℤ_idl, +ℤ_comm, -ℤ-+ℤ_cancel}
use lib.ListN.{length}
use borrow.Author.Tests.{le-ltb, le-leb, eqb-true, ne_eqb, eq-eqb, leb-true, leb-false}
use Rattle.numbers.specs.Signed.{least, most, held_sum}
use Rattle.numbers.proofs.Choices.{cases, both}
use Rattle.numbers.proofs.Held.{held_same, mag_sum}
use Rattle.numbers.proofs.Machine.{neg_near}
use Rattle.numbers.proofs.Twos.{near_within, mag_magnitude}
use Rattle.numbers.proofs.Tested.{left, right, holds}
use Rattle.frames.specs.Passages.{Passage, silent, finished, broken, UnderWay, nothing, first}
use Rattle.frames.specs.Sender.{told, sent_one, broken_off, passages_over, going_over}
use Rattle.wire.specs.Line.{letter_of, size_of, named_by, known}
use Rattle.wire.specs.Holds.{◌to◌, within}
use Rattle.wire.specs.Table.{bytes_of}
use Rattle.wire.specs.Reading.{report as shown}
use Rattle.wire.specs.Messages.{Message, message_bytes, latched_in}
use Rattle.wire.specs.declared.Report.{Report}
use Rattle.wire.specs.declared.Format.{Format}
use Rattle.wire.specs.declared.Format.TheVariants.{Mm, Microsoft, Absolute, Relative, FiveByte, ThreeByte, Hexadecimal}
use Rattle.wire.proofs.Letters.{letter_named}
use Rattle.wire.proofs.Front.{size_between}
use Rattle.wire.proofs.Codec.{bytes_length}
use Rattle.wire.proofs.Codec.Ranges.{wider, at_most, only_zero}
use Rattle.ballbox.specs.Box.{Step, mode_d, pair, zeros, with_mode, with_memory, with_due, due, dormant}
use Rattle.ballbox.specs.Presses.{to_show}
use Rattle.ballbox.specs.Presses as presses
use Rattle.ballbox.specs.Motion.{moved_by, counted, placed, placed_at, is_a}
use Rattle.ballbox.specs.Latching.{limits, limited, movement, taken, cleared, latched, latched_report, second_latched}
use Rattle.ballbox.specs.Commands.{letter_p, command_of, obeyed}
use Rattle.ballbox.specs.Events.{bytes_left, second_now, next_byte, dropped, on_motion, on_buttons, on_host, awake}
use Rattle.ballbox.specs.Good.{good, good_track, on_pad}
use Rattle.ballbox.specs.Promises.{above_seven}
use Rattle.ballbox.specs.declared.BallBox.{BallBox}
use Rattle.ballbox.specs.declared.Settings.{Settings}
use Rattle.ballbox.specs.declared.Track.{Track}
use Rattle.ballbox.specs.declared.Pair.{Pair}
use Rattle.ballbox.specs.declared.Event.{Event}
use Rattle.ballbox.specs.declared.Event.TheVariants.{Motion, Buttons, Host, Latch, Send}
use Rattle.ballbox.proofs.Goodness.{stepped_good}
use Rattle.ballbox.proofs.Parts.{parts as good_parts}
use Rattle.ballbox.proofs.Refusals.{ruled}
use Rattle.ballbox.proofs.Obeying.{dropped_settings, dropped_awake}
use Rattle.ballbox.proofs.Cases.{latching_wanted, sending_byte, sending_silence, ready_plain, ready_second, dropped_idle}
use Rattle.history.specs.History.{format_of, with_pair, is_five, when_awake, told_by, next_box, passages_of, going_after}
use Rattle.history.specs.Asked.{all_hosts, asks, only_asks}
use Rattle.history.specs.Carried.{Carries}
use Rattle.history.proofs.Carries.{Alike}
use Rattle.history.proofs.Sending.{bytes_left_lem, five_is}
use Rattle.history.proofs.Bridge.{step_sends, told_is, buttons_line}
use Rattle.proper.specs.Sends.{handed, all_handed}
use Rattle.proper.proofs.Latchable.{Latchable, second_limits}
use Rattle.proper.proofs.Filled.{Begun}
use Rattle.proper.proofs.Parsed.{CanPass, CanStand, CanGo}

-- events of a box of which this is going: the passages that they end, the box after them, and what is going then
pub data Run : BallBox → UnderWay Message → List Event → List (Passage Message) → BallBox → UnderWay Message → Type 0 where
  end : {b : BallBox} {g : UnderWay Message} → Run b g [] [] b g
  step : {b c d : BallBox} {g h k : UnderWay Message} {e : Event} {events : List Event} {ps qs : List (Passage Message)}
      → asks e ≡ true → handed e ≡ true → next_box b e ≡ c → told_by b e g ≡ told ps h → Run c h events qs d k → Run b g (e ∷ events) (ps ++ qs) d k

join : {b c d : BallBox} {g h k : UnderWay Message} {es fs : List Event} {ps qs : List (Passage Message)} → Run b g es ps c h → Run c h fs qs d k → Run b g (es ++ fs) (ps ++ qs) d k
join end q = q
join (step {ps} a w n t p) q = rw append_assoc (step a w n t (join p q))

-- a box set to f, at rest: in prompt mode, nothing due, nothing counted
pub record Still (f : Format) (b : BallBox) (g : UnderWay Message) : Type 0 where
  pub good : good b ≡ true
  pub awake : dormant b ≡ false
  pub format : b.settings.format ≡ letter_of f
  pub mode : b.settings.mode ≡ mode_d
  pub due : due b ≡ false
  pub counter : b.track.counter ≡ zeros
  pub carries : Carries b g

-- an event that is not refused
told_awake : (b : BallBox) (e : Event) (g : UnderWay Message) → above_seven e ≡ false → dormant b ≡ false → told_by b e g ≡ when_awake b e g
told_awake b e g p d = told_is b e g false p d

next_awake : (b : BallBox) (e : Event) → good b ≡ true → above_seven e ≡ false → dormant b ≡ false → next_box b e ≡ (awake b e).next
next_awake b e g p d = ap (λ (a : Step). a.next) (ruled b e false g p d)

-- a silence: a word is sent between reports
pub pauses : (f : Format) (b : BallBox) → Still f b nothing → Run b nothing (Send ∷ []) (silent ∷ []) b nothing
unfolding awake
pauses f b s = step refl refl next (told_awake b Send nothing refl s.awake) end
  where
    next : next_box b Send ≡ b
    next = next_awake b Send s.good refl s.awake ∙ ap (λ (a : Step). a.next) (sending_silence b s.carries)

-- D breaks off what is going, whatever the mode was
dropped_counter : (b : BallBox) → (dropped b).track.counter ≡ b.track.counter
unfolding dropped
dropped_counter b = cases (λ (c : BallBox). c.track.counter ≡ b.track.counter) (bytes_left b) (λ _. refl) (λ _. refl)

module _ (f : Format) (b : BallBox) (g : UnderWay Message) (k : good b ≡ true) (d : dormant b ≡ false) (e : b.settings.format ≡ letter_of f)
    (z : b.track.counter ≡ zeros) (h : Carries b g) where
  pub after_d : BallBox
  after_d = with_mode mode_d (with_memory presses.none (with_due false (dropped b)))

  d_next : next_box b (Host mode_d) ≡ after_d
  unfolding awake on_host command_of obeyed known named_by after_d
  d_next = next_awake b (Host mode_d) k refl d

  d_told : told_by b (Host mode_d) g ≡ told (broken_off g) nothing
  unfolding command_of known named_by
  d_told = told_awake b (Host mode_d) g refl d

  pub d_still : Still f after_d nothing
  unfolding after_d
  d_still =
      record {
        good = rw d_next at (stepped_good b (Host mode_d) k);
        awake = dropped_awake b ∙ d;
        format = ap (λ (s : Settings). s.format) (dropped_settings b) ∙ e;
        mode = refl;
        due = refl;
        counter = dropped_counter b ∙ z;
        carries = rw (d_next, d_told) at (step_sends b (Host mode_d) g k h).carries;
      }

  pub d_breaks : Run b g (Host mode_d ∷ []) (broken_off g) after_d nothing
  d_breaks = rw append-nil at (step {ps = broken_off g} refl refl d_next d_told end)

-- the next byte goes out, not being byte 4 of U
module _ (f : Format) (b : BallBox) (n : ℕ) (r : Report) (s : Still f b (first n (latched_in f r))) (plain : is_five f && eqb n 3 ≡ false) where
  after_byte : BallBox
  after_byte = (next_byte b).next

  byte_next : next_box b Send ≡ after_byte
  unfolding awake after_byte
  byte_next =
      let l = bytes_left_lem b n (latched_in f r) s.carries in
      let now : second_now b ≡ false = rw (s.format, s.carries.0) plain in
      next_awake b Send s.good refl s.awake ∙ ap (λ (a : Step). a.next) (sending_byte b l ∙ ap next_byte (ready_plain b now))

  byte_told : told_by b Send (first n (latched_in f r)) ≡ sent_one message_bytes (first n (latched_in f r))
  byte_told = told_awake b Send (first n (latched_in f r)) refl s.awake ∙ rw plain

  byte_still : Still f after_byte (sent_one message_bytes (first n (latched_in f r))).going
  unfolding after_byte next_byte
  byte_still =
      record {
        good = rw byte_next at (stepped_good b Send s.good);
        awake = s.awake;
        format = s.format;
        mode = s.mode;
        due = s.due;
        counter = s.counter;
        carries = rw (byte_next, byte_told) at (step_sends b Send (first n (latched_in f r)) s.good s.carries).carries;
      }

-- new buttons leave the ball, and are those that are pressed
pressed_track : (n : ℕ) (b : BallBox) → (on_buttons n b).track ≡ b.track
unfolding on_buttons
pressed_track n b = cases (λ (c : BallBox). c.track ≡ b.track) (eqb n b.settings.buttons) (λ _. refl) (λ _. refl)

pressed_buttons : (n : ℕ) (b : BallBox) → (on_buttons n b).settings.buttons ≡ n
unfolding on_buttons
pressed_buttons n b = cases (λ (c : BallBox). c.settings.buttons ≡ n) (eqb n b.settings.buttons) (λ e. sym (eqb-true n b.settings.buttons e)) (λ _. refl)

-- a report is prompted and latched: none of its bytes has gone
module _ (f : Format) (b : BallBox) (s : Still f b nothing) (n : ℕ) (few : n ≤ 7) (dx dy : ℤ) (fx : within (least to most) dx ≡ true) (fy : within (least to most) dy ≡ true) where
  b1 : BallBox
  b1 = on_buttons n b

  next1 : next_box b (Buttons n) ≡ b1
  unfolding awake b1
  next1 = next_awake b (Buttons n) s.good (le-ltb 7 n few) s.awake

  good1 : good b1 ≡ true
  good1 = rw next1 at (stepped_good b (Buttons n) s.good)

  like1 : Alike b b1
  unfolding b1
  like1 = (buttons_line n b).1

  track1 : b1.track ≡ b.track
  unfolding b1
  track1 = pressed_track n b

  buttons1 : b1.settings.buttons ≡ n
  unfolding b1
  buttons1 = pressed_buttons n b

  awake1 : dormant b1 ≡ false
  awake1 = like1.dormant ∙ s.awake

  idle1 : bytes_left b1 ≡ false
  unfolding b1
  idle1 = rw (buttons_line n b).0 s.carries

  b2 : BallBox
  b2 = on_motion dx dy b1

  next2 : next_box b1 (Motion dx dy) ≡ b2
  unfolding awake b2
  next2 = next_awake b1 (Motion dx dy) good1 refl awake1

  good2 : good b2 ≡ true
  good2 = rw next2 at (stepped_good b1 (Motion dx dy) good1)

  b3 : BallBox
  b3 = with_mode mode_d (with_memory presses.none (with_due true b2))

  next3 : next_box b2 (Host letter_p) ≡ b3
  unfolding awake on_host command_of obeyed known named_by b2 b3
  next3 = next_awake b2 (Host letter_p) good2 refl awake1 ∙ rw (dropped_idle b2 idle1)

  good3 : good b3 ≡ true
  good3 = rw next3 at (stepped_good b2 (Host letter_p) good2)

  b4 : BallBox
  b4 = latched b3

  next4 : next_box b3 Latch ≡ b4
  unfolding awake b2 b3 b4
  next4 = next_awake b3 Latch good3 refl awake1 ∙ latching_wanted b3 idle1 refl

  -- what it shows
  module _ (x y : ℤ) (takes : taken (letter_of f) (moved_by dx dy b.track) ≡ pair x y) where
    shows : latched_report b3 ≡ shown n x y
    unfolding latched_report to_show b2 b3
    shows =
        let k : taken b1.settings.format (moved_by dx dy b1.track) ≡ pair x y = rw (like1.format ∙ s.format, track1) takes in
        rw (k, buttons1)

    told1 : told_by b (Buttons n) nothing ≡ told [] nothing
    told1 = told_awake b (Buttons n) nothing (le-ltb 7 n few) s.awake

    told2 : told_by b1 (Motion dx dy) nothing ≡ told [] nothing
    told2 = told_awake b1 (Motion dx dy) nothing refl awake1

    told3 : told_by b2 (Host letter_p) nothing ≡ told [] nothing
    unfolding b2 command_of known named_by
    told3 = told_awake b2 (Host letter_p) nothing refl awake1

    set3 : format_of b3 ≡ f
    unfolding b2 b3
    set3 = rw (like1.format, s.format, letter_named f)

    told4 : told_by b3 Latch nothing ≡ told [] (first 0 (latched_in f (shown n x y)))
    unfolding b2 b3
    told4 = told_awake b3 Latch nothing refl awake1 ∙ rw (set3, shows)

    starts : Run b nothing (Buttons n ∷ Motion dx dy ∷ Host letter_p ∷ Latch ∷ []) [] b4 (first 0 (latched_in f (shown n x y)))
    starts =
        step {ps = []} refl (le-leb n 7 few) next1 told1
        (step {ps = []} refl (both (within (least to most) dx) (within (least to most) dy) fx fy) next2 told2 (step {ps = []} refl refl next3 told3 (step {ps = []} refl refl next4 told4 end)))

    idle3 : Carries b3 nothing
    unfolding b2 b3
    idle3 = idle1

    started : Still f b4 (first 0 (latched_in f (shown n x y)))
    unfolding b2 b3 b4 latched cleared
    started =
        record {
          good = rw next4 at (stepped_good b3 Latch good3);
          awake = awake1;
          format = like1.format ∙ s.format;
          mode = refl;
          due = refl;
          counter = refl;
          carries = rw (next4, told4) at (step_sends b3 Latch nothing good3 idle3).carries;
        }

-- movement by which a box at rest comes to show x and y: in A from where it stands, else as it is
abbrev toward : Format → Pair → ℤ → ℤ → Pair
toward Mm p x y = pair x y
toward Microsoft p x y = pair x y
toward Absolute p x y = pair (x -ℤ p.x) (y -ℤ p.y)
toward Relative p x y = pair x y
toward FiveByte p x y = pair x y
toward ThreeByte p x y = pair x y
toward Hexadecimal p x y = pair x y

-- a movement within the limits is counted and taken as it is
counts : (c v : ℤ) → c ≡ pos 0 → within (least to most) v ≡ true → held_sum c v ≡ v
unfolding held_sum
counts c v e h = rw (e, +ℤ_idl v) (held_same least most v h)

narrow : (f : Format) (v : ℤ) → within (limits (letter_of f)) v ≡ true → within (least to most) v ≡ true
unfolding limits
narrow Mm v h = wider (limits 0x53) (least to most) v refl refl h
narrow Microsoft v h = wider (limits 0x56) (least to most) v refl refl h
narrow Absolute v h = wider (limits 0x41) (least to most) v refl refl h
narrow Relative v h = wider (limits 0x42) (least to most) v refl refl h
narrow FiveByte v h = wider (limits 0x55) (least to most) v refl refl h
narrow ThreeByte v h = wider (limits 0x54) (least to most) v refl refl h
narrow Hexadecimal v h = wider (limits 0x57) (least to most) v refl refl h

reaches : (p v : ℤ) → within (pos 0 to pos 4095) v ≡ true → placed_at p (v -ℤ p) ≡ v
unfolding placed_at
reaches p v h = rw (+ℤ_comm p (v -ℤ p), -ℤ-+ℤ_cancel v p) (held_same (pos 0) (pos 4095) v h)

-- from one place of the pad to another it is a movement of 16 bits
across : (p v : ℤ) → within (pos 0 to pos 4095) p ≡ true → within (pos 0 to pos 4095) v ≡ true → within (least to most) (v -ℤ p) ≡ true
across p v h k = near_within 32767 (v -ℤ p) (omega (arith, mag_sum v (neg_ℤ p), neg_near p, mag_magnitude p, mag_magnitude v, at_most 4095 p h, at_most 4095 v k))

module _ (f : Format) (t : Track) (z : t.counter ≡ zeros) (x y : ℤ) (hx : within (limits (letter_of f)) x ≡ true) (hy : within (limits (letter_of f)) y ≡ true) where
  by_count : is_a (letter_of f) ≡ false → taken (letter_of f) (moved_by x y t) ≡ pair x y
  unfolding taken movement limited moved_by counted
  by_count e =
      rw (e, z, counts (pos 0) x refl (narrow f x hx), counts (pos 0) y refl (narrow f y hy), held_same (limits (letter_of f)).low (limits (letter_of f)).high x hx, held_same (limits (letter_of f)).low (limits (letter_of f)).high y hy)

  by_place : f ≡ Absolute → taken (letter_of f) (moved_by (x -ℤ t.position.x) (y -ℤ t.position.y) t) ≡ pair x y
  unfolding taken movement limited moved_by placed limits
  by_place e = rw (e, reaches t.position.x x px, reaches t.position.y y py, held_same (pos 0) (pos 4095) x px, held_same (pos 0) (pos 4095) y py)
    where
      px : within (pos 0 to pos 4095) x ≡ true
      px = rw e at hx

      py : within (pos 0 to pos 4095) y ≡ true
      py = rw e at hy

takes : (f : Format) (t : Track) → t.counter ≡ zeros → (x y : ℤ) → within (limits (letter_of f)) x ≡ true → within (limits (letter_of f)) y ≡ true
    → taken (letter_of f) (moved_by (toward f t.position x y).x (toward f t.position x y).y t) ≡ pair x y
takes Mm t z x y hx hy = by_count Mm t z x y hx hy refl
takes Microsoft t z x y hx hy = by_count Microsoft t z x y hx hy refl
takes Absolute t z x y hx hy = by_place Absolute t z x y hx hy refl
takes Relative t z x y hx hy = by_count Relative t z x y hx hy refl
takes FiveByte t z x y hx hy = by_count FiveByte t z x y hx hy refl
takes ThreeByte t z x y hx hy = by_count ThreeByte t z x y hx hy refl
takes Hexadecimal t z x y hx hy = by_count Hexadecimal t z x y hx hy refl

small_moves : (f : Format) (p : Pair) → on_pad p ≡ true → (x y : ℤ) → within (limits (letter_of f)) x ≡ true → within (limits (letter_of f)) y ≡ true
    → (within (least to most) (toward f p x y).x ≡ true) × (within (least to most) (toward f p x y).y ≡ true)
unfolding limits
small_moves Mm p o x y hx hy = (narrow Mm x hx, narrow Mm y hy)
small_moves Microsoft p o x y hx hy = (narrow Microsoft x hx, narrow Microsoft y hy)
small_moves Absolute p o x y hx hy =
    (across p.x x (left (within (pos 0 to pos 4095) p.x) (within (pos 0 to pos 4095) p.y) o) hx, across p.y y (right (within (pos 0 to pos 4095) p.x) (within (pos 0 to pos 4095) p.y) o) hy)
small_moves Relative p o x y hx hy = (narrow Relative x hx, narrow Relative y hy)
small_moves FiveByte p o x y hx hy = (narrow FiveByte x hx, narrow FiveByte y hy)
small_moves ThreeByte p o x y hx hy = (narrow ThreeByte x hx, narrow ThreeByte y hy)
small_moves Hexadecimal p o x y hx hy = (narrow Hexadecimal x hx, narrow Hexadecimal y hy)

pad : (b : BallBox) → good b ≡ true → on_pad b.track.position ≡ true
unfolding good_track
pad b g = left (on_pad b.track.position) (on_pad b.track.last) (good_parts b g).track

-- U's second pair: moved before byte 4 goes out
module _ (b : BallBox) (r : Report) (s : Still FiveByte b (first 3 (latched_in FiveByte r))) (x y : ℤ)
    (hx : within (limits (letter_of FiveByte)) x ≡ true) (hy : within (limits (letter_of FiveByte)) y ≡ true) where
  c1 : BallBox
  c1 = on_motion x y b

  go1 : next_box b (Motion x y) ≡ c1
  unfolding awake c1
  go1 = next_awake b (Motion x y) s.good refl s.awake

  say1 : told_by b (Motion x y) (first 3 (latched_in FiveByte r)) ≡ told [] (first 3 (latched_in FiveByte r))
  say1 = told_awake b (Motion x y) (first 3 (latched_in FiveByte r)) refl s.awake

  well1 : good c1 ≡ true
  well1 = rw go1 at (stepped_good b (Motion x y) s.good)

  carries1 : Carries c1 (first 3 (latched_in FiveByte r))
  carries1 = rw (go1, say1) at (step_sends b (Motion x y) (first 3 (latched_in FiveByte r)) s.good s.carries).carries

  c2 : BallBox
  c2 = (next_byte (second_latched c1)).next

  go2 : next_box c1 Send ≡ c2
  unfolding awake c1 c2
  go2 =
      let l = bytes_left_lem c1 3 (latched_in FiveByte r) carries1 in
      let now : second_now c1 ≡ true = rw (s.format, s.carries.0) in
      next_awake c1 Send well1 refl s.awake ∙ ap (λ (a : Step). a.next) (sending_byte c1 l ∙ ap next_byte (ready_second c1 now))

  say2 : told_by c1 Send (first 3 (latched_in FiveByte r)) ≡ told [] (first 4 (latched_in FiveByte (with_pair (pair x y) r)))
  unfolding c1
  say2 =
      told_awake c1 Send (first 3 (latched_in FiveByte r)) refl s.awake
      ∙ rw (s.format, by_count FiveByte b.track s.counter x y hx hy refl, bytes_length FiveByte (with_pair (pair x y) r))

  pairs : Run b (first 3 (latched_in FiveByte r)) (Motion x y ∷ Send ∷ []) [] c2 (first 4 (latched_in FiveByte (with_pair (pair x y) r)))
  pairs =
      step {ps = []} refl (both (within (least to most) x) (within (least to most) y) (narrow FiveByte x hx) (narrow FiveByte y hy)) go1 say1
      (step {ps = []} refl refl go2 say2 end)

  paired_still : Still FiveByte c2 (first 4 (latched_in FiveByte (with_pair (pair x y) r)))
  unfolding c1 c2 next_byte second_latched cleared
  paired_still =
      record {
        good = rw go2 at (stepped_good c1 Send well1);
        awake = s.awake;
        format = s.format;
        mode = s.mode;
        due = s.due;
        counter = refl;
        carries = rw (go2, say2) at (step_sends c1 Send (first 3 (latched_in FiveByte r)) well1 carries1).carries;
      }

-- events that end these passages, after which the box is still and this is going
pub record Reach (f : Format) (b : BallBox) (g : UnderWay Message) (ps : List (Passage Message)) (h : UnderWay Message) : Type 0 where
  pub events : List Event
  pub box : BallBox
  pub run : Run b g events ps box h
  pub still : Still f box h

pub then : {f : Format} {b : BallBox} {g h k : UnderWay Message} {ps qs : List (Passage Message)} → (p : Reach f b g ps h) → Reach f p.box h qs k → Reach f b g (ps ++ qs) k
then p q = record { events = p.events ++ q.events; box = q.box; run = join p.run q.run; still = q.still }

-- plain bytes, none of them byte 4 of U
abbrev Plain : Format → ℕ → Type 0
Plain f at = (k : ℕ) → k < at → is_five f && eqb k 3 ≡ false

one_more_lem : (f : Format) (n : ℕ) (r : Report) → n + 1 < size_of f → sent_one message_bytes (first n (latched_in f r)) ≡ told [] (first (suc n) (latched_in f r))
one_more_lem f n r l = let e : n + 1 ≡ suc n = omega arith in rw (ne_eqb (n + 1) (length (bytes_of f r)) (λ q. omega (arith, bytes_length f r)), e)

goes_on : (f : Format) (b : BallBox) (n m at : ℕ) (r : Report) → Still f b (first n (latched_in f r)) → m + n ≡ at → at < size_of f → Plain f at → Reach f b (first n (latched_in f r)) [] (first at (latched_in f r))
goes_on f b n zero at r s e l p =
    let k : n ≡ at = omega arith in
    let u : Reach f b (first n (latched_in f r)) [] (first n (latched_in f r)) = record { events = []; box = b; run = end; still = s } in
    subst (λ (i : ℕ). Reach f b (first n (latched_in f r)) [] (first i (latched_in f r))) k u
goes_on f b n (suc m) at r s d l p =
    let q : is_five f && eqb n 3 ≡ false = p n (omega arith) in
    let e : sent_one message_bytes (first n (latched_in f r)) ≡ told [] (first (suc n) (latched_in f r)) = one_more_lem f n r (omega arith) in
    let c : Still f (after_byte f b n r s q) (first (suc n) (latched_in f r)) = rw e at (byte_still f b n r s q) in
    let u : Reach f b (first n (latched_in f r)) [] (first (suc n) (latched_in f r)) =
    record { events = Send ∷ []; box = after_byte f b n r s q; run = step {ps = []} refl refl (byte_next f b n r s q) (byte_told f b n r s q ∙ e) end; still = c } in
    then u (goes_on f (after_byte f b n r s q) (suc n) m at r c (omega arith) l p)

ends : (f : Format) (b : BallBox) (n : ℕ) (r : Report) → Still f b (first n (latched_in f r)) → n + 1 ≡ size_of f → is_five f && eqb n 3 ≡ false → Reach f b (first n (latched_in f r)) (finished (latched_in f r) ∷ []) nothing
ends f b n r s l q =
    let e : sent_one message_bytes (first n (latched_in f r)) ≡ told (finished (latched_in f r) ∷ []) nothing = rw (eq-eqb (n + 1) (length (bytes_of f r)) (omega (arith, bytes_length f r))) in
    record {
      events = Send ∷ [];
      box = after_byte f b n r s q;
      run = step {ps = finished (latched_in f r) ∷ []} refl refl (byte_next f b n r s q) (byte_told f b n r s q ∙ e) end;
      still = rw e at (byte_still f b n r s q);
    }

-- a report is latched
begins_with : (f : Format) (b : BallBox) (r : Report) → Still f b nothing → Latchable f r → Reach f b nothing [] (first 0 (latched_in f (shown r.buttons r.x1 r.y1)))
begins_with f b r s l =
    let d = toward f b.track.position r.x1 r.y1 in
    let t = takes f b.track s.counter r.x1 r.y1 l.x1 l.y1 in
    let m = small_moves f b.track.position (pad b s.good) r.x1 r.y1 l.x1 l.y1 in
    record {
      events = Buttons r.buttons ∷ Motion d.x d.y ∷ Host letter_p ∷ Latch ∷ [];
      box = b4 f b s r.buttons l.buttons d.x d.y m.0 m.1;
      run = starts f b s r.buttons l.buttons d.x d.y m.0 m.1 r.x1 r.y1 t;
      still = started f b s r.buttons l.buttons d.x d.y m.0 m.1 r.x1 r.y1 t;
    }

-- outside U the second pair is zero
one_pair : (r : Report) → r.x2 ≡ pos 0 → r.y2 ≡ pos 0 → shown r.buttons r.x1 r.y1 ≡ r
one_pair r ex ey = λ i. record { buttons = r.buttons; x1 = r.x1; y1 = r.y1; x2 = sym ex i; y2 = sym ey i }

plain_format : (f : Format) → is_five f ≡ false → second_limits f ≡ (pos 0 to pos 0)
plain_format Mm e = refl
plain_format Microsoft e = refl
plain_format Absolute e = refl
plain_format Relative e = refl
plain_format FiveByte e = absurd (holds (sym e))
plain_format ThreeByte e = refl
plain_format Hexadecimal e = refl

-- the first bytes of a report
module _ (f : Format) (b : BallBox) (r : Report) (s : Still f b nothing) (l : Latchable f r) where
  early : (n : ℕ) → n < size_of f → Plain f n → r.x2 ≡ pos 0 → r.y2 ≡ pos 0 → Reach f b nothing [] (first n (latched_in f r))
  early n h p ex ey =
      let a = begins_with f b r s l in
      let e : n + 0 ≡ n = omega arith in
      rw (one_pair r ex ey) at (then a (goes_on f a.box 0 n n (shown r.buttons r.x1 r.y1) a.still e h p))

  outside_u : is_five f ≡ false → (n : ℕ) → n < size_of f → Reach f b nothing [] (first n (latched_in f r))
  outside_u e n h =
      early n h (λ k g. rw e) (sym (only_zero r.x2 (rw (plain_format f e) at l.x2))) (sym (only_zero r.y2 (rw (plain_format f e) at l.y2)))

in_u : (b : BallBox) (r : Report) → Still FiveByte b nothing → Latchable FiveByte r → Reach FiveByte b nothing [] (first 4 (latched_in FiveByte r))
in_u b r s l =
    let a = begins_with FiveByte b r s l in
    let q = shown r.buttons r.x1 r.y1 in
    let c = goes_on FiveByte a.box 0 3 3 q a.still refl (omega arith) (λ k g. ne_eqb k 3 (λ e. omega arith)) in
    let d : Reach FiveByte c.box (first 3 (latched_in FiveByte q)) [] (first 4 (latched_in FiveByte r)) =
    record { events = _; box = _; run = pairs c.box q c.still r.x2 r.y2 l.x2 l.y2; still = paired_still c.box q c.still r.x2 r.y2 l.x2 l.y2 } in
    then a (then c d)

partly : (f : Format) (b : BallBox) (n : ℕ) (r : Report) → Still f b nothing → Begun f n r → Reach f b nothing [] (first n (latched_in f r))
partly f b n r s h = go (is_five f) refl (leb n 3) refl
  where
    go : (t : Bool) → is_five f ≡ t → (u : Bool) → leb n 3 ≡ u → Reach f b nothing [] (first n (latched_in f r))
    go false e u d = outside_u f b r s h.latchable e n h.left
    go true e true d =
        let z = h.second (leb-true n 3 d) in
        early f b r s h.latchable n h.left (λ k g. rw e (ne_eqb k 3 (λ q. omega (arith, leb-true n 3 d)))) z.0 z.1
    go true e false d =
        let f_is : f ≡ FiveByte = five_is f e in
        let five : size_of f ≡ 5 = ap size_of f_is in
        let four : n ≡ 4 = omega (arith, leb-false n 3 d, h.left) in
        rw (four, f_is) (in_u b r (rw f_is at s) (rw f_is at h.latchable))

wholly : (f : Format) (b : BallBox) (r : Report) → Still f b nothing → Latchable f r → Reach f b nothing (finished (latched_in f r) ∷ []) nothing
wholly f b r s l = go (is_five f) refl
  where
    go : (t : Bool) → is_five f ≡ t → Reach f b nothing (finished (latched_in f r) ∷ []) nothing
    go true e =
        let f_is : f ≡ FiveByte = five_is f e in
        rw f_is (fully (rw f_is at s) (rw f_is at l))
      where
        fully : Still FiveByte b nothing → Latchable FiveByte r → Reach FiveByte b nothing (finished (latched_in FiveByte r) ∷ []) nothing
        fully s l = let a = in_u b r s l in then a (ends FiveByte a.box 4 r a.still refl refl)
    go false e =
        let size = size_between f in
        let a = outside_u f b r s l e (size_of f - 1) (omega arith) in
        let k : size_of f - 1 + 1 ≡ size_of f = omega arith in
        then a (ends f a.box (size_of f - 1) r a.still k (rw e))

-- each passage, and a line of them
passes : (f : Format) (b : BallBox) (p : Passage Message) → Still f b nothing → CanPass f p → Reach f b nothing (p ∷ []) nothing
passes f b silent s c = record { events = Send ∷ []; box = b; run = pauses f b s; still = s }
passes f b (finished m) s c = rw c.1 (wholly f b c.0 s c.2)
passes f b (broken n m) s c = rw c.1 (then a d)
  where
    a : Reach f b nothing [] (first n (latched_in f c.0))
    a = partly f b n c.0 s c.2

    d : Reach f a.box (first n (latched_in f c.0)) (broken n (latched_in f c.0) ∷ []) nothing
    d =
        let t = a.still in
        record {
          events = Host mode_d ∷ [];
          box = after_d f a.box (first n (latched_in f c.0)) t.good t.awake t.format t.counter t.carries;
          run = d_breaks f a.box (first n (latched_in f c.0)) t.good t.awake t.format t.counter t.carries;
          still = d_still f a.box (first n (latched_in f c.0)) t.good t.awake t.format t.counter t.carries;
        }

pub line : (f : Format) (b : BallBox) (ps : List (Passage Message)) → Still f b nothing → CanStand f ps → Reach f b nothing ps nothing
line f b [] s c = record { events = []; box = b; run = end; still = s }
line f b (p ∷ ps) s c = let a = passes f b p s c.0 in then a (line f a.box ps a.still c.1)

pub at_end : (f : Format) (b : BallBox) (g : UnderWay Message) → Still f b nothing → CanGo f g → Reach f b nothing [] g
at_end f b nothing s c = record { events = []; box = b; run = end; still = s }
at_end f b (first n m) s c = rw c.1 (partly f b n c.0 s c.2)

-- what a run's history is, and its events
pub run_asks : {b c : BallBox} {g h : UnderWay Message} {es : List Event} {ps : List (Passage Message)} → Run b g es ps c h → (only_asks es ≡ true) × (all_handed es ≡ true)
unfolding all_hosts all_handed
run_asks end = (refl, refl)
run_asks (step a w n t p) = let k = run_asks p in (rw (a, k.0), rw (w, k.1))

pub run_history : {b c : BallBox} {g h : UnderWay Message} {es : List Event} {ps : List (Passage Message)} → Run b g es ps c h → (passages_of b g es ≡ ps) × (going_after b g es ≡ h)
unfolding passages_over going_over
run_history end = (refl, refl)
run_history (step a w n t p) = let k = run_history p in (rw (n, t, k.0), rw (n, t, k.1))
