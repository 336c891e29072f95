-- A good box, part by part, and what latching and sending need of it.
use Prim.Native.Nat.{◌≤◌}
use mathlib.Core.Path.{◌≡◌, refl}
use mathlib.Core.Bool.{true, ◌&&◌, ◌||◌}
use native.Mathlib.Omega.{arith}
use lib.Dec.{leb, eqb}
use borrow.Author.Tests.{leb-true, eqb-true}
use Rattle.numbers.proofs.Choices.{or_else, cases}
use Rattle.numbers.proofs.Tested.{left, right}
use Rattle.wire.specs.Line.{size_by, known}
use Rattle.wire.proofs.Letters.{at_most_five}
use Rattle.ballbox.specs.Box.{mode_d}
use Rattle.ballbox.specs.Presses.{to_show}
use Rattle.ballbox.specs.Latching.{second_latched, with_second}
use Rattle.ballbox.specs.Commands.{is_stream}
use Rattle.ballbox.specs.Events.{second_now, with_byte_ready}
use Rattle.ballbox.specs.Good.{good, good_settings, good_track, good_going, dormant_rightly, good_memory, remembers_rightly, shows_rightly, marks}
use Rattle.ballbox.specs.declared.Settings.{Settings}
use Rattle.ballbox.specs.declared.BallBox.{BallBox}
use Rattle.ballbox.proofs.Remembering.{shown_small}
use Rattle.ballbox.proofs.Outgoing.{GoodGoing, going_parts, going_again}

-- what is set
module _ (s : Settings) (h : good_settings s ≡ true) where
  pub letter_known : known s.format ≡ true
  unfolding good_settings
  letter_known =
      left (known s.format) (is_stream s.mode || eqb s.mode mode_d)
      (left (known s.format && (is_stream s.mode || eqb s.mode mode_d)) (leb s.buttons 7) h)

  pub mode_known : (is_stream s.mode || eqb s.mode mode_d) ≡ true
  unfolding good_settings
  mode_known =
      right (known s.format) (is_stream s.mode || eqb s.mode mode_d)
      (left (known s.format && (is_stream s.mode || eqb s.mode mode_d)) (leb s.buttons 7) h)

  pub few : leb s.buttons 7 ≡ true
  unfolding good_settings
  few = right (known s.format && (is_stream s.mode || eqb s.mode mode_d)) (leb s.buttons 7) h

-- U's second pair leaves the count of bytes sent
pub ready_sent : (b : BallBox) → (with_byte_ready b).going.sent ≡ b.going.sent
unfolding with_byte_ready second_latched with_second
ready_sent b = cases (λ (x : BallBox). x.going.sent ≡ b.going.sent) (second_now b) (λ e. refl) (λ e. refl)

-- a good box, part by part
pub record Good (b : BallBox) : Type 0 where
  pub settings : good_settings b.settings ≡ true
  pub track : good_track b.track ≡ true
  pub going : GoodGoing b.settings.format b.going
  pub sleep : dormant_rightly b ≡ true
  pub memory : good_memory b.memory ≡ true
  pub remembers : remembers_rightly b ≡ true
  pub shows : shows_rightly b.settings.format b.going b.memory ≡ true
  pub marks : marks b ≡ true

pub parts : (b : BallBox) → good b ≡ true → Good b
unfolding good
parts b g =
    let s = good_settings b.settings in
    let t = good_track b.track in
    let o = good_going b.settings.format b.going in
    let d = dormant_rightly b in
    let m = good_memory b.memory in
    let r = remembers_rightly b in
    let w = shows_rightly b.settings.format b.going b.memory in
    let seven = left (s && t && o && d && m && r && w) (marks b) g in
    let six = left (s && t && o && d && m && r) w seven in
    let five = left (s && t && o && d && m) r six in
    let four = left (s && t && o && d) m five in
    let three = left (s && t && o) d four in
    let two = left (s && t) o three in
    record {
      settings = left s t two;
      track = right s t two;
      going = going_parts b.settings.format b.going (right (s && t) o three);
      sleep = right (s && t && o) d four;
      memory = right (s && t && o && d) m five;
      remembers = right (s && t && o && d && m) r six;
      shows = right (s && t && o && d && m && r) w seven;
      marks = right (s && t && o && d && m && r && w) (marks b) g;
    }

pub good_again : (b : BallBox) → Good b → good b ≡ true
unfolding good
good_again b p = rw (p.settings, p.track, going_again b.settings.format b.going p.going, p.sleep, p.memory, p.remembers, p.shows, p.marks)

pub good_buttons : (b : BallBox) → good b ≡ true → b.settings.buttons ≤ 7
good_buttons b g = leb-true b.settings.buttons 7 (few b.settings (parts b g).settings)

-- so are the buttons that a report is to show
pub good_shown : (b : BallBox) → good b ≡ true → to_show b ≤ 7
good_shown b g = shown_small b (parts b g).memory (good_buttons b g)

-- at most five bytes are going
pub good_length : (b : BallBox) → good b ≡ true → b.going.length ≤ 5
good_length b g =
    let f = b.settings.format in
    let n = b.going.length in
    or_else (leb n 3) (eqb n (size_by f)) (λ e. omega (arith, leb-true n 3 e)) (λ e. omega (arith, eqb-true n (size_by f) e, at_most_five f)) (parts b g).going.known
