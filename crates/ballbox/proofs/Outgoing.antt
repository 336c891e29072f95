-- What is going: the rules that it keeps, where nothing is left, where a reply or a report is to be sent, and after a byte.
use Prim.Native.Nat.{ℕ, ◌+◌, ◌-◌, ◌≤◌, ◌<◌}
use mathlib.Core.Path.{◌≡◌, refl, sym, ap, ◌∙◌}
use mathlib.Core.Bool.{Bool, true, false, not, ◌&&◌, ◌||◌, or-true}
use mathlib.Core.List.{List, ◌++◌}
use native.Mathlib.Omega.{arith}
use lib.Dec.{leb, ltb, eqb}
use lib.ListN.{length, replicate, get_or-replicate}
use lib.Seq.{get_or-take, get_or-append-add}
use borrow.Author.Tests.{leb-true, ltb-false, lt-ltb, le-leb, lt-leb, eqb-true, eq-eqb, not-false}
use Rattle.numbers.proofs.Choices.{or_else, other, either, neither, cases}
use Rattle.numbers.specs.Signed.{twos}
use Rattle.numbers.proofs.Tested.{left, right, holds, each_at, each_of}
use Rattle.wire.specs.Line.{letter_of, named_by, size_by, known}
use Rattle.wire.specs.Table.{five, bytes_u, bytes_by}
use Rattle.wire.specs.Reading.{at}
use Rattle.wire.specs.declared.Format.TheVariants.{FiveByte}
use Rattle.wire.proofs.Letters.{letter_named}
use Rattle.wire.proofs.Front.{size_between}
use Rattle.ballbox.specs.Box.{going_from, nothing}
use Rattle.ballbox.specs.Latching.{latched_report, latched, with_second}
use Rattle.ballbox.specs.Events.{after}
use Rattle.ballbox.specs.Good.{sent_below, length_known, second_held, zero_from, rest_zero, good_going}
use Rattle.ballbox.specs.declared.Pair.{Pair}
use Rattle.ballbox.specs.declared.Going.{Going}
use Rattle.ballbox.specs.declared.BallBox.{BallBox}
use Rattle.ballbox.proofs.Letters.{Lettered, named, unnamed, lettered}
use Rattle.ballbox.proofs.Accepting.{bytes_by_length}

-- the rules of what is going
pub record GoodGoing (letter : ℕ) (g : Going) : Type 0 where
  pub below : sent_below g ≡ true
  pub known : length_known letter g ≡ true
  pub second : second_held letter g ≡ true
  pub zero : rest_zero g ≡ true

module _ (letter : ℕ) (g : Going) where
  pub going_parts : good_going letter g ≡ true → GoodGoing letter g
  unfolding good_going
  going_parts e =
      let two = sent_below g && length_known letter g in
      let three = two && second_held letter g in
      let e3 = left three (rest_zero g) e in
      let e2 = left two (second_held letter g) e3 in
      record {
        below = left (sent_below g) (length_known letter g) e2;
        known = right (sent_below g) (length_known letter g) e2;
        second = right two (second_held letter g) e3;
        zero = right three (rest_zero g) e;
      }

  pub going_again : GoodGoing letter g → good_going letter g ≡ true
  unfolding good_going
  going_again o = rw (o.below, o.known, o.second, o.zero)

-- what is going when it is made of bytes: behind them the five hold zeros
behind : (bytes : List ℕ) (i : ℕ) → i < 5 → length bytes ≤ i → at i (five bytes) ≡ 0
behind bytes i l h =
    let k : length bytes + (i - length bytes) ≡ i = omega arith in
    get_or-take 5 (bytes ++ replicate 5 0) i 0 l ∙
    (ap (λ (n : ℕ). at n (bytes ++ replicate 5 0)) (sym k) ∙
    (get_or-append-add bytes (replicate 5 0) (i - length bytes) 0 ∙ get_or-replicate 5 (i - length bytes) 0 0 (omega arith)))

zeros_behind : (bytes : List ℕ) → rest_zero (going_from bytes) ≡ true
unfolding going_from
zeros_behind bytes =
    each_of (λ i. zero_from i (going_from bytes)) 5
    (λ i l. either (ltb i (length bytes)) (eqb (at i (five bytes)) 0) (λ e. eq-eqb _ _ (behind bytes i l (ltb-false i (length bytes) e))))

-- nothing is left to send
pub record Idle (letter : ℕ) (g : Going) : Type 0 where
  pub length0 : g.length ≡ 0
  pub sent0 : g.sent ≡ 0
  pub zero : rest_zero g ≡ true

pub idle_good : (letter : ℕ) {other : ℕ} (g : Going) → Idle other g → GoodGoing letter g
idle_good letter g i =
    let z = each_at (λ k. zero_from k g) 5 i.zero in
    let three : eqb (at 3 g.bytes) 0 ≡ true = rw i.length0 at (z 3 (omega arith)) in
    let four : eqb (at 4 g.bytes) 0 ≡ true = rw i.length0 at (z 4 (omega arith)) in
    record {
      below = rw (i.sent0, i.length0);
      known = rw i.length0;
      second = rw (three, four, or-true);
      zero = i.zero;
    }

pub nothing_idle : (letter : ℕ) → Idle letter nothing
nothing_idle letter = record { length0 = refl; sent0 = refl; zero = refl }

-- where no bytes are left nothing is going
pub left_idle : (letter : ℕ) (g : Going) → GoodGoing letter g → ltb g.sent g.length ≡ false → Idle letter g
left_idle letter g o l =
    let none = other (ltb g.sent g.length) (eqb g.sent 0 && eqb g.length 0) o.below l in
    record {
      length0 = eqb-true g.length 0 (right (eqb g.sent 0) (eqb g.length 0) none);
      sent0 = eqb-true g.sent 0 (left (eqb g.sent 0) (eqb g.length 0) none);
      zero = o.zero;
    }

-- one to three bytes of a reply
pub reply_good : (letter : ℕ) (bytes : List ℕ) → 1 ≤ length bytes → length bytes ≤ 3 → GoodGoing letter (going_from bytes)
unfolding going_from
reply_good letter bytes l m =
    record {
      below = rw (lt-ltb 0 (length bytes) l);
      known = rw (le-leb (length bytes) 3 m);
      second = rw (eq-eqb _ _ (behind bytes 3 (omega arith) m), eq-eqb _ _ (behind bytes 4 (omega arith) (omega arith)), or-true);
      zero = zeros_behind bytes;
    }

-- what is going and has a byte to send, U's second pair put in: the rules that hold when the byte has gone
abbrev pub onward : Going → Going
onward g = record { length = g.length; sent = g.sent + 1; bytes = g.bytes }

pub record Sendable (letter : ℕ) (g : Going) : Type 0 where
  pub below : g.sent < g.length
  pub known : length_known letter g ≡ true
  pub second : second_held letter (onward g) ≡ true
  pub zero : rest_zero g ≡ true

pub after_good : (letter : ℕ) (g : Going) → Sendable letter g → GoodGoing letter (after g)
unfolding after
after_good letter g m =
    cases (GoodGoing letter) (ltb (g.sent + 1) g.length)
    (λ e.
    record {
      below = rw e;
      known = m.known;
      second = m.second;
      zero = m.zero;
    })
    (λ e. idle_good letter nothing (nothing_idle letter))

pub going_sendable : (letter : ℕ) (g : Going) → GoodGoing letter g → g.sent < g.length → Sendable letter g
going_sendable letter g o l =
    let u = not (eqb letter (letter_of FiveByte)) in
    let zeros = eqb (at 3 g.bytes) 0 && eqb (at 4 g.bytes) 0 in
    let later : leb 4 g.sent ≡ true → leb 4 (g.sent + 1) ≡ true = λ e. le-leb 4 (g.sent + 1) (omega (arith, leb-true 4 g.sent e)) in
    record {
      below = l;
      known = o.known;
      second = or_else (u || leb 4 g.sent) zeros
          (or_else u (leb 4 g.sent) (λ e. rw e) (λ e. rw (later e) (ap (λ (t : Bool). t || zeros) (or-true u))))
          (λ e. rw e (or-true (u || leb 4 (g.sent + 1))))
          o.second;
      zero = o.zero;
    }

-- when byte 4 of U is sent all five bytes are going
size_u : size_by (letter_of FiveByte) ≡ 5
unfolding size_by named_by
size_u = refl

pub second_sendable : (letter : ℕ) (p : Pair) (g : Going) → GoodGoing letter g → g.sent < g.length → letter ≡ letter_of FiveByte → g.sent ≡ 3 → Sendable letter (with_second p g)
unfolding with_second
second_sendable letter p g o l u s =
    let all : g.length ≡ 5 = eqb-true _ _ (other (leb g.length 3) (eqb g.length (size_by letter)) o.known (lt-leb g.length 3 (omega arith))) ∙ (ap size_by u ∙ size_u) in
    record { below = l; known = o.known; second = rw (s, or-true); zero = rw all }

-- a report is latched, and none of it is sent: its first byte is there to be sent
size_by_lem : (letter : ℕ) → Lettered letter → known letter ≡ true → 3 ≤ size_by letter
unfolding size_by
size_by_lem letter (named f e) h = rw (e, letter_named f) (size_between f).0
size_by_lem letter (unnamed e none) h = absurd (holds (sym none ∙ h))

pub size_known : (letter : ℕ) → known letter ≡ true → 3 ≤ size_by letter
size_known letter = size_by_lem letter (lettered letter)

pub latched_below : (b : BallBox) → known b.settings.format ≡ true → ltb (latched b).going.sent (latched b).going.length ≡ true
unfolding latched going_from
latched_below b h =
    let l = b.settings.format in
    lt-ltb 0 (length (bytes_by l (latched_report b))) (omega (arith, bytes_by_length l (latched_report b), size_known l h))

pub latched_going : (b : BallBox) → known b.settings.format ≡ true → GoodGoing b.settings.format (latched b).going
unfolding latched latched_report going_from bytes_by named_by bytes_u twos
latched_going b h =
    let l = b.settings.format in
    let bytes = bytes_by l (latched_report b) in
    let size = bytes_by_length l (latched_report b) in
    record {
      below = rw (latched_below b h);
      known = either (leb (length bytes) 3) (eqb (length bytes) (size_by l)) (λ n. eq-eqb _ _ size);
      second = either (not (eqb l (letter_of FiveByte)) || false) (eqb (at 3 (five bytes)) 0 && eqb (at 4 (five bytes)) 0) (λ n. rw (eqb-true l (letter_of FiveByte) (not-false _ (neither _ _ n).0)));
      zero = zeros_behind bytes;
    }
