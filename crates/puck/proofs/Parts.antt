-- A good device, part by part.
use Prim.Native.Nat.{ℕ, ◌≤◌, ◌<◌}
use mathlib.Core.Path.{◌≡◌, refl}
use mathlib.Core.Bool.{Bool, true, false, not, ◌&&◌, ◌||◌}
use mathlib.Core.Logic.{◌⊎◌, inl, inr}
use native.Mathlib.Omega.{arith}
use lib.Dec.{eqb, ltb, leb}
use borrow.Author.Tests.{eqb-true, eq-eqb, leb-true, le-leb, ltb-true, lt-ltb, not-true}
use Rattle.numbers.proofs.Choices.{or_else}
use Rattle.numbers.proofs.Tested.{left, right}
use Rattle.wire.specs.Line.{letter_of}
use Rattle.wire.specs.declared.Format.TheVariants.{Mm}
use Rattle.ballbox.specs.Box.{mode_d, due, dormant}
use Rattle.ballbox.specs.Good as boxes
use Rattle.ballbox.specs.declared.BallBox.{BallBox}
use Rattle.puck.specs.Rules.{mode_r}
use Rattle.puck.specs.Good.{follows, rests, good_test, good}
use Rattle.puck.specs.declared.Puck.{Puck}

-- one of two numbers
one_of : (n a b : ℕ) → eqb n a || eqb n b ≡ true → (n ≡ a) ⊎ (n ≡ b)
one_of n a b = or_else (eqb n a) (eqb n b) (λ e. inl (eqb-true n a e)) (λ e. inr (eqb-true n b e))

of_one : (n a b : ℕ) → (n ≡ a) ⊎ (n ≡ b) → eqb n a || eqb n b ≡ true
of_one n a b (inl e) = rw (eq-eqb n a e)
of_one n a b (inr e) = go (eqb n a) (eqb n b) (eq-eqb n b e)
  where
    go : (s t : Bool) → t ≡ true → s || t ≡ true
    go true t h = refl
    go false t h = h

pub record Follows (b : BallBox) : Type 0 where
  pub format : b.settings.format ≡ letter_of Mm
  pub mode : (b.settings.mode ≡ mode_r) ⊎ (b.settings.mode ≡ mode_d)
  pub awake : dormant b ≡ false
  pub length : (b.going.length ≡ 0) ⊎ (b.going.length ≡ 3)

pub follows_parts : (b : BallBox) → follows b ≡ true → Follows b
unfolding follows
follows_parts b h =
    let f = eqb b.settings.format (letter_of Mm) in
    let m = eqb b.settings.mode mode_r || eqb b.settings.mode mode_d in
    let d = not (dormant b) in
    let l = eqb b.going.length 0 || eqb b.going.length 3 in
    let three = left (f && m && d) l h in
    let two = left (f && m) d three in
    record {
      format = eqb-true b.settings.format (letter_of Mm) (left f m two);
      mode = one_of b.settings.mode mode_r mode_d (right f m two);
      awake = not-true (dormant b) (right (f && m) d three);
      length = one_of b.going.length 0 3 (right (f && m && d) l h);
    }

pub follows_again : (b : BallBox) → Follows b → follows b ≡ true
unfolding follows
follows_again b p =
    rw (eq-eqb b.settings.format (letter_of Mm) p.format, of_one b.settings.mode mode_r mode_d p.mode, p.awake, of_one b.going.length 0 3 p.length)

pub record Rests (b : BallBox) : Type 0 where
  pub length : b.going.length ≡ 0
  pub mode : b.settings.mode ≡ mode_d
  pub undue : due b ≡ false
  pub none : b.memory.count ≡ 0

pub rests_parts : (b : BallBox) → rests b ≡ true → Rests b
unfolding rests
rests_parts b h =
    let l = eqb b.going.length 0 in
    let m = eqb b.settings.mode mode_d in
    let d = not (due b) in
    let n = eqb b.memory.count 0 in
    let three = left (l && m && d) n h in
    let two = left (l && m) d three in
    record {
      length = eqb-true b.going.length 0 (left l m two);
      mode = eqb-true b.settings.mode mode_d (right l m two);
      undue = not-true (due b) (right (l && m) d three);
      none = eqb-true b.memory.count 0 (right (l && m && d) n h);
    }

pub rests_again : (b : BallBox) → Rests b → rests b ≡ true
unfolding rests
rests_again b p = rw (eq-eqb b.going.length 0 p.length, eq-eqb b.settings.mode mode_d p.mode, p.undue, eq-eqb b.memory.count 0 p.none)

-- a self-test that is going
pub record Going (p : Puck) : Type 0 where
  pub some : 0 < p.test.left
  pub four : p.test.left ≤ 4
  pub buttons : p.test.buttons ≤ 7
  pub rests : Rests p.ball

pub data Tests (p : Puck) : Type 0 where
  none_going : p.test.left ≡ 0 → p.test.buttons ≡ 0 → Tests p
  one_going : Going p → Tests p

pub test_parts : (p : Puck) → good_test p ≡ true → Tests p
unfolding good_test
test_parts p =
    let l = ltb 0 p.test.left in
    let f = leb p.test.left 4 in
    let b = leb p.test.buttons 7 in
    let r = rests p.ball in
    or_else (eqb p.test.left 0 && eqb p.test.buttons 0) (l && f && b && r)
    (λ h. none_going (eqb-true p.test.left 0 (left (eqb p.test.left 0) _ h)) (eqb-true p.test.buttons 0 (right (eqb p.test.left 0) _ h)))
    (λ h.
    let three = left (l && f && b) r h in
    let two = left (l && f) b three in
    one_going
    (record {
      some = ltb-true 0 p.test.left (left l f two);
      four = leb-true p.test.left 4 (right l f two);
      buttons = leb-true p.test.buttons 7 (right (l && f) b three);
      rests = rests_parts p.ball (right (l && f && b) r h);
    }))

pub test_again : (p : Puck) → Tests p → good_test p ≡ true
unfolding good_test
test_again p (none_going e f) = rw (eq-eqb p.test.left 0 e, eq-eqb p.test.buttons 0 f)
test_again p (one_going g) =
    rw (lt-ltb 0 p.test.left g.some, le-leb p.test.left 4 g.four, le-leb p.test.buttons 7 g.buttons, rests_again p.ball g.rests)
    (go (eqb p.test.left 0 && eqb p.test.buttons 0))
  where
    go : (s : Bool) → s || true ≡ true
    go true = refl
    go false = refl

pub record Good (p : Puck) : Type 0 where
  pub ball : boxes.good p.ball ≡ true
  pub follows : Follows p.ball
  pub tests : Tests p
  pub revision : p.revision ≤ 15
  pub maker : p.maker ≤ 7

pub parts : (p : Puck) → good p ≡ true → Good p
unfolding good
parts p h =
    let b = boxes.good p.ball in
    let f = follows p.ball in
    let t = good_test p in
    let r = leb p.revision 15 in
    let m = leb p.maker 7 in
    let four = left (b && f && t && r) m h in
    let three = left (b && f && t) r four in
    let two = left (b && f) t three in
    record {
      ball = left b f two;
      follows = follows_parts p.ball (right b f two);
      tests = test_parts p (right (b && f) t three);
      revision = leb-true p.revision 15 (right (b && f && t) r four);
      maker = leb-true p.maker 7 (right (b && f && t && r) m h);
    }

pub good_again : (p : Puck) → Good p → good p ≡ true
unfolding good
good_again p k = rw (k.ball, follows_again p.ball k.follows, test_again p k.tests, le-leb p.revision 15 k.revision, le-leb p.maker 7 k.maker)

-- whether one is going
pub is_going : (p : Puck) → Good p → ltb 0 p.test.left ≡ true → Going p
is_going p k e = go k.tests
  where
    go : Tests p → Going p
    go (none_going z f) = absurd (omega (arith, ltb-true 0 p.test.left e))
    go (one_going g) = g
