-- A self-test and its bytes, each the other's; and the figure's rows as a program tests them.
use Prim.Native.Nat.{ℕ, ◌+◌, ◌*◌, ◌/◌, ◌%◌, ◌<◌, ◌≤◌}
use mathlib.Core.Path.{◌≡◌, ◌∙◌}
use mathlib.Core.Bool.{true, ◌&&◌}
use mathlib.Core.List.{List, [], ◌∷◌, ◌++◌}
use native.Mathlib.Omega.{arith}
use native.Mathlib.Nat.{zero-add}
use lib.Dec.{eqb, ltb, leb}
use borrow.Author.Tests.{leb-true, le-leb, ltb-true, eqb-true}
use Rattle.numbers.specs.Bits.{I, O, number, bit, bits}
use Rattle.numbers.proofs.Tested.{left, right, agree}
use Rattle.numbers.proofs.Rows.{number_joined, number_bits, number_low}
use Rattle.wire.specs.Places.{like, fits_later}
use Rattle.wire.specs.Reading.{at}
use Rattle.wire.specs.declared.Format.TheVariants.{Mm}
use Rattle.wire.proofs.Codec.Cells.{like_byte}
use Rattle.wire.proofs.Codec.Fitting.{later_byte}
use Rattle.wire.proofs.FixedBits.{later_tested}
use Rattle.vsxxx.specs.SelfTests.{test_bytes, test_of, holds_test, is_test, is_buttons}
use Rattle.vsxxx.specs.declared.SelfTest.{SelfTest}

-- the rows as sums
pub first_row : (r : ℕ) → number (I ∷ O ∷ I ∷ O ∷ bits 4 0 r) ≡ 160 + r % 16
unfolding number
first_row r = number_joined (I ∷ O ∷ I ∷ O ∷ []) 4 r

pub second_row : (m d : ℕ) → number (O ∷ (bits 3 0 m ++ bits 4 0 d)) ≡ m % 8 * 16 + d % 16
unfolding number
second_row m d = number_joined (O ∷ bits 3 0 m) 4 d ∙ rw (number_joined (O ∷ []) 3 m, zero-add)

pub third_row : (e : ℕ) → number (O ∷ bits 7 0 e) ≡ e % 128
unfolding number
third_row e = number_joined (O ∷ []) 7 e ∙ zero-add (e % 128)

pub fourth_row : (b : ℕ) → number (O ∷ O ∷ O ∷ O ∷ O ∷ bits 3 0 b) ≡ b % 8
unfolding number
fourth_row b = number_joined (O ∷ O ∷ O ∷ O ∷ O ∷ []) 3 b ∙ zero-add (b % 8)

pub bytes_are : (t : SelfTest) → test_bytes t ≡ (160 + t.revision % 16) ∷ (t.maker % 8 * 16 + t.device % 16) ∷ t.error % 128 ∷ t.buttons % 8 ∷ []
unfolding test_bytes
bytes_are t = rw (first_row t.revision, second_row t.maker t.device, third_row t.error, fourth_row t.buttons)

-- and the numbers read from them
pub test_is : (bs : List ℕ) → test_of bs ≡ record { revision = at 0 bs % 16; maker = at 1 bs / 16 % 8; device = at 1 bs % 16; error = at 2 bs % 128; buttons = at 3 bs % 8 }
unfolding test_of
test_is bs = rw (number_low 4 (at 0 bs), number_bits 3 4 (at 1 bs), number_low 4 (at 1 bs), number_low 7 (at 2 bs), number_low 3 (at 3 bs))

-- the fixed bits, as a program tests them
pub test_byte : (b : ℕ) → is_test b ≡ true → b < 256
unfolding is_test
test_byte b l = like_byte _ b l

pub test_tested : (b : ℕ) → b < 256 → eqb (b / 16) 10 ≡ is_test b
unfolding is_test like bit
test_tested b h = agree (λ b. eqb (b / 16) 10) is_test 256 tt b h

pub buttons_byte : (b : ℕ) → is_buttons b ≡ true → b < 256
unfolding is_buttons
buttons_byte b l = like_byte _ b l

pub buttons_tested : (b : ℕ) → b < 256 → ltb b 8 ≡ is_buttons b
unfolding is_buttons like bit
buttons_tested b h = agree (λ b. ltb b 8) is_buttons 256 tt b h

-- what they say of a number
pub test_high : (b : ℕ) → is_test b ≡ true → b / 16 ≡ 10
test_high b l = eqb-true (b / 16) 10 (test_tested b (test_byte b l) ∙ l)

pub later_below : (b : ℕ) → fits_later Mm b ≡ true → b < 128
later_below b l = ltb-true b 128 (later_tested Mm b (later_byte Mm b l) ∙ l)

pub buttons_below : (b : ℕ) → is_buttons b ≡ true → b < 8
buttons_below b l = ltb-true b 8 (buttons_tested b (buttons_byte b l) ∙ l)

-- a self-test that the figure has room for
pub record Room (t : SelfTest) : Type 0 where
  pub revision : t.revision ≤ 15
  pub maker : t.maker ≤ 7
  pub device : t.device ≤ 15
  pub error : t.error ≤ 127
  pub buttons : t.buttons ≤ 7

pub room : (t : SelfTest) → holds_test t ≡ true → Room t
room t h =
    let r = leb t.revision 15 in
    let m = leb t.maker 7 in
    let d = leb t.device 15 in
    let e = leb t.error 127 in
    let b = leb t.buttons 7 in
    let four = left (r && m && d && e) b h in
    let three = left (r && m && d) e four in
    let two = left (r && m) d three in
    record {
      revision = leb-true t.revision 15 (left r m two);
      maker = leb-true t.maker 7 (right r m two);
      device = leb-true t.device 15 (right (r && m) d three);
      error = leb-true t.error 127 (right (r && m && d) e four);
      buttons = leb-true t.buttons 7 (right (r && m && d && e) b h);
    }

pub room_holds : (t : SelfTest) → Room t → holds_test t ≡ true
room_holds t k = rw (le-leb t.revision 15 k.revision, le-leb t.maker 7 k.maker, le-leb t.device 15 k.device, le-leb t.error 127 k.error, le-leb t.buttons 7 k.buttons)

-- There: what is read from its bytes is the self-test
pub there : (t : SelfTest) → holds_test t ≡ true → test_of (test_bytes t) ≡ t
there t h =
    let k = room t h in
    let a : (160 + t.revision % 16) % 16 ≡ t.revision = omega (arith, k.revision) in
    let b : (t.maker % 8 * 16 + t.device % 16) / 16 % 8 ≡ t.maker = omega (arith, k.maker) in
    let c : (t.maker % 8 * 16 + t.device % 16) % 16 ≡ t.device = omega (arith, k.device) in
    let d : t.error % 128 % 128 ≡ t.error = omega (arith, k.error) in
    let e : t.buttons % 8 % 8 ≡ t.buttons = omega (arith, k.buttons) in
    rw (bytes_are t) (test_is _ ∙ rw (a, b, c, d, e))

-- And back: what was read has its bytes
pub back : (b1 b2 b3 b4 : ℕ) → is_test b1 ≡ true → fits_later Mm b2 ≡ true → fits_later Mm b3 ≡ true → is_buttons b4 ≡ true
    → test_bytes (test_of (b1 ∷ b2 ∷ b3 ∷ b4 ∷ [])) ≡ b1 ∷ b2 ∷ b3 ∷ b4 ∷ []
back b1 b2 b3 b4 h1 h2 h3 h4 =
    let a : 160 + b1 % 16 % 16 ≡ b1 = omega (arith, test_high b1 h1) in
    let b : b2 / 16 % 8 % 8 * 16 + b2 % 16 % 16 ≡ b2 = omega (arith, later_below b2 h2) in
    let c : b3 % 128 % 128 ≡ b3 = omega (arith, later_below b3 h3) in
    let d : b4 % 8 % 8 ≡ b4 = omega (arith, buttons_below b4 h4) in
    rw (test_is (b1 ∷ b2 ∷ b3 ∷ b4 ∷ [])) (bytes_are _ ∙ rw (a, b, c, d))

pub read_holds : (bs : List ℕ) → holds_test (test_of bs) ≡ true
read_holds bs =
    rw (test_is bs)
    (room_holds (record { revision = at 0 bs % 16; maker = at 1 bs / 16 % 8; device = at 1 bs % 16; error = at 2 bs % 128; buttons = at 3 bs % 8 }) (record { revision = omega arith; maker = omega arith; device = omega arith; error = omega arith; buttons = omega arith }))
