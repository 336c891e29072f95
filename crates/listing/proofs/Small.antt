-- What a reader hands out is small: a sum of two movements has four digits at most, and of bytes one is dropped at least and no more than a report has.
use Prim.Native.Nat.{ℕ, zero, suc, ◌+◌, ◌<◌, ◌≤◌, ◌^◌}
use mathlib.Core.Path.{◌≡◌, refl}
use mathlib.Core.Bool.{Bool, true, false}
use mathlib.Core.List.{List, ◌++◌}
use native.Mathlib.Omega.{arith}
use lib.Dec.{ltb, eqb}
use lib.IntN.{ℤ, pos, negsuc, neg_ℤ, ◌+ℤ◌, nat_abs}
use lib.ListN.{length-append}
use borrow.Author.Tests.{ltb-true, ltb-false, eqb-false}
use mir.Syntax.{w16, w64}
use mir.Val.{SFits}
use Rattle.numbers.specs.Bits.{number, bits, bit}
use Rattle.numbers.specs.Signed.{untwos, signed}
use Rattle.numbers.proofs.Choices.{cases}
use Rattle.numbers.proofs.Held as held
use Rattle.numbers.proofs.Rows.{number_below, bits_below, length_bits}
use Rattle.frames.specs.Words.{is_byte, break, silence}
use Rattle.wire.specs.Line.{named_by, of_named}
use Rattle.wire.specs.Reading.{report, read_s, read_v, read_a, read_b, read_u, read_t, read_w, twelve, pair, at, report_of, report_by}
use Rattle.wire.specs.declared.Report.{Report}
use Rattle.std.proofs.Common.{Option, Some, None}
use Rattle.wire.specs.declared.Format.{Format}
use Rattle.wire.specs.declared.Format.TheVariants.{Mm, Microsoft, Absolute, Relative, FiveByte, ThreeByte, Hexadecimal}
use Rattle.reader.specs.Good.{good}
use Rattle.reader.specs.Rules.{entered, dropping, fitting, finishes, more, keep, starting, start, straying, stray, lose, byte_of, break_of, silence_of, word_of}
use Rattle.reader.specs.Promises.{step_of}
use Rattle.reader.specs.declared.Reader.{Reader}
use Rattle.reader.specs.State.{Read}
use Rattle.reader.specs.declared.Answer.{Answer}
use Rattle.reader.specs.declared.Answer.TheVariants as answer
use Rattle.reader.proofs.Parts.{parts, one_more_lem}

-- 16 bits in 64, and the sum of two
pub wider : {z : ℤ} → SFits w16 z → SFits w64 z
wider h = record { sfits = omega (arith, h.sfits) }

pub sum_fits : {a b : ℤ} → SFits w16 a → SFits w16 b → SFits w64 (a +ℤ b)
sum_fits h k = record { sfits = omega (arith, (held.sum_fits h k).sfits) }

-- sums, two's complement and signs
abs_sum : (a b : ℤ) → nat_abs (a +ℤ b) ≤ nat_abs a + nat_abs b
abs_sum (pos a) (pos b) = omega arith
abs_sum (pos a) (negsuc b) = cases (λ (z : ℤ). nat_abs z ≤ a + suc b) (ltb a (suc b)) (λ e. omega (arith, ltb-true a (suc b) e)) (λ _. omega arith)
abs_sum (negsuc a) (pos b) = cases (λ (z : ℤ). nat_abs z ≤ suc a + b) (ltb b (suc a)) (λ e. omega (arith, ltb-true b (suc a) e)) (λ _. omega arith)
abs_sum (negsuc a) (negsuc b) = omega arith

abs_few : (z : ℤ) → SFits w16 z → nat_abs z ≤ 32768
abs_few (pos n) h = omega arith
abs_few (negsuc n) h = omega arith

pub sum_few : {a b : ℤ} → SFits w16 a → SFits w16 b → nat_abs (a +ℤ b) < 100000
sum_few {a} {b} h k = omega (arith, abs_sum a b, abs_few a h, abs_few b k)

abs_neg : (z : ℤ) → nat_abs (neg_ℤ z) ≡ nat_abs z
abs_neg (pos zero) = refl
abs_neg (pos (suc n)) = refl
abs_neg (negsuc n) = refl

abs_signed : (t : Bool) (m : ℕ) → nat_abs (signed t m) ≡ m
unfolding signed
abs_signed true m = refl
abs_signed false m = abs_neg (pos m)

abs_untwos : (half n : ℕ) → 1 ≤ half → nat_abs (untwos half n) ≤ half
unfolding untwos
abs_untwos half n h = cases (λ (z : ℤ). nat_abs z ≤ half) (ltb n half) (λ e. omega (arith, ltb-true n half e)) (λ e. omega (arith, ltb-false n half e))

twelve_below : (low high : ℕ) → twelve low high < 4096
twelve_below low high =
    rw (length-append (bits 6 0 high) (bits 6 0 low), length_bits 6 0 high, length_bits 6 0 low) at (number_below (bits 6 0 high ++ bits 6 0 low))

-- both pairs of a report
pub record Near (p : Report) : Type 0 where
  pub x1 : nat_abs p.x1 < 4096
  pub y1 : nat_abs p.y1 < 4096
  pub x2 : nat_abs p.x2 < 4096
  pub y2 : nat_abs p.y2 < 4096

one_pair : (b : ℕ) (x y : ℤ) → nat_abs x < 4096 → nat_abs y < 4096 → Near (report b x y)
one_pair b x y h k = record { x1 = h; y1 = k; x2 = omega arith; y2 = omega arith }

byte_near : (n : ℕ) → nat_abs (untwos 128 n) < 4096
byte_near n = omega (arith, abs_untwos 128 n (omega arith))

near_report : (f : Format) (bs : List ℕ) → Near (report_of f bs)
unfolding read_s read_v read_a read_b read_u read_t read_w
near_report Mm bs =
    one_pair _ _ _ (omega (arith, abs_signed (bit 4 (at 0 bs)) (number (bits 7 0 (at 1 bs))), bits_below 7 0 (at 1 bs)))
    (omega (arith, abs_signed (bit 3 (at 0 bs)) (number (bits 7 0 (at 2 bs))), bits_below 7 0 (at 2 bs)))
near_report Microsoft bs =
    let y = number (bits 2 2 (at 0 bs) ++ bits 6 0 (at 2 bs)) in
    one_pair _ _ _ (byte_near _) (omega (arith, abs_neg (untwos 128 y), byte_near y))
near_report Absolute bs = one_pair _ _ _ (twelve_below (at 1 bs) (at 2 bs)) (twelve_below (at 3 bs) (at 4 bs))
near_report Relative bs = one_pair _ _ _ (half (twelve (at 1 bs) (at 2 bs))) (half (twelve (at 3 bs) (at 4 bs)))
  where
    half : (n : ℕ) → nat_abs (untwos 2048 n) < 4096
    half n = omega (arith, abs_untwos 2048 n (omega arith))
near_report FiveByte bs = record { x1 = byte_near (at 1 bs); y1 = byte_near (at 2 bs); x2 = byte_near (at 3 bs); y2 = byte_near (at 4 bs) }
near_report ThreeByte bs = one_pair _ _ _ (byte_near (at 1 bs)) (byte_near (at 2 bs))
near_report Hexadecimal bs = one_pair _ _ _ (byte_near (pair (at 1 bs) (at 2 bs))) (byte_near (pair (at 3 bs) (at 4 bs)))

-- an answer
abbrev pub Small : Answer → Type 0
Small answer.Nothing = Unit {0}
Small (answer.Report p) = (nat_abs (p.x1 +ℤ p.x2) < 10 ^ 4) × (nat_abs (p.y1 +ℤ p.y2) < 10 ^ 4)
Small (answer.Dropped k) = (1 ≤ k) × (k < 10 ^ 4)

near_small : (p : Report) → Near p → Small (answer.Report p)
near_small p h = (omega (arith, abs_sum p.x1 p.x2, h.x1, h.x2), omega (arith, abs_sum p.y1 p.y2, h.y1, h.y2))

pub small_report : (letter : ℕ) (bs : List ℕ) → Small (answer.Report (report_by letter bs))
unfolding report_by
small_report letter bs = go (named_by letter)
  where
    go : (n : Option Format) → Small (answer.Report (of_named (report 0 (pos 0) (pos 0)) (λ f. report_of f bs) n))
    go (Some f) = near_small (report_of f bs) (near_report f bs)
    go None = (omega arith, omega arith)

module _ (r : Reader) (few : r.count < 5) where
  abbrev P : Read → Type 0
  P s = Small s.answer

  small_drop : Small (dropping r.count)
  unfolding dropping
  small_drop = cases Small (eqb r.count 0) (λ _. tt) (λ e. (omega (arith, eqb-false r.count 0 e), omega arith))

  small_keep : (b : ℕ) → P (keep r b)
  unfolding keep
  small_keep b = cases P (finishes r) (λ _. small_report r.format (more r b)) (λ _. tt)

  small_byte : (b : ℕ) → P (byte_of r b)
  unfolding byte_of start stray lose
  small_byte b =
      cases P r.awaiting (λ _. (omega arith, omega arith))
      (λ _. cases P (fitting r b) (λ _. small_keep b)
      (λ _. cases P (starting r b) (λ _. small_drop)
      (λ _. cases P (straying r b) (λ _. (omega arith, omega arith))
      (λ _. (omega arith, omega arith)))))

  small_word : (w : ℕ) → P (word_of r w)
  unfolding word_of break_of silence_of
  small_word w =
      cases P (is_byte w) (λ _. small_byte (entered r.format w))
      (λ _. cases P (eqb w break) (λ _. small_drop)
      (λ _. cases P (eqb w silence) (λ _. small_drop)
      (λ _. tt)))

-- a good reader keeps fewer than five bytes
pub few_kept : (r : Reader) → good r ≡ true → r.count < 5
few_kept r g = omega (arith, one_more_lem r g, (parts r g).five)

pub small_step : (r : Reader) (w : ℕ) → Small (step_of r w).answer
unfolding step_of
small_step r w = cases (λ (s : Read). Small s.answer) (good r) (λ g. small_word r (few_kept r g) w) (λ _. tt)
