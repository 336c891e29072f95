-- Whole reports: the bytes of what a box can latch stand, and bytes that stand are those of what a box can latch.
use Prim.Native.Nat.{ℕ, zero, suc, ◌+◌, ◌-◌, ◌<◌}
use mathlib.Core.Path.{◌≡◌, refl, sym, ap, ◌∙◌}
use mathlib.Core.Bool.{Bool, true, false, not, ◌&&◌, ◌||◌, and-false}
use mathlib.Core.List.{List, [], ◌∷◌, ◌++◌}
use native.Mathlib.Omega.{arith}
use lib.IntN.{ℤ, pos, negsuc, neg_ℤ, nat_abs}
use lib.Signed.{non_neg}
use lib.ListN.{length, get_or, length-append}
use lib.Dec.{eqb, leb, ltb}
use borrow.Author.Tests.{eqb-true, eqb-false, eq-eqb, le-leb, ltb-true, ltb-false, not-true}
use Rattle.numbers.specs.Bits.{I, O, number, bit, bits}
use Rattle.numbers.specs.Signed.{minus, untwos}
use Rattle.numbers.proofs.Choices.{both, neither}
use Rattle.numbers.proofs.Tested.{left, right, holds, refused, agree_if}
use Rattle.numbers.proofs.Rows.{bit_in}
use Rattle.numbers.proofs.Twos.{neg_magnitude}
use Rattle.frames.specs.Frame.{Fits}
use Rattle.wire.specs.Line.{letter_of, size_of}
use Rattle.wire.specs.Table.{L, M, R, bytes_of, bytes_s, bytes_v, rows_v, bytes_a, bytes_b, rows_a, bytes_u, bytes_t, bytes_w, rows_w}
use Rattle.wire.specs.Holds.{◌to◌, within, accepted, x_range, y_range, second_range}
use Rattle.wire.specs.Places.{fits_later, fits_at, valid}
use Rattle.wire.specs.Digits.{undigit}
use Rattle.wire.specs.Reading.{at, report_of, read_v, read_u, read_t, read_w, pair, settled}
use Rattle.wire.specs.declared.Report.{Report}
use Rattle.wire.specs.declared.Format.{Format}
use Rattle.wire.specs.declared.Format.TheVariants.{Mm, Microsoft, Absolute, Relative, FiveByte, ThreeByte, Hexadecimal}
use Rattle.wire.proofs.Codec.{bytes_fit, there, read_accepted, back, settled_same}
use Rattle.wire.proofs.Front.{size_between}
use Rattle.wire.proofs.Codec.Shapes.{fits_valid}
use Rattle.wire.proofs.Codec.Fitting.{later_byte}
use Rattle.wire.proofs.Fields.{pair_of, undigit_below}
use Rattle.wire.proofs.Codec.Accepted.{parts}
use Rattle.wire.proofs.Codec.Ranges.{magnitude, magnitude_within}
use Rattle.ballbox.specs.Latching.{limits}
use Rattle.yard.specs.Stands.{minus_zero, is_least, least_v, least, least_w, barred, stands}
use Rattle.proper.proofs.Latchable.{second_limits, Latchable, latchable_accepted, strict}

-- a byte that fits and is not barred
pub standing : (f : Format) (place first last b : ℕ) → fits_at f place b ≡ true → barred f place first last b ≡ false → stands f place first last b ≡ true
unfolding stands
standing f place first last b h k = both (fits_at f place b) (not (barred f place first last b)) h (rw k)

pub fitting : (f : Format) (place first last b : ℕ) → stands f place first last b ≡ true → fits_at f place b ≡ true
unfolding stands
fitting f place first last b h = left (fits_at f place b) (not (barred f place first last b)) h

unbarred : (f : Format) (place first last b : ℕ) → stands f place first last b ≡ true → barred f place first last b ≡ false
unfolding stands
unbarred f place first last b h = not-true _ (right (fits_at f place b) (not (barred f place first last b)) h)

-- -128 on the wire: no movement within the limits is
not_least : (X : ℕ) (z : ℤ) → untwos 128 X ≡ z → within (minus 127 to pos 127) z ≡ true → is_least X ≡ false
unfolding untwos
not_least X z e h =
    refused (is_least X)
    (λ q.
    let k : within (minus 127 to pos 127) (untwos 128 128) ≡ true = ap (λ (n : ℕ). within (minus 127 to pos 127) (untwos 128 n)) (sym (eqb-true X 128 q)) ∙ ap (within (minus 127 to pos 127)) e ∙ h in
    holds k)

not_south : (Y : ℕ) (z : ℤ) → neg_ℤ (untwos 128 Y) ≡ z → within (minus 127 to pos 127) z ≡ true → is_least Y ≡ false
unfolding untwos
not_south Y z e h =
    refused (is_least Y)
    (λ q.
    let k : within (minus 127 to pos 127) (neg_ℤ (untwos 128 128)) ≡ true = ap (λ (n : ℕ). within (minus 127 to pos 127) (neg_ℤ (untwos 128 n))) (sym (eqb-true Y 128 q)) ∙ ap (within (minus 127 to pos 127)) e ∙ h in
    holds k)

-- and every other number is a movement within them
narrow : (X : ℕ) → is_least X ≡ false → within (minus 127 to pos 127) (untwos 128 X) ≡ true
unfolding untwos
narrow X n = go (ltb X 128) refl
  where
    go : (t : Bool) → ltb X 128 ≡ t → within (minus 127 to pos 127) (untwos 128 X) ≡ true
    go true e = rw e (le-leb X 127 (omega (arith, ltb-true X 128 e)))
    go false e = let d = eqb-false X 128 n in rw e (both (leb (256 - suc X) 126) true (le-leb (256 - suc X) 126 (omega (arith, ltb-false X 128 e))) refl)

narrow_south : (Y : ℕ) → is_least Y ≡ false → within (minus 127 to pos 127) (neg_ℤ (untwos 128 Y)) ≡ true
narrow_south Y n = magnitude_within 126 (neg_ℤ (untwos 128 Y)) (rw (neg_magnitude (untwos 128 Y)) (magnitude 126 (untwos 128 Y) (narrow Y n)))

-- the digits 0 and 8 of W are 128
not_digits : (t : Bool) (low high : ℕ) (z : ℤ) → untwos 128 (pair low high) ≡ z → within (minus 127 to pos 127) z ≡ true → t && eqb low 0x30 && eqb high 0x38 ≡ false
unfolding undigit bits number bit
not_digits t low high z e h =
    refused (t && eqb low 0x30 && eqb high 0x38)
    (λ q.
    let l = eqb-true low 0x30 (right t (eqb low 0x30) (left (t && eqb low 0x30) (eqb high 0x38) q)) in
    let k = eqb-true high 0x38 (right (t && eqb low 0x30) (eqb high 0x38) q) in
    let n : is_least (pair low high) ≡ true = rw (l, k) in
    holds (sym (not_least (pair low high) z e h) ∙ n))

-- a test that does not hold where a byte is 0
zero_not : (b : ℕ) (t : Bool) → (b ≡ 0 → t ≡ false) → eqb b 0 && t ≡ false
zero_not b t h = refused (eqb b 0 && t) (λ q. holds (sym (h (eqb-true b 0 (left (eqb b 0) t q))) ∙ right (eqb b 0) t q))

plus_zero : (z : ℤ) → nat_abs z ≡ 0 → non_neg z ≡ true
plus_zero (pos n) e = refl
plus_zero (negsuc n) e = absurd (omega arith)

-- the bytes of what a box can latch stand: S
stands_s : (r : Report) → Latchable Mm r → Fits (strict Mm) [] (bytes_of Mm r)
unfolding bytes_s barred minus_zero
stands_s r l =
    let fit = bytes_fit Mm r (latchable_accepted Mm r l) in
    let a = at 0 (bytes_s r) in
    let b = at 1 (bytes_s r) in
    let c = at 2 (bytes_s r) in (
      standing Mm 0 0 0 a (fit 0 (omega arith)) (and-false (eqb a 0)),
      (
        standing Mm 1 a a b (fit 1 (omega arith)) (zero_not b _ (λ e. rw (sign_x ∙ plus_zero r.x1 e))),
        (standing Mm 2 a b c (fit 2 (omega arith)) (zero_not c _ (λ e. rw (sign_y ∙ plus_zero r.y1 e))), tt),
      ),
    )
  where
    sign_x : bit 4 (at 0 (bytes_s r)) ≡ non_neg r.x1
    sign_x = bit_in (I ∷ O ∷ O ∷ []) (non_neg r.x1) (non_neg r.y1 ∷ L r ∷ M r ∷ R r ∷ [])

    sign_y : bit 3 (at 0 (bytes_s r)) ≡ non_neg r.y1
    sign_y = bit_in (I ∷ O ∷ O ∷ non_neg r.x1 ∷ []) (non_neg r.y1) (L r ∷ M r ∷ R r ∷ [])

-- V
stands_v : (r : Report) → Latchable Microsoft r → Fits (strict Microsoft) [] (bytes_of Microsoft r)
unfolding bytes_v rows_v barred least_v read_v limits
stands_v r l =
    let q = latchable_accepted Microsoft r l in
    let fit = bytes_fit Microsoft r q in
    let back = there Microsoft r q in
    let a = at 0 (bytes_v r) in
    let b = at 1 (bytes_v r) in
    let c = at 2 (bytes_v r) in (
      standing Microsoft 0 0 0 a (fit 0 (omega arith)) refl,
      (
        standing Microsoft 1 a a b (fit 1 (omega arith)) (rw (not_least (number (bits 2 0 a ++ bits 6 0 b)) r.x1 (ap (λ (p : Report). p.x1) back) l.x1)),
        (standing Microsoft 2 a b c (fit 2 (omega arith)) (rw (not_south (number (bits 2 2 a ++ bits 6 0 c)) r.y1 (ap (λ (p : Report). p.y1) back) l.y1)), tt),
      ),
    )

-- A and B: nothing is barred
stands_a : (r : Report) → Latchable Absolute r → Fits (strict Absolute) [] (bytes_of Absolute r)
unfolding bytes_a rows_a barred
stands_a r l =
    let fit = bytes_fit Absolute r (latchable_accepted Absolute r l) in
    let at_place : (i first last : ℕ) → i < 5 → stands Absolute i first last (get_or (bytes_a r) i 0) ≡ true = λ i first last h. standing Absolute i first last (get_or (bytes_a r) i 0) (fit i h) refl in
    (at_place 0 _ _ (omega arith), (at_place 1 _ _ (omega arith), (at_place 2 _ _ (omega arith), (at_place 3 _ _ (omega arith), (at_place 4 _ _ (omega arith), tt)))))

stands_b : (r : Report) → Latchable Relative r → Fits (strict Relative) [] (bytes_of Relative r)
unfolding bytes_b rows_a barred
stands_b r l =
    let fit = bytes_fit Relative r (latchable_accepted Relative r l) in
    let at_place : (i first last : ℕ) → i < 5 → stands Relative i first last (get_or (bytes_b r) i 0) ≡ true = λ i first last h. standing Relative i first last (get_or (bytes_b r) i 0) (fit i h) refl in
    (at_place 0 _ _ (omega arith), (at_place 1 _ _ (omega arith), (at_place 2 _ _ (omega arith), (at_place 3 _ _ (omega arith), (at_place 4 _ _ (omega arith), tt)))))

-- U and T: each byte behind the first is a movement
stands_u : (r : Report) → Latchable FiveByte r → Fits (strict FiveByte) [] (bytes_of FiveByte r)
unfolding bytes_u barred least read_u limits
stands_u r l =
    let q = latchable_accepted FiveByte r l in
    let fit = bytes_fit FiveByte r q in
    let back = there FiveByte r q in
    let put : (i first last : ℕ) → i < 5 → is_least (get_or (bytes_u r) i 0) ≡ false → stands FiveByte i first last (get_or (bytes_u r) i 0) ≡ true =
    λ i first last h n. standing FiveByte i first last (get_or (bytes_u r) i 0) (fit i h) (rw n (and-false (not (eqb i 0)))) in (
      standing FiveByte 0 0 0 (at 0 (bytes_u r)) (fit 0 (omega arith)) refl,
      (
        put 1 _ _ (omega arith) (not_least (at 1 (bytes_u r)) r.x1 (ap (λ (p : Report). p.x1) back) l.x1),
        (
          put 2 _ _ (omega arith) (not_least (at 2 (bytes_u r)) r.y1 (ap (λ (p : Report). p.y1) back) l.y1),
          (
            put 3 _ _ (omega arith) (not_least (at 3 (bytes_u r)) r.x2 (ap (λ (p : Report). p.x2) back) l.x2),
            (put 4 _ _ (omega arith) (not_least (at 4 (bytes_u r)) r.y2 (ap (λ (p : Report). p.y2) back) l.y2), tt),
          ),
        ),
      ),
    )

stands_t : (r : Report) → Latchable ThreeByte r → Fits (strict ThreeByte) [] (bytes_of ThreeByte r)
unfolding bytes_t barred least read_t limits
stands_t r l =
    let q = latchable_accepted ThreeByte r l in
    let fit = bytes_fit ThreeByte r q in
    let back = there ThreeByte r q in
    let put : (i first last : ℕ) → i < 3 → is_least (get_or (bytes_t r) i 0) ≡ false → stands ThreeByte i first last (get_or (bytes_t r) i 0) ≡ true =
    λ i first last h n. standing ThreeByte i first last (get_or (bytes_t r) i 0) (fit i h) (rw n (and-false (not (eqb i 0)))) in (
      standing ThreeByte 0 0 0 (at 0 (bytes_t r)) (fit 0 (omega arith)) refl,
      (
        put 1 _ _ (omega arith) (not_least (at 1 (bytes_t r)) r.x1 (ap (λ (p : Report). p.x1) back) l.x1),
        (put 2 _ _ (omega arith) (not_least (at 2 (bytes_t r)) r.y1 (ap (λ (p : Report). p.y1) back) l.y1), tt),
      ),
    )

-- W: low digits, and high digits behind them
stands_w : (r : Report) → Latchable Hexadecimal r → Fits (strict Hexadecimal) [] (bytes_of Hexadecimal r)
unfolding bytes_w rows_w barred least_w read_w limits
stands_w r l =
    let q = latchable_accepted Hexadecimal r l in
    let fit = bytes_fit Hexadecimal r q in
    let back = there Hexadecimal r q in
    let a = at 0 (bytes_w r) in
    let b = at 1 (bytes_w r) in
    let c = at 2 (bytes_w r) in
    let d = at 3 (bytes_w r) in
    let e = at 4 (bytes_w r) in (
      standing Hexadecimal 0 0 0 a (fit 0 (omega arith)) refl,
      (
        standing Hexadecimal 1 a a b (fit 1 (omega arith)) refl,
        (
          standing Hexadecimal 2 a b c (fit 2 (omega arith)) (not_digits true b c r.x1 (ap (λ (p : Report). p.x1) back) l.x1),
          (
            standing Hexadecimal 3 a c d (fit 3 (omega arith)) refl,
            (standing Hexadecimal 4 a d e (fit 4 (omega arith)) (not_digits true d e r.y1 (ap (λ (p : Report). p.y1) back) l.y1), tt),
          ),
        ),
      ),
    )

pub sent_stands : (f : Format) (r : Report) → Latchable f r → Fits (strict f) [] (bytes_of f r)
sent_stands Mm r l = stands_s r l
sent_stands Microsoft r l = stands_v r l
sent_stands Absolute r l = stands_a r l
sent_stands Relative r l = stands_b r l
sent_stands FiveByte r l = stands_u r l
sent_stands ThreeByte r l = stands_t r l
sent_stands Hexadecimal r l = stands_w r l

-- the other way round: bytes that stand are valid
places : (f : Format) (k bs : List ℕ) → Fits (strict f) k bs → (i : ℕ) → i < length bs → fits_at f (length k + i) (get_or bs i 0) ≡ true
places f k [] h i l = absurd (omega arith)
places f k (b ∷ bs) h zero l = let e : length k + 0 ≡ length k = omega arith in rw e (fitting f (length k) _ _ b h.0)
places f k (b ∷ bs) h (suc i) l =
    let e : length (k ++ (b ∷ [])) + i ≡ length k + suc i = omega (arith, length-append k (b ∷ [])) in
    rw e at (places f (k ++ (b ∷ [])) bs h.1 i (omega arith))

stood_valid : (f : Format) (bs : List ℕ) → Fits (strict f) [] bs → length bs ≡ size_of f → valid f bs ≡ true
stood_valid f bs h e = fits_valid f bs e (omega (arith, (size_between f).0)) (λ i l. let z : 0 + i ≡ i = omega arith in rw z at (places f [] bs h i l))

-- lists of three, and of five
of_three : (P : List ℕ → Type 0) → ((a b c : ℕ) → P (a ∷ b ∷ c ∷ [])) → (bs : List ℕ) → length bs ≡ 3 → P bs
of_three P p [] e = absurd (omega arith)
of_three P p (a ∷ []) e = absurd (omega arith)
of_three P p (a ∷ b ∷ []) e = absurd (omega arith)
of_three P p (a ∷ b ∷ c ∷ []) e = p a b c
of_three P p (a ∷ b ∷ c ∷ d ∷ bs) e = absurd (omega arith)

of_five : (P : List ℕ → Type 0) → ((a b c d e : ℕ) → P (a ∷ b ∷ c ∷ d ∷ e ∷ [])) → (bs : List ℕ) → length bs ≡ 5 → P bs
of_five P p [] q = absurd (omega arith)
of_five P p (a ∷ bs) q = go bs (omega arith)
  where
    go : (bs : List ℕ) → length bs ≡ 4 → P (a ∷ bs)
    go [] q = absurd (omega arith)
    go (b ∷ bs) q = of_three (λ l. P (a ∷ b ∷ l)) (λ c d e. p a b c d e) bs (omega arith)

-- what holds of a movement of each eight-bit format
abbrev Read : Format → List ℕ → Type 0
Read f bs = Fits (strict f) [] bs → accepted f (report_of f bs) ≡ true → Latchable f (report_of f bs)

-- where the limits are those of the wire, in A, B and S, what is read can be latched as it is
read_held : (f : Format) → limits (letter_of f) ≡ x_range f → limits (letter_of f) ≡ y_range f → second_limits f ≡ second_range f → (bs : List ℕ) → Read f bs
read_held f ex ey es bs h a =
    let p = parts f (report_of f bs) a in
    record { buttons = omega (arith, p.pressed); x1 = rw ex p.moved.x; y1 = rw ey p.moved.y; x2 = rw es p.moved.second_x; y2 = rw es p.moved.second_y }

read_v_lem : (a b c : ℕ) → Read Microsoft (a ∷ b ∷ c ∷ [])
unfolding limits read_v barred least_v
read_v_lem a b c h q =
    let p = parts Microsoft (report_of Microsoft (a ∷ b ∷ c ∷ [])) q in
    let X = number (bits 2 0 a ++ bits 6 0 b) in
    let Y = number (bits 2 2 a ++ bits 6 0 c) in
    record {
      buttons = omega (arith, p.pressed);
      x1 = narrow X (neither (is_least X) false (unbarred Microsoft 1 a a b h.1.0)).0;
      y1 = narrow_south Y (unbarred Microsoft 2 a b c h.1.1.0);
      x2 = refl;
      y2 = refl;
    }

read_u_lem : (a b c d e : ℕ) → Read FiveByte (a ∷ b ∷ c ∷ d ∷ e ∷ [])
unfolding limits read_u barred least
read_u_lem a b c d e h q =
    let p = parts FiveByte (report_of FiveByte (a ∷ b ∷ c ∷ d ∷ e ∷ [])) q in
    record {
      buttons = omega (arith, p.pressed);
      x1 = narrow b (unbarred FiveByte 1 a a b h.1.0);
      y1 = narrow c (unbarred FiveByte 2 a b c h.1.1.0);
      x2 = narrow d (unbarred FiveByte 3 a c d h.1.1.1.0);
      y2 = narrow e (unbarred FiveByte 4 a d e h.1.1.1.1.0);
    }

read_t_lem : (a b c : ℕ) → Read ThreeByte (a ∷ b ∷ c ∷ [])
unfolding limits read_t barred least
read_t_lem a b c h q =
    let p = parts ThreeByte (report_of ThreeByte (a ∷ b ∷ c ∷ [])) q in
    record {
      buttons = omega (arith, p.pressed);
      x1 = narrow b (unbarred ThreeByte 1 a a b h.1.0);
      y1 = narrow c (unbarred ThreeByte 2 a b c h.1.1.0);
      x2 = refl;
      y2 = refl;
    }

-- W: of digits none but 0 and 8 are 128
digit_zero : (b : ℕ) → b < 256 → fits_later Hexadecimal b ≡ true → eqb (undigit b) 0 ≡ eqb b 0x30
unfolding fits_later undigit
digit_zero b l h = agree_if (fits_later Hexadecimal) (λ n. eqb (undigit n) 0) (λ n. eqb n 0x30) 256 tt b l h

digit_eight : (b : ℕ) → b < 256 → fits_later Hexadecimal b ≡ true → eqb (undigit b) 8 ≡ eqb b 0x38
unfolding fits_later undigit
digit_eight b l h = agree_if (fits_later Hexadecimal) (λ n. eqb (undigit n) 8) (λ n. eqb n 0x38) 256 tt b l h

not_pair : (low high : ℕ) → fits_later Hexadecimal low ≡ true → fits_later Hexadecimal high ≡ true → eqb low 0x30 && eqb high 0x38 ≡ false → is_least (pair low high) ≡ false
not_pair low high h k n =
    refused (is_least (pair low high))
    (λ q.
    let hl = later_byte Hexadecimal low h in
    let kl = later_byte Hexadecimal high k in
    let e = pair_of low high (undigit_below low hl) (undigit_below high kl) in
    let p = eqb-true (pair low high) 128 q in
    let z = undigit_below low hl in
    let a : eqb low 0x30 ≡ true = sym (digit_zero low hl h) ∙ eq-eqb (undigit low) 0 (omega arith) in
    let b : eqb high 0x38 ≡ true = sym (digit_eight high kl k) ∙ eq-eqb (undigit high) 8 (omega arith) in
    holds (sym n ∙ both (eqb low 0x30) (eqb high 0x38) a b))

read_w_lem : (a b c d e : ℕ) → Read Hexadecimal (a ∷ b ∷ c ∷ d ∷ e ∷ [])
unfolding limits read_w barred least_w fits_at
read_w_lem a b c d e h q =
    let p = parts Hexadecimal (report_of Hexadecimal (a ∷ b ∷ c ∷ d ∷ e ∷ [])) q in
    record {
      buttons = omega (arith, p.pressed);
      x1 = narrow (pair b c) (not_pair b c (fitting Hexadecimal 1 a a b h.1.0) (fitting Hexadecimal 2 a b c h.1.1.0) (unbarred Hexadecimal 2 a b c h.1.1.0));
      y1 = narrow (pair d e) (not_pair d e (fitting Hexadecimal 3 a c d h.1.1.1.0) (fitting Hexadecimal 4 a d e h.1.1.1.1.0) (unbarred Hexadecimal 4 a d e h.1.1.1.1.0));
      x2 = refl;
      y2 = refl;
    }

read_latchable : (f : Format) (bs : List ℕ) → length bs ≡ size_of f → Read f bs
unfolding limits
read_latchable Mm bs e = read_held Mm refl refl refl bs
read_latchable Microsoft bs e = of_three (Read Microsoft) read_v_lem bs e
read_latchable Absolute bs e = read_held Absolute refl refl refl bs
read_latchable Relative bs e = read_held Relative refl refl refl bs
read_latchable FiveByte bs e = of_five (Read FiveByte) read_u_lem bs e
read_latchable ThreeByte bs e = of_three (Read ThreeByte) read_t_lem bs e
read_latchable Hexadecimal bs e = of_five (Read Hexadecimal) read_w_lem bs e

-- no minus zero of S is among them
zero_signed : (b : ℕ) (s : Bool) → eqb b 0 && not s ≡ false → b ≡ 0 → s ≡ true
zero_signed b true h e = refl
zero_signed b false h e = absurd (holds (sym h ∙ both (eqb b 0) true (eq-eqb b 0 e) refl))

or_none : (t : Bool) → t || false ≡ t
or_none true = refl
or_none false = refl

signed_s : (a b c : ℕ) → Fits (strict Mm) [] (a ∷ b ∷ c ∷ []) → valid Mm (a ∷ b ∷ c ∷ []) ≡ true → settled Mm (a ∷ b ∷ c ∷ []) ≡ a ∷ b ∷ c ∷ []
unfolding barred minus_zero
signed_s a b c h v =
    settled_same (a ∷ b ∷ c ∷ []) v (zero_signed b (bit 4 a) (rw or_none at (unbarred Mm 1 a a b h.1.0))) (zero_signed c (bit 3 a) (unbarred Mm 2 a b c h.1.1.0))

settles : (f : Format) (bs : List ℕ) → length bs ≡ size_of f → Fits (strict f) [] bs → valid f bs ≡ true → settled f bs ≡ bs
settles Mm bs e h v = of_three (λ l. Fits (strict Mm) [] l → valid Mm l ≡ true → settled Mm l ≡ l) signed_s bs e h v
settles Microsoft bs e h v = refl
settles Absolute bs e h v = refl
settles Relative bs e h v = refl
settles FiveByte bs e h v = refl
settles ThreeByte bs e h v = refl
settles Hexadecimal bs e h v = refl

-- bytes that stand are those of a report that a box can latch
pub stood_sent : (f : Format) (bs : List ℕ) → Fits (strict f) [] bs → length bs ≡ size_of f → Latchable f (report_of f bs) × (bytes_of f (report_of f bs) ≡ bs)
stood_sent f bs h e =
    let v = stood_valid f bs h e in
    (read_latchable f bs e h (read_accepted f bs v), back f bs v ∙ settles f bs e h v)
