-- The first bytes of a report, made up to a whole one.
use Prim.Native.Nat.{ℕ, zero, suc, ◌-◌, ◌<◌, ◌≤◌}
use mathlib.Core.Path.{◌≡◌, refl, sym, ap, ◌∙◌}
use mathlib.Core.Bool.{true, false, not, ◌&&◌, ◌||◌, and-false}
use mathlib.Core.List.{List, [], ◌∷◌, ◌++◌, append_assoc, append-nil}
use native.Mathlib.Omega.{arith}
use lib.IntN.{pos}
use lib.Count.{ones, ones_in}
use lib.ListN.{length, take, replicate, length-append, length-replicate}
use lib.Seq.{take-append_seam}
use lib.Dec.{eqb}
use borrow.Author.Tests.{ne_eqb}
use Rattle.numbers.specs.Bits.{number, bit, bits}
use Rattle.numbers.specs.Signed.{untwos}
use Rattle.frames.specs.Frame.{Fits}
use Rattle.wire.specs.Line.{size_of}
use Rattle.wire.specs.Table.{bytes_of}
use Rattle.wire.specs.Places.{like, fits_later, fits_at}
use Rattle.wire.specs.Reading.{at, report_of, read_u, report}
use Rattle.wire.specs.declared.Report.{Report}
use Rattle.wire.specs.declared.Format.{Format}
use Rattle.wire.specs.declared.Format.TheVariants.{Mm, Microsoft, Absolute, Relative, FiveByte, ThreeByte, Hexadecimal}
use Rattle.wire.proofs.Codec.Ranges.{only_zero}
use Rattle.wire.proofs.Fields.{byte_x, byte_y}
use Rattle.ballbox.specs.Latching.{limits}
use Rattle.yard.specs.Stands.{minus_zero, is_least, least_v, least, least_w, barred, stands}
use Rattle.proper.proofs.Latchable.{Latchable, strict, last_of}
use Rattle.proper.proofs.Fields.{standing, stood_sent}

-- a byte that may stand in any later place, whatever came before: S and V have a 1, since 0 may be a minus zero or -128 there
abbrev filler : Format → ℕ
filler Mm = 1
filler Microsoft = 1
filler Absolute = 0
filler Relative = 0
filler FiveByte = 0
filler ThreeByte = 0
filler Hexadecimal = 0x30

filler_fits : (f : Format) → fits_later f (filler f) ≡ true
unfolding fits_later like bit ones ones_in
filler_fits Mm = refl
filler_fits Microsoft = refl
filler_fits Absolute = refl
filler_fits Relative = refl
filler_fits FiveByte = refl
filler_fits ThreeByte = refl
filler_fits Hexadecimal = refl

filler_free : (f : Format) (place first last : ℕ) → barred f place first last (filler f) ≡ false
unfolding barred minus_zero least_v least least_w
filler_free Mm place first last = refl
filler_free Microsoft place first last =
    let x : is_least (number (bits 2 0 first ++ bits 6 0 1)) ≡ false = ne_eqb (number (bits 2 0 first ++ bits 6 0 1)) 128 (λ e. omega (arith, byte_x first 1)) in
    let y : is_least (number (bits 2 2 first ++ bits 6 0 1)) ≡ false = ne_eqb (number (bits 2 2 first ++ bits 6 0 1)) 128 (λ e. omega (arith, byte_y first 1)) in
    rw (x, y, and-false (eqb place 1), and-false (eqb place 2))
filler_free Absolute place first last = refl
filler_free Relative place first last = refl
filler_free FiveByte place first last = and-false (not (eqb place 0))
filler_free ThreeByte place first last = and-false (not (eqb place 0))
filler_free Hexadecimal place first last = and-false ((eqb place 2 || eqb place 4) && eqb last 0x30)

filler_stands : (f : Format) (place first last : ℕ) → 1 ≤ place → stands f place first last (filler f) ≡ true
unfolding fits_at
filler_stands f place first last h = standing f place first last (filler f) (rw (ne_eqb place 0 (λ e. omega arith)) (filler_fits f)) (filler_free f place first last)

-- bytes that stand, and fillers behind them
fillers : (f : Format) (k : List ℕ) (m : ℕ) → 1 ≤ length k → Fits (strict f) k (replicate m (filler f))
fillers f k zero h = tt
fillers f k (suc m) h = (filler_stands f (length k) (at 0 k) (last_of k) h, fillers f (k ++ (filler f ∷ [])) m (omega (arith, length-append k (filler f ∷ []))))

fits_behind : (f : Format) (k bs cs : List ℕ) → Fits (strict f) k bs → Fits (strict f) (k ++ bs) cs → Fits (strict f) k (bs ++ cs)
fits_behind f k [] cs h g = rw append-nil at g
fits_behind f k (b ∷ bs) cs h g = (h.0, fits_behind f (k ++ (b ∷ [])) bs cs h.1 (rw append_assoc g))

abbrev filled : Format → List ℕ → List ℕ
filled f bs = bs ++ replicate (size_of f - length bs) (filler f)

module _ (f : Format) (b : ℕ) (bs : List ℕ) (h : Fits (strict f) [] (b ∷ bs)) (l : suc (length bs) < size_of f) where
  filled_fits : Fits (strict f) [] (filled f (b ∷ bs))
  filled_fits = fits_behind f [] (b ∷ bs) (replicate (size_of f - suc (length bs)) (filler f)) h (fillers f (b ∷ bs) (size_of f - suc (length bs)) (omega arith))

  filled_length : length (filled f (b ∷ bs)) ≡ size_of f
  filled_length = omega (arith, length-append (b ∷ bs) (replicate (size_of f - suc (length bs)) (filler f)), length-replicate (size_of f - suc (length bs)) (filler f))

-- the second pair is 0 while its bytes have not come
none_yet : (f : Format) (bs : List ℕ) → length bs ≤ 3 → 1 ≤ length bs → Latchable f (report_of f (filled f bs)) → ((report_of f (filled f bs)).x2 ≡ pos 0) × ((report_of f (filled f bs)).y2 ≡ pos 0)
unfolding read_u untwos
none_yet Mm bs h k l = (sym (only_zero _ l.x2), sym (only_zero _ l.y2))
none_yet Microsoft bs h k l = (sym (only_zero _ l.x2), sym (only_zero _ l.y2))
none_yet Absolute bs h k l = (sym (only_zero _ l.x2), sym (only_zero _ l.y2))
none_yet Relative bs h k l = (sym (only_zero _ l.x2), sym (only_zero _ l.y2))
none_yet FiveByte [] h k l = absurd (omega arith)
none_yet FiveByte (b ∷ []) h k l = (refl, refl)
none_yet FiveByte (b ∷ c ∷ []) h k l = (refl, refl)
none_yet FiveByte (b ∷ c ∷ d ∷ []) h k l = (refl, refl)
none_yet FiveByte (b ∷ c ∷ d ∷ e ∷ bs) h k l = absurd (omega arith)
none_yet ThreeByte bs h k l = (sym (only_zero _ l.x2), sym (only_zero _ l.y2))
none_yet Hexadecimal bs h k l = (sym (only_zero _ l.x2), sym (only_zero _ l.y2))

-- a report at rest, of which no byte has gone
resting : Report
resting = report 0 (pos 0) (pos 0)

rests : (f : Format) → Latchable f resting
unfolding limits resting
rests Mm = record { buttons = omega arith; x1 = refl; y1 = refl; x2 = refl; y2 = refl }
rests Microsoft = record { buttons = omega arith; x1 = refl; y1 = refl; x2 = refl; y2 = refl }
rests Absolute = record { buttons = omega arith; x1 = refl; y1 = refl; x2 = refl; y2 = refl }
rests Relative = record { buttons = omega arith; x1 = refl; y1 = refl; x2 = refl; y2 = refl }
rests FiveByte = record { buttons = omega arith; x1 = refl; y1 = refl; x2 = refl; y2 = refl }
rests ThreeByte = record { buttons = omega arith; x1 = refl; y1 = refl; x2 = refl; y2 = refl }
rests Hexadecimal = record { buttons = omega arith; x1 = refl; y1 = refl; x2 = refl; y2 = refl }

-- a report of which n bytes have gone, none included; U's second pair is 0 until byte 4 has gone
pub record Begun (f : Format) (n : ℕ) (r : Report) : Type 0 where
  pub latchable : Latchable f r
  pub left : n < size_of f
  pub second : n ≤ 3 → (r.x2 ≡ pos 0) × (r.y2 ≡ pos 0)

-- bytes that stand, fewer than a report has, are the first of such a report
pub stood_begun : (f : Format) (bs : List ℕ) → Fits (strict f) [] bs → length bs < size_of f → (r : Report) × Begun f (length bs) r × (take (length bs) (bytes_of f r) ≡ bs)
unfolding resting
stood_begun f [] h l = (resting, record { latchable = rests f; left = l; second = λ _. zeros }, refl)
  where
    zeros : (resting.x2 ≡ pos 0) × (resting.y2 ≡ pos 0)
    zeros = (refl, refl)
stood_begun f (b ∷ bs) h l =
    let s = stood_sent f (filled f (b ∷ bs)) (filled_fits f b bs h l) (filled_length f b bs h l) in (
      report_of f (filled f (b ∷ bs)),
      record { latchable = s.0; left = l; second = λ k. none_yet f (b ∷ bs) k (omega arith) s.0 },
      ap (λ (x : List ℕ). take (suc (length bs)) x) s.1 ∙ take-append_seam (b ∷ bs) (replicate (size_of f - suc (length bs)) (filler f)),
    )
