-- Reports and bytes: each the other's, in every format.
pub mod Ranges
pub mod Accepted
pub mod Cells
pub mod Shapes
pub mod FormatS
pub mod FormatV
pub mod FormatAB
pub mod FormatU
pub mod FormatT
pub mod FormatW
pub mod Fitting
use Prim.Native.Nat.{ℕ, ◌<◌, ◌≤◌}
use mathlib.Core.Path.{◌≡◌, refl, sym}
use mathlib.Core.Bool.{Bool, true, false, not, cond, ◌||◌}
use mathlib.Core.List.{List}
use native.Mathlib.Omega.{arith}
use lib.ListN.{length, get_or, get_or-eq_default}
use lib.Dec.{T, ltb, eqb}
use lib.Count.{ones, ones_in}
use lib.IntN.{ℤ, pos}
use borrow.Author.Tests.{ltb-true, ltb-false}
use Rattle.numbers.specs.Tests.{each}
use Rattle.numbers.specs.Bits.{bit}
use Rattle.numbers.proofs.Tested.{same, agree_if, refused, holds as so}
use Rattle.wire.specs.Line.{size_of, marked_of}
use Rattle.wire.specs.Table.{bytes_of, bytes_s, bytes_v, bytes_a, bytes_b, bytes_u, bytes_t, bytes_w, rows_v, rows_a, rows_w}
use Rattle.wire.specs.Holds.{within, second_range, holds, accepted, carried}
use Rattle.wire.specs.Places.{like, fits_at, fits_first, fits_later, valid}
use Rattle.wire.specs.Reading.{at, report_of, settled}
use Rattle.wire.specs.declared.Report.{Report}
use Rattle.wire.specs.declared.Format.{Format}
use Rattle.wire.specs.declared.Format.TheVariants.{Mm, Microsoft, Absolute, Relative, FiveByte, ThreeByte, Hexadecimal}
use Accepted.{Held, held, Parts, parts, parts_accepted, OnePair, second_zero}
use Shapes.{ComesBack, ReadParts, valid_fits, of_three, of_five}
use Fitting.{first_byte, later_byte}
use FormatS.{valid_s, there_s, read_s_lem, back_s, settled_s}
use FormatV.{valid_v, there_v, carried_v, read_v_lem, back_v}
use FormatAB.{valid_a, valid_b, there_a, there_b, read_a_lem, read_b_lem, back_a, back_b}
use FormatU.{valid_u, there_u, read_u_lem, back_u}
use FormatT.{valid_t, there_t, read_t_lem, back_t}
use FormatW.{valid_w, there_w, read_w_lem, back_w}

-- the bytes of a report are as many as the size
pub bytes_length : (f : Format) (r : Report) → length (bytes_of f r) ≡ size_of f
unfolding bytes_s bytes_v bytes_a bytes_b bytes_u bytes_t bytes_w rows_v rows_a rows_w
bytes_length Mm r = refl
bytes_length Microsoft r = refl
bytes_length Absolute r = refl
bytes_length Relative r = refl
bytes_length FiveByte r = refl
bytes_length ThreeByte r = refl
bytes_length Hexadecimal r = refl

-- a byte that fits its place is a byte
either_byte : (f : Format) (b : ℕ) (first : Bool) → cond first (fits_first f b) (fits_later f b) ≡ true → b < 256
either_byte f b true l = first_byte f b l
either_byte f b false l = later_byte f b l

pub fits_byte : (f : Format) (place b : ℕ) → fits_at f place b ≡ true → b < 256
unfolding fits_at
fits_byte f place b l = either_byte f b (eqb place 0) l

-- the bytes of an accepted report are valid: as many as the size, each valid in its place
pub bytes_valid : (f : Format) (r : Report) → accepted f r ≡ true → valid f (bytes_of f r) ≡ true
bytes_valid Mm r a = valid_s r (parts Mm r a)
bytes_valid Microsoft r a = valid_v r
bytes_valid Absolute r a = valid_a r
bytes_valid Relative r a = valid_b r
bytes_valid FiveByte r a = valid_u r (parts FiveByte r a)
bytes_valid ThreeByte r a = valid_t r (parts ThreeByte r a)
bytes_valid Hexadecimal r a = valid_w r (parts Hexadecimal r a)

-- each fits its place
pub bytes_fit : (f : Format) (r : Report) → accepted f r ≡ true → (i : ℕ) → i < size_of f → fits_at f i (get_or (bytes_of f r) i 0) ≡ true
bytes_fit f r a = valid_fits f (bytes_of f r) (bytes_valid f r a)

-- and is a byte, as are the zeros behind them
pub bytes_below : (f : Format) (r : Report) → accepted f r ≡ true → (i : ℕ) → get_or (bytes_of f r) i 0 < 256
bytes_below f r a i = at_place (ltb i (size_of f)) refl
  where
    at_place : (t : Bool) → ltb i (size_of f) ≡ t → get_or (bytes_of f r) i 0 < 256
    at_place true e = fits_byte f i (get_or (bytes_of f r) i 0) (bytes_fit f r a i (ltb-true i (size_of f) e))
    at_place false e =
        let h : length (bytes_of f r) ≤ i = omega (arith, ltb-false i (size_of f) e, bytes_length f r) in
        rw (get_or-eq_default (bytes_of f r) 0 h) (omega arith)

-- read back they are the report as carried
pub there : (f : Format) (r : Report) → accepted f r ≡ true → report_of f (bytes_of f r) ≡ carried f r
there Mm r a = there_s r (parts Mm r a)
there Microsoft r a = there_v r (parts Microsoft r a)
there Absolute r a = there_a r (parts Absolute r a)
there Relative r a = there_b r (parts Relative r a)
there FiveByte r a = there_u r (parts FiveByte r a)
there ThreeByte r a = there_t r (parts ThreeByte r a)
there Hexadecimal r a = there_w r (parts Hexadecimal r a)

-- what a format carries of an accepted report is accepted
pub carried_accepted : (f : Format) (r : Report) → accepted f r ≡ true → accepted f (carried f r) ≡ true
carried_accepted Mm r a = a
carried_accepted Microsoft r a = parts_accepted Microsoft (carried Microsoft r) (carried_v r (parts Microsoft r a))
carried_accepted Absolute r a = a
carried_accepted Relative r a = a
carried_accepted FiveByte r a = a
carried_accepted ThreeByte r a = a
carried_accepted Hexadecimal r a = a

-- the report of valid bytes is accepted
read_parts : (f : Format) (bs : List ℕ) → valid f bs ≡ true → Parts f (report_of f bs)
read_parts Mm = of_three Mm (ReadParts Mm) refl read_s_lem
read_parts Microsoft = of_three Microsoft (ReadParts Microsoft) refl read_v_lem
read_parts Absolute = of_five Absolute (ReadParts Absolute) refl read_a_lem
read_parts Relative = of_five Relative (ReadParts Relative) refl read_b_lem
read_parts FiveByte = of_five FiveByte (ReadParts FiveByte) refl read_u_lem
read_parts ThreeByte = of_three ThreeByte (ReadParts ThreeByte) refl read_t_lem
read_parts Hexadecimal = of_five Hexadecimal (ReadParts Hexadecimal) refl read_w_lem

pub read_accepted : (f : Format) (bs : List ℕ) → valid f bs ≡ true → accepted f (report_of f bs) ≡ true
read_accepted f bs v = parts_accepted f (report_of f bs) (read_parts f bs v)

-- and encoding it gives the same bytes, except a minus zero of S
pub back : (f : Format) (bs : List ℕ) → valid f bs ≡ true → bytes_of f (report_of f bs) ≡ settled f bs
back Mm = of_three Mm (ComesBack Mm) refl back_s
back Microsoft = of_three Microsoft (ComesBack Microsoft) refl back_v
back Absolute = of_five Absolute (ComesBack Absolute) refl back_a
back Relative = of_five Relative (ComesBack Relative) refl back_b
back FiveByte = of_five FiveByte (ComesBack FiveByte) refl back_u
back ThreeByte = of_three ThreeByte (ComesBack ThreeByte) refl back_t
back Hexadecimal = of_five Hexadecimal (ComesBack Hexadecimal) refl back_w

-- bytes of S whose zeros have the sign bit 1 are settled already
pub settled_same : (bs : List ℕ) → valid Mm bs ≡ true → (at 1 bs ≡ 0 → bit 4 (at 0 bs) ≡ true) → (at 2 bs ≡ 0 → bit 3 (at 0 bs) ≡ true) → settled Mm bs ≡ bs
settled_same =
    of_three Mm
    (λ bs. (at 1 bs ≡ 0 → bit 4 (at 0 bs) ≡ true) → (at 2 bs ≡ 0 → bit 3 (at 0 bs) ≡ true) → settled Mm bs ≡ bs)
    refl
    (λ b1 b2 b3 h1 h2 h3. settled_s b1 b2 b3 h1)

-- in the marked formats no first byte is a later byte
told_apart : (f : Format) → T (each (λ b. not (fits_first f b) || same (fits_later f b) false) 256) → (b : ℕ) → fits_first f b ≡ true → fits_later f b ≡ false
told_apart f t b l = agree_if (fits_first f) (fits_later f) (λ b. false) 256 t b (first_byte f b l) l

pub mark : (f : Format) (b : ℕ) → marked_of f ≡ true → fits_first f b ≡ true → fits_later f b ≡ false
unfolding fits_first fits_later like bit ones ones_in
mark Mm b m = told_apart Mm tt b
mark Microsoft b m = told_apart Microsoft tt b
mark Absolute b m = told_apart Absolute tt b
mark Relative b m = told_apart Relative tt b
mark FiveByte b m = absurd (so m)
mark ThreeByte b m = absurd (so m)
mark Hexadecimal b m = absurd (so m)

-- outside U there is one pair, and a second is not held
pub outside_u : (f : Format) → (f ≡ FiveByte → ⊥) → OnePair f
outside_u Mm u = refl
outside_u Microsoft u = refl
outside_u Absolute u = refl
outside_u Relative u = refl
outside_u FiveByte u = absurd (u refl)
outside_u ThreeByte u = refl
outside_u Hexadecimal u = refl

pub outside_zero : (f : Format) → (f ≡ FiveByte → ⊥) → (z : ℤ) → (z ≡ pos 0 → ⊥) → within (second_range f) z ≡ false
outside_zero f u z n = refused (within (second_range f) z) (λ h. n (sym (second_zero f (outside_u f u) z h)))

unheld : (f : Format) (r : Report) → (Held f r → ⊥) → holds f r ≡ false
unheld f r n = refused (holds f r) (λ h. n (held f r h))

pub second_unheld : (f : Format) (r : Report) → (f ≡ FiveByte → ⊥) → (r.x2 ≡ pos 0 → ⊥) → holds f r ≡ false
second_unheld f r u n = unheld f r (λ h. n (sym (second_zero f (outside_u f u) r.x2 h.second_x)))

pub second_unheld_y : (f : Format) (r : Report) → (f ≡ FiveByte → ⊥) → (r.y2 ≡ pos 0 → ⊥) → holds f r ≡ false
second_unheld_y f r u n = unheld f r (λ h. n (sym (second_zero f (outside_u f u) r.y2 h.second_y)))
