-- What is latched is held to the format's limits, so the encoder accepts it.
use Prim.Native.Nat.{ℕ, ◌<◌, ◌≤◌}
use mathlib.Core.Path.{◌≡◌, refl, ap, ◌∙◌}
use mathlib.Core.Bool.{Bool, true, false, cond}
use native.Mathlib.Omega.{arith}
use lib.Dec.{eqb}
use lib.IntN.{ℤ}
use lib.ListN.{length, drop}
use lib.Signed.{le_z}
use mathlib.Core.List.{List, [], ◌++◌}
use Rattle.wire.proofs.Accepts.{accepts}
use Rattle.wire.proofs.Letters.{letter_named}
use Rattle.numbers.proofs.Held.{held_inside}
use Rattle.wire.specs.Line.{letter_of, named_by, size_by, size_of}
use Rattle.wire.specs.Table.{five, bytes_of, bytes_s, bytes_v, bytes_a, bytes_b, bytes_u, bytes_t, bytes_w, rows_v, rows_a, rows_w, bytes_by}
use Rattle.wire.specs.Holds.{within, x_range, y_range, second_range, accepted, accepted_by}
use Rattle.wire.specs.Encoder.{encode_in, encode_of, Encoding}
use Rattle.std.proofs.Common.{Some}
use Rattle.wire.proofs.Front.{size_small}
use Rattle.wire.specs.Reading.{report}
use Rattle.wire.specs.declared.Range.{Range}
use Rattle.wire.specs.declared.Report.{Report}
use Rattle.wire.specs.declared.Format.{Format}
use Rattle.wire.specs.declared.Format.TheVariants.{Mm, Microsoft, Absolute, Relative, FiveByte, ThreeByte, Hexadecimal}
use Rattle.wire.proofs.Codec.{bytes_length}
use Rattle.wire.proofs.Codec.Ranges.{wider}
use Rattle.wire.proofs.Codec.Accepted.{parts_accepted, one_pair}
use Rattle.ballbox.specs.Presses.{to_show}
use Rattle.ballbox.specs.Motion.{is_a}
use Rattle.ballbox.specs.Latching.{limits, limited, taken, movement, latched_report, second_only}
use Rattle.ballbox.specs.declared.Track.{Track}
use Rattle.ballbox.specs.declared.BallBox.{BallBox}
use Rattle.ballbox.proofs.Letters.{Lettered, named, unnamed, lettered}

-- what is limited lies within the limits
ordered : (a b : Bool) (r s t : Range) → le_z r.low r.high ≡ true → le_z s.low s.high ≡ true → le_z t.low t.high ≡ true → le_z (cond a r (cond b s t)).low (cond a r (cond b s t)).high ≡ true
ordered true b r s t h k l = h
ordered false true r s t h k l = k
ordered false false r s t h k l = l

pub limited_within : (letter : ℕ) (v : ℤ) → within (limits letter) (limited letter v) ≡ true
unfolding limited limits
limited_within letter v =
    held_inside (limits letter).low (limits letter).high v
    (ordered (is_a letter) (eqb letter (letter_of Relative)) _ _ _ refl refl refl)

-- a report with movements within the limits is accepted
pair_accepted : (f : Format) (buttons : ℕ) (x y : ℤ) → buttons < 8 → within (limits (letter_of f)) x ≡ true → within (limits (letter_of f)) y ≡ true → accepted f (report buttons x y) ≡ true
unfolding limits
pair_accepted Mm n x y p h k = parts_accepted Mm (report n x y) (one_pair Mm refl p h k)
pair_accepted Microsoft n x y p h k = parts_accepted Microsoft (report n x y) (one_pair Microsoft refl p (wider (limits 0x56) (x_range Microsoft) x refl refl h) (wider (limits 0x56) (y_range Microsoft) y refl refl k))
pair_accepted Absolute n x y p h k = parts_accepted Absolute (report n x y) (one_pair Absolute refl p h k)
pair_accepted Relative n x y p h k = parts_accepted Relative (report n x y) (one_pair Relative refl p h k)
pair_accepted FiveByte n x y p h k = parts_accepted FiveByte (report n x y) (record { pressed = p; moved = record { x = wider (limits 0x55) (x_range FiveByte) x refl refl h; y = wider (limits 0x55) (y_range FiveByte) y refl refl k; second_x = refl; second_y = refl } })
pair_accepted ThreeByte n x y p h k = parts_accepted ThreeByte (report n x y) (one_pair ThreeByte refl p (wider (limits 0x54) (x_range ThreeByte) x refl refl h) (wider (limits 0x54) (y_range ThreeByte) y refl refl k))
pair_accepted Hexadecimal n x y p h k = parts_accepted Hexadecimal (report n x y) (one_pair Hexadecimal refl p (wider (limits 0x57) (x_range Hexadecimal) x refl refl h) (wider (limits 0x57) (y_range Hexadecimal) y refl refl k))

by_letter : (letter n : ℕ) (x y : ℤ) → n < 8 → within (limits letter) x ≡ true → within (limits letter) y ≡ true → Lettered letter → accepted_by letter (report n x y) ≡ true
unfolding accepted_by
by_letter letter n x y p h k (named f e) = rw (e, letter_named f) (pair_accepted f n x y p (rw e at h) (rw e at k))
by_letter letter n x y p h k (unnamed e none) = rw e

-- what is latched is accepted, whatever the letter
pub latched_accepted : (b : BallBox) → to_show b ≤ 7 → accepted_by b.settings.format (latched_report b) ≡ true
unfolding latched_report taken
latched_accepted b p = by_letter b.settings.format (to_show b) _ _ (omega arith) (limited_within _ _) (limited_within _ _) (lettered b.settings.format)

-- and so is U's second pair
pub second_within : (v : ℤ) → within (second_range FiveByte) (limited (letter_of FiveByte) v) ≡ true
unfolding limits
second_within v =
    wider (limits (letter_of FiveByte)) (second_range FiveByte) (limited (letter_of FiveByte) v) refl refl (limited_within (letter_of FiveByte) v)

pub second_accepted : (t : Track) → accepted_by (letter_of FiveByte) (second_only (taken (letter_of FiveByte) t)) ≡ true
unfolding accepted_by named_by taken
second_accepted t =
    let m = movement (letter_of FiveByte) t in
    parts_accepted FiveByte (second_only (taken (letter_of FiveByte) t))
    (record { pressed = omega arith; moved = record { x = refl; y = refl; second_x = second_within m.x; second_y = second_within m.y } })

-- the bytes by a letter are as many as the size by it
length_in : (letter : ℕ) (r : Report) → Lettered letter → length (bytes_by letter r) ≡ size_by letter
unfolding bytes_by size_by
length_in letter r (named f e) = rw (e, letter_named f) (bytes_length f r)
length_in letter r (unnamed e none) = rw e

pub bytes_by_length : (letter : ℕ) (r : Report) → length (bytes_by letter r) ≡ size_by letter
bytes_by_length letter r = length_in letter r (lettered letter)

-- an accepted report is written to a buffer of five zeros: its bytes, and zeros behind them
abbrev blank : List ℕ
blank = five []

five_bytes : (f : Format) (r : Report) → bytes_of f r ++ drop (size_of f) blank ≡ five (bytes_of f r)
unfolding bytes_s bytes_v rows_v bytes_a bytes_b rows_a bytes_u bytes_t bytes_w rows_w
five_bytes Mm r = refl
five_bytes Microsoft r = refl
five_bytes Absolute r = refl
five_bytes Relative r = refl
five_bytes FiveByte r = refl
five_bytes ThreeByte r = refl
five_bytes Hexadecimal r = refl

known_bytes : (f : Format) (r : Report) → accepted f r ≡ true → (encode_in (Some f) r blank).buffer ≡ five (bytes_of f r)
known_bytes f r a = ap (λ (e : Encoding). e.buffer) (accepts f r blank a (size_small f)) ∙ five_bytes f r

bytes_in : (letter : ℕ) (r : Report) → Lettered letter → accepted_by letter r ≡ true → (encode_of letter r blank).buffer ≡ five (bytes_by letter r)
unfolding accepted_by bytes_by encode_in
bytes_in letter r (named f e) a = rw (e, letter_named f) (known_bytes f r (rw (e, letter_named f) at a))
bytes_in letter r (unnamed e none) a = rw e

pub encoded_bytes : (letter : ℕ) (r : Report) → accepted_by letter r ≡ true → (encode_of letter r blank).buffer ≡ five (bytes_by letter r)
encoded_bytes letter r a = bytes_in letter r (lettered letter) a
