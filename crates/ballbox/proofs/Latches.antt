-- What is latched: its range, its bytes, and that it goes out.
use Prim.Native.Nat.{ℕ}
use mathlib.Core.Path.{◌≡◌, refl, ap, ◌∙◌}
use mathlib.Core.Bool.{true, false, and-false}
use mathlib.Core.List.{List, [], ◌∷◌}
use native.Mathlib.Omega.{arith}
use lib.Dec.{eqb}
use lib.ListN.{length}
use borrow.Author.Tests.{lt-ltb}
use lib.IntN.{pos}
use Rattle.numbers.proofs.Held.{held_same}
use Rattle.numbers.proofs.Tested.{left, right}
use Rattle.wire.specs.Line.{letter_of, named_by}
use Rattle.wire.specs.Table.{five, bytes_of, bytes_by}
use Rattle.wire.specs.Holds.{◌to◌, within}
use Rattle.wire.specs.Reading.{at}
use Rattle.wire.specs.declared.Format.{Format}
use Rattle.wire.specs.declared.Format.TheVariants.{Absolute, FiveByte}
use Rattle.ballbox.specs.Box.{Step, going_from, with_going, dormant}
use Rattle.ballbox.specs.Latching.{limits, limited, movement, taken, latched_report, latched}
use Rattle.ballbox.specs.Events.{bytes_left, wanted, with_byte_ready, next_byte, sending, awake}
use Rattle.ballbox.specs.Good.{on_pad, good}
use Rattle.ballbox.specs.Promises.{sent_words, StepPromise}
use Rattle.ballbox.specs.declared.Event.TheVariants.{Latch, Send}
use Rattle.ballbox.specs.declared.Stepped.{Stepped}
use Rattle.ballbox.specs.declared.Track.{Track}
use Rattle.ballbox.specs.declared.BallBox.{BallBox}
use Rattle.wire.proofs.Letters.{letter_named}
use Rattle.ballbox.proofs.Accepting.{limited_within}
use Rattle.ballbox.proofs.Parts.{parts}
use Rattle.ballbox.proofs.Goodness.{latched_left, step_stays_good}
use Rattle.ballbox.proofs.Cases.{latching_wanted, sending_byte, ready_plain}
use Rattle.ballbox.proofs.Refusals.{awake_step}

-- a movement that is taken, of a first or a second pair, lies in the range of its format
pub taken_range : (letter : ℕ) (t : Track) → (within (limits letter) (taken letter t).x ≡ true) × (within (limits letter) (taken letter t).y ≡ true)
unfolding taken
taken_range letter t = (limited_within letter (movement letter t).x, limited_within letter (movement letter t).y)

pub latched_range : (b : BallBox) → (within (limits b.settings.format) (latched_report b).x1 ≡ true) × (within (limits b.settings.format) (latched_report b).y1 ≡ true)
unfolding latched_report
latched_range b = taken_range b.settings.format b.track

-- what lies within is taken as it is: in A the position of a good box
pub position_taken : (t : Track) → on_pad t.position ≡ true → taken (letter_of Absolute) t ≡ t.position
unfolding taken movement limited limits
position_taken t h =
    let p = t.position in
    let x = held_same (pos 0) (pos 4095) p.x (left (within (pos 0 to pos 4095) p.x) (within (pos 0 to pos 4095) p.y) h) in
    let y = held_same (pos 0) (pos 4095) p.y (right (within (pos 0 to pos 4095) p.x) (within (pos 0 to pos 4095) p.y) h) in
    λ i. record { x = x i; y = y i }

-- the bytes are those of the table
pub latched_bytes : (f : Format) (b : BallBox) → b.settings.format ≡ letter_of f → bytes_by b.settings.format (latched_report b) ≡ bytes_of f (latched_report b)
unfolding bytes_by
latched_bytes f b e = rw (ap named_by e ∙ letter_named f)

-- nothing of it is sent: its first byte goes out, and U's second pair is still to come
pub first_plain : (b : BallBox) → b.going.sent ≡ 0 → with_byte_ready b ≡ b
first_plain b z = ready_plain b (rw z (and-false (eqb b.settings.format (letter_of FiveByte))))

begins : (b : BallBox) → bytes_left b ≡ true → b.going.sent ≡ 0 → (sending b).words ≡ at 0 b.going.bytes ∷ []
unfolding next_byte
begins b l z =
    ap (λ (a : Step). a.words) (sending_byte b l) ∙
    (ap (λ (x : BallBox). (next_byte x).words) (first_plain b z) ∙ ap (λ (k : ℕ). at k b.going.bytes ∷ []) z)

-- what is going goes out from its first byte
send_first : (b : BallBox) (w : ℕ) (ws : List ℕ) → (sending (with_going (going_from (w ∷ ws)) b)).words ≡ w ∷ []
unfolding going_from
send_first b w ws = begins (with_going (going_from (w ∷ ws)) b) (lt-ltb 0 (length (w ∷ ws)) (omega arith)) refl

pub first_sent : (b : BallBox) (r : Stepped) (w : ℕ) (ws : List ℕ) → good b ≡ true → dormant b ≡ false → b.going ≡ going_from (w ∷ ws) → StepPromise b Send r → sent_words r ≡ w ∷ []
unfolding awake
first_sent b r w ws g d e s =
    let same : b ≡ with_going (going_from (w ∷ ws)) b = λ i. record { settings = b.settings; track = b.track; going = e i; memory = b.memory; sums = b.sums; due = b.due; dormant = b.dormant } in
    ap (λ (a : Step). a.words) (awake_step b Send r s g refl d) ∙ (ap (λ (x : BallBox). (sending x).words) same ∙ send_first b w ws)

-- a report that is wanted is latched by Latch, and its first byte goes out with Send
first_of_five : (bytes : List ℕ) → at 0 (five bytes) ≡ at 0 bytes
first_of_five [] = refl
first_of_five (b ∷ bytes) = refl

pub report_begins : (f : Format) (b : BallBox) (r : Stepped) → good b ≡ true → dormant b ≡ false → b.settings.format ≡ letter_of f → bytes_left b ≡ false → wanted b ≡ true → (p : Stepped) → StepPromise b Latch p → StepPromise p.next Send r →
    sent_words r ≡ at 0 (bytes_of f (latched_report b)) ∷ []
unfolding awake latched going_from
report_begins f b r g d e l w p q s =
    let bytes = bytes_by b.settings.format (latched_report b) in
    let next : p.next ≡ latched b = ap (λ (a : Step). a.next) (awake_step b Latch p q g refl d) ∙ latching_wanted b l w in
    let k : good p.next ≡ true = step_stays_good b Latch p q g in
    ap (λ (a : Step). a.words) (awake_step p.next Send r s k refl (ap dormant next ∙ d)) ∙
    (ap (λ (x : BallBox). (sending x).words) next ∙
    (begins (latched b) (latched_left b (parts b g)) refl ∙
    ap (λ (k : ℕ). k ∷ []) (first_of_five bytes ∙ ap (at 0) (latched_bytes f b e))))
