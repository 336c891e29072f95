-- Latching and sending: a report of which no byte has gone, U's second pair, and one word more.
use Prim.Native.Nat.{ℕ, ◌+◌}
use mathlib.Core.Path.{◌≡◌, refl, sym, ◌∙◌, ap}
use mathlib.Core.Bool.{Bool, true, false, ◌&&◌, and-false}
use mathlib.Core.List.{[], ◌∷◌, ◌++◌, append-nil}
use native.Mathlib.Omega.{arith}
use lib.ListN.{length, take}
use lib.Dec.{eqb, ltb}
use borrow.Author.Tests.{lt-ltb, le-ltb, eqb-true, eqb-false, ne_eqb}
use Rattle.numbers.proofs.Tested.{holds, left, right}
use Rattle.frames.specs.Passages.{UnderWay, nothing, first, part_words}
use Rattle.frames.specs.Sender.{told, sent_one}
use Rattle.frames.proofs.Sender.{sends}
use Rattle.wire.specs.Line.{letter_of, named_by, of_named, known}
use Rattle.wire.specs.Table.{bytes_u}
use Rattle.wire.specs.Reading.{at}
use Rattle.wire.specs.Holds.{accepted, accepted_by}
use Rattle.wire.specs.Messages.{Message, report, reply, message_bytes}
use Rattle.wire.specs.declared.Report.{Report}
use Rattle.wire.specs.declared.Format.{Format}
use Rattle.wire.specs.declared.Format.TheVariants.{Mm, Microsoft, Absolute, Relative, FiveByte, ThreeByte, Hexadecimal}
use Rattle.wire.proofs.Letters.{letter_named}
use Rattle.wire.proofs.Front.{size_between}
use Rattle.wire.proofs.Codec.{bytes_length}
use Rattle.wire.proofs.Codec.Accepted.{parts, parts_accepted}
use Rattle.ballbox.specs.Box.{going_from, dormant}
use Rattle.ballbox.specs.Latching.{movement, taken, with_second, second_latched, latched, latched_report}
use Rattle.ballbox.specs.Events.{bytes_left, wanted, second_now, with_byte_ready, after, next_byte, latching, sending, quietly}
use Rattle.ballbox.specs.Good.{good}
use Rattle.ballbox.specs.declared.BallBox.{BallBox}
use Rattle.ballbox.specs.declared.Going.{Going}
use Rattle.ballbox.specs.declared.Track.{Track}
use Rattle.ballbox.proofs.Letters.{Lettered, named, unnamed, lettered}
use Rattle.ballbox.proofs.Accepting.{second_within, latched_accepted}
use Rattle.ballbox.proofs.Cases.{latching_busy, latching_wanted, latching_idle, sending_byte, sending_silence}
use Rattle.ballbox.proofs.Parts.{letter_known, parts as good_parts, good_shown}
use Rattle.ballbox.proofs.Latches.{latched_bytes}
use Rattle.history.specs.History.{latched_now, begun, format_of, paired_at, paired, with_pair, is_five}
use Rattle.history.specs.Carried.{on_line, Carries}
use Rattle.history.proofs.Carries.{Alike, at_most_five, still_rightly, at_five, Sends}

pub bytes_left_lem : (b : BallBox) (n : ℕ) (m : Message) → Carries b (first n m) → bytes_left b ≡ true
bytes_left_lem b n m h = rw h.0 (lt-ltb n (length (message_bytes m)) h.1.left)

-- what is then left of it
module _ (b : BallBox) (n : ℕ) (m : Message) (h : Carries b (first n m)) where
  left_line : after (on_line (first n m)) ≡ on_line (sent_one message_bytes (first n m)).going
  unfolding after
  left_line = go (eqb (n + 1) (length (message_bytes m))) refl
    where
      go : (t : Bool) → eqb (n + 1) (length (message_bytes m)) ≡ t → after (on_line (first n m)) ≡ on_line (sent_one message_bytes (first n m)).going
      go true e = rw (e, le-ltb (n + 1) (length (message_bytes m)) (omega (arith, eqb-true (n + 1) (length (message_bytes m)) e)))
      go false e =
          let d = eqb-false (n + 1) (length (message_bytes m)) e in
          rw (e, lt-ltb (n + 1) (length (message_bytes m)) (omega (arith, h.1.left)))

  left_carries : (c : BallBox) → c.going ≡ on_line (sent_one message_bytes (first n m)).going → Alike b c → Carries c (sent_one message_bytes (first n m)).going
  left_carries c l a = go (eqb (n + 1) (length (message_bytes m))) refl l
    where
      go : (t : Bool) → eqb (n + 1) (length (message_bytes m)) ≡ t → c.going ≡ on_line (sent_one message_bytes (first n m)).going → Carries c (sent_one message_bytes (first n m)).going
      go true e l = rw e (ap (λ (g : Going). ltb g.sent g.length) (rw e at l))
      go false e l =
          let q = eqb-false (n + 1) (length (message_bytes m)) e in
          rw e (rw e at l, still_rightly n (n + 1) m b c a (omega (arith, h.1.left)) h.1)

  -- the next byte of what is going goes out
  byte_sends : Sends (next_byte b) (first n m) (sent_one message_bytes (first n m))
  unfolding next_byte
  byte_sends =
      let byte = at_five (message_bytes m) n h.1.left (at_most_five b m h.1.sendable) in
      record {
        words =
            ap (λ (w : ℕ). part_words message_bytes (first n m) ++ (w ∷ [])) (ap (λ (k : Going). at k.sent k.bytes) h.0 ∙ byte)
            ∙ sends message_bytes (first n m) h.1.left;
        carries = left_carries _ (ap after h.0 ∙ left_line) (record { format = refl; dormant = refl });
      }

-- the second pair of U is accepted with the first
pub pair_accepted : (t : Track) (r : Report) → accepted FiveByte r ≡ true → accepted FiveByte (with_pair (taken (letter_of FiveByte) t) r) ≡ true
unfolding taken
pair_accepted t r a =
    let p = parts FiveByte r a in
    let v = movement (letter_of FiveByte) t in
    parts_accepted FiveByte (with_pair (taken (letter_of FiveByte) t) r)
    (record {
      pressed = p.pressed;
      moved = record { x = p.moved.x; y = p.moved.y; second_x = second_within v.x; second_y = second_within v.y };
    })

pub five_is : (f : Format) → is_five f ≡ true → f ≡ FiveByte
five_is Mm e = absurd (holds e)
five_is Microsoft e = absurd (holds e)
five_is Absolute e = absurd (holds e)
five_is Relative e = absurd (holds e)
five_is FiveByte e = refl
five_is ThreeByte e = absurd (holds e)
five_is Hexadecimal e = absurd (holds e)

-- where byte 4 of U is to be sent, the second pair is latched
pub record Paired (b c : BallBox) (n : ℕ) (m k : Message) : Type 0 where
  pub carries : Carries c (first n k)
  pub words : take n (message_bytes k) ≡ take n (message_bytes m)

abbrev latched_as : Format → Report → Bool → Message
latched_as f r s = report (record { format = f; report = r; shows = s })

second_latched_lem : (b : BallBox) (r : Report) (s : Bool) → Carries b (first 3 (latched_as FiveByte r s))
    → Paired b (second_latched b) 3 (latched_as FiveByte r s) (latched_as FiveByte (with_pair (taken b.settings.format b.track) r) s)
unfolding second_latched with_second bytes_u
second_latched_lem b r s h =
    let p = taken b.settings.format b.track in
    let k = h.1 in
    record {
      carries = (
        ap (with_second p) h.0,
        record { left = k.left; sendable = (k.sendable.0, rw k.sendable.0 (pair_accepted b.track r k.sendable.1)); awake = k.awake },
      );
      words = refl;
    }

at_byte_four : (b : BallBox) (n : ℕ) (f : Format) (r : Report) (s : Bool) → f ≡ FiveByte → n ≡ 3 → Carries b (first n (latched_as f r s))
    → Paired b (second_latched b) n (latched_as f r s) (latched_as f (with_pair (taken b.settings.format b.track) r) s)
at_byte_four b n f r s e q h = rw (e, q) (second_latched_lem b r s (rw (e, q) at h))

pub pairs : (b : BallBox) (n : ℕ) (m : Message) → Carries b (first n m) → Paired b (with_byte_ready b) n m (paired_at b n m)
unfolding with_byte_ready
pairs b n (report l) h = go (is_five l.format && eqb n 3) refl
  where
    now : second_now b ≡ is_five l.format && eqb n 3
    now = rw (h.1.sendable.0, h.0)

    go : (t : Bool) → is_five l.format && eqb n 3 ≡ t → Paired b (with_byte_ready b) n (report l) (paired_at b n (report l))
    go true e =
        let f = l.format in
        rw (now, e) (at_byte_four b n f l.report l.shows (five_is f (left (is_five f) (eqb n 3) e)) (eqb-true n 3 (right (is_five f) (eqb n 3) e)) h)
    go false e = rw (now, e) (record { carries = h; words = refl })
pairs b n (reply bytes) h =
    let e : second_now b ≡ false = rw (h.0, ne_eqb n 3 (λ q. omega (arith, h.1.left, h.1.sendable))) (and-false (eqb b.settings.format (letter_of FiveByte))) in
    rw e (record { carries = h; words = refl })

-- a byte of what is going goes out, or a silence
pub send_sends : (b : BallBox) (g : UnderWay Message) → Carries b g → Sends (sending b) g (sent_one message_bytes (paired b g))
send_sends b nothing h = rw (sending_silence b h) (record { words = refl; carries = h })
send_sends b (first n m) h =
    let p = pairs b n m h in
    let s = byte_sends (with_byte_ready b) n (paired_at b n m) p.carries in
    rw (sending_byte b (bytes_left_lem b n m h)) (record { words = rw p.words at s.words; carries = s.carries })

-- the format of a good box is one of the table
format_in : (l : ℕ) → Lettered l → known l ≡ true → l ≡ letter_of (of_named FiveByte (λ f. f) (named_by l))
format_in l (named f e) h = rw (e, letter_named f)
format_in l (unnamed e none) h = absurd (holds (sym none ∙ h))

pub known_format : (b : BallBox) → good b ≡ true → b.settings.format ≡ letter_of (format_of b)
known_format b g =
    let s = b.settings in format_in s.format (lettered s.format) (letter_known s (good_parts b g).settings)

accepted_known : (l : ℕ) (f : Format) (r : Report) → l ≡ letter_of f → accepted_by l r ≡ true → accepted f r ≡ true
unfolding accepted_by
accepted_known l f r e a = rw (e, letter_named f) at a

-- a report is latched, and none of its bytes has gone
pub latched_carries : (b : BallBox) → good b ≡ true → dormant b ≡ false → Carries (latched b) (first 0 (report (latched_now b)))
unfolding latched going_from
latched_carries b g d =
    let f = format_of b in
    let r = latched_report b in
    let e = known_format b g in (
      rw (latched_bytes f b e),
      record {
        left = omega (arith, bytes_length f r, (size_between f).0);
        sendable = (e, accepted_known b.settings.format f r e (latched_accepted b (good_shown b g)));
        awake = d;
      },
    )

-- a box that latches
pub latch_sends : (b : BallBox) (g : UnderWay Message) → good b ≡ true → dormant b ≡ false → Carries b g → Sends (quietly (latching b)) g (told [] (begun b g))
latch_sends b (first n m) g d h = rw (latching_busy b (bytes_left_lem b n m h)) (record { words = append-nil (part_words message_bytes (first n m)); carries = h })
latch_sends b nothing g d h = go (wanted b) refl
  where
    go : (t : Bool) → wanted b ≡ t → Sends (quietly (latching b)) nothing (told [] (begun b nothing))
    go true e = rw (e, latching_wanted b h e) (record { words = refl; carries = latched_carries b g d })
    go false e = rw (e, latching_idle b h e) (record { words = refl; carries = h })
