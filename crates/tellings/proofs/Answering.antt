-- The replies of a good box, read by a reader that was told: "Only the seven `f` bytes and the `t` pairs of a known format and mode are accepted".
use Rattle.std.proofs.Common.{Some}
use Prim.Native.Nat.{ℕ, ◌≤◌}
use mathlib.Core.Path.{◌≡◌, refl, sym, ◌∙◌, ap}
use mathlib.Core.Bool.{Bool, true, false}
use mathlib.Core.List.{List, [], ◌∷◌}
use native.Mathlib.Nat.{mod-eq_of_lt}
use native.Mathlib.Omega.{arith}
use lib.Dec.{T, eqb, leb, ltb, lit<, lit≤}
use borrow.Author.Tests.{eqb-true, leb-true, le-leb}
use Rattle.numbers.proofs.Choices.{or_else, both}
use Rattle.numbers.proofs.Tested.{holds}
use Rattle.frames.specs.Passages.{SoundPart}
use Rattle.frames.specs.Words.{is_byte}
use Rattle.wire.specs.Line.{letter_of, named_by, known}
use Rattle.wire.specs.Messages.{message_bytes}
use Rattle.wire.specs.declared.Format.{Format}
use Rattle.wire.specs.declared.Format.TheVariants.{Mm, Microsoft, Absolute, Relative, FiveByte, ThreeByte, Hexadecimal}
use Rattle.wire.proofs.Letters.{letter_named}
use Rattle.ballbox.specs.Box.{mode_o, mode_d}
use Rattle.ballbox.specs.Commands.{space, letterf, lettert, byte05, command_of, code_byte, asks_for_reports, obeyed}
use Rattle.ballbox.specs.Commands as box
use Rattle.ballbox.specs.Good.{good}
use Rattle.ballbox.specs.declared.BallBox.{BallBox}
use Rattle.ballbox.proofs.Letters.{Lettered, lettered, named, unnamed}
use Rattle.ballbox.proofs.Parts.{letter_known, mode_known, few, parts}
use Rattle.history.specs.History.{unsent_reply}
use Rattle.history.specs.Carried.{HeldWith}
use Rattle.history.proofs.Carries.{Alike}
use Rattle.history.proofs.Asking.{Hosts, asking_command, asking_alike, asking_reply}
use Rattle.replies.specs.Replying.{code_byte_of, letter_of_code, is_mode, letter_fits, fits, more}
use Rattle.replies.specs.Rules.{reply_to}
use Rattle.tellings.specs.Lines.{asked_for, reply_told}
use Rattle.tellings.specs.Runs.{has_reply, asks_or_tells, answer_of}
use Rattle.replies.specs.declared.Asked.TheVariants.{Command}
use Rattle.replies.specs.declared.Reply.TheVariants as reply
use Rattle.tellings.proofs.Passed.{OfSort, IsReply}

-- each reply, by its bytes
is_ack : IsReply (0x06 ∷ [])
unfolding fits reply_to
is_ack = record { whole = (refl, refl); value = refl; short = omega arith; some = refl; letters = false; alike = ((lit≤ tt, lit< tt), tt) }

is_code : (f : Format) → IsReply (code_byte_of f ∷ [])
unfolding fits reply_to letter_of_code
is_code Mm = record { whole = (refl, refl); value = refl; short = omega arith; some = refl; letters = false; alike = ((lit≤ tt, lit< tt), tt) }
is_code Microsoft = record { whole = (refl, refl); value = refl; short = omega arith; some = refl; letters = false; alike = ((lit≤ tt, lit< tt), tt) }
is_code Absolute = record { whole = (refl, refl); value = refl; short = omega arith; some = refl; letters = false; alike = ((lit≤ tt, lit< tt), tt) }
is_code Relative = record { whole = (refl, refl); value = refl; short = omega arith; some = refl; letters = false; alike = ((lit≤ tt, lit< tt), tt) }
is_code FiveByte = record { whole = (refl, refl); value = refl; short = omega arith; some = refl; letters = false; alike = ((lit≤ tt, lit< tt), tt) }
is_code ThreeByte = record { whole = (refl, refl); value = refl; short = omega arith; some = refl; letters = false; alike = ((lit≤ tt, lit< tt), tt) }
is_code Hexadecimal = record { whole = (refl, refl); value = refl; short = omega arith; some = refl; letters = false; alike = ((lit≤ tt, lit< tt), tt) }

pub is_letters : (f m : ℕ) → known f ≡ true → is_mode m ≡ true → OfSort true f → OfSort true m → IsReply (f ∷ m ∷ [])
unfolding fits reply_to letter_fits more
is_letters f m k h i j =
    record {
      whole = (both (is_byte f) (known f) (le-leb f 255 (omega arith)) k, refl, (both (is_byte m) (is_mode m) (le-leb m 255 (omega arith)) h, refl));
      value = refl;
      short = omega arith;
      some = refl;
      letters = true;
      alike = (i, (j, tt));
    }

is_buttons : (n : ℕ) → n ≤ 7 → IsReply (n ∷ 0 ∷ 0 ∷ [])
unfolding fits reply_to more
is_buttons n h =
    record {
      whole = (both (is_byte n) true (le-leb n 255 (omega arith)) refl, refl, (refl, refl, (refl, refl)));
      value = refl;
      short = omega arith;
      some = refl;
      letters = false;
      alike = ((omega arith, omega arith), ((lit≤ tt, lit< tt), ((lit≤ tt, lit< tt), tt)));
    }

-- letters are of the sort of letters
letter_sort : (f : Format) → OfSort true (letter_of f)
letter_sort Mm = (lit≤ tt, lit< tt)
letter_sort Microsoft = (lit≤ tt, lit< tt)
letter_sort Absolute = (lit≤ tt, lit< tt)
letter_sort Relative = (lit≤ tt, lit< tt)
letter_sort FiveByte = (lit≤ tt, lit< tt)
letter_sort ThreeByte = (lit≤ tt, lit< tt)
letter_sort Hexadecimal = (lit≤ tt, lit< tt)

-- the format that a known letter names
pub format_of : (l : ℕ) → known l ≡ true → (f : Format) × (l ≡ letter_of f)
format_of l k = go (lettered l)
  where
    go : Lettered l → (f : Format) × (l ≡ letter_of f)
    go (named f e) = (f, e)
    go (unnamed n u) = absurd (holds (sym u ∙ k))

known_sort : (l : ℕ) → known l ≡ true → OfSort true l
known_sort l k = let (f, e) = format_of l k in rw e (letter_sort f)

same_sort : (n m : ℕ) → OfSort true n → eqb m n ≡ true → OfSort true m
same_sort n m h e = rw (eqb-true m n e) h

mode_sort : (m : ℕ) → is_mode m ≡ true → OfSort true m
mode_sort m =
    or_else _ _
    (or_else _ _
    (or_else _ _ (or_else _ _ (or_else _ _ (or_else _ _ (or_else _ _ (or_else _ _ (a_letter 0x4A tt tt) (a_letter 0x4B tt tt)) (a_letter 0x4C tt tt)) (a_letter 0x52 tt tt)) (a_letter 0x4D tt tt)) (a_letter 0x51 tt tt)) (a_letter 0x4E tt tt))
    (a_letter mode_o tt tt))
    (a_letter mode_d tt tt)
  where
    a_letter : (n : ℕ) → T (leb 0x40 n) → T (ltb n 0x80) → eqb m n ≡ true → OfSort true m
    a_letter n h k = same_sort n m (lit≤ h, lit< k)

pub code_is : (f : Format) → code_byte (letter_of f) ≡ code_byte_of f
unfolding code_byte
code_is f = rw (letter_named f)

-- the commands that have a reply
pub data Asks (byte : ℕ) : Type 0 where
  a_space : byte ≡ space → Asks byte
  an_f : byte ≡ letterf → Asks byte
  a_t : byte ≡ lettert → Asks byte
  a_05 : byte ≡ byte05 → Asks byte

pub asks_by : (byte : ℕ) → has_reply byte ≡ true → Asks byte
unfolding reply_to
asks_by byte h = go (eqb byte space) refl (eqb byte letterf) refl (eqb byte lettert) refl (eqb byte byte05) refl
  where
    go : (p : Bool) → eqb byte space ≡ p → (q : Bool) → eqb byte letterf ≡ q → (r : Bool) → eqb byte lettert ≡ r → (t : Bool) → eqb byte byte05 ≡ t → Asks byte
    go true p q y r z t w = a_space (eqb-true byte space p)
    go false p true y r z t w = an_f (eqb-true byte letterf y)
    go false p false y true z t w = a_t (eqb-true byte lettert z)
    go false p false y false z true w = a_05 (eqb-true byte byte05 w)
    go false p false y false z false w = absurd (holds (rw (p, y, z, w) at h))

-- they leave the box awake and in its format, and a reply to be sent
asks_alike : (b : BallBox) (byte : ℕ) → Asks byte → Alike b (obeyed (command_of byte) b)
unfolding obeyed command_of known named_by
asks_alike b byte (a_space e) = rw e (record { format = refl; dormant = refl })
asks_alike b byte (an_f e) = rw e (record { format = refl; dormant = refl })
asks_alike b byte (a_t e) = rw e (record { format = refl; dormant = refl })
asks_alike b byte (a_05 e) = rw e (record { format = refl; dormant = refl })

pub asks_reply : (b : BallBox) (byte : ℕ) → good b ≡ true → Asks byte → IsReply (box.reply_to b (command_of byte))
unfolding command_of known named_by
asks_reply b byte g (a_space e) = rw e is_ack
asks_reply b byte g (an_f e) =
    let (h, same) = format_of b.settings.format (letter_known b.settings (parts b g).settings) in
    rw e (rw (same, code_is h) (is_code h))
asks_reply b byte g (a_t e) =
    let s = (parts b g).settings in
    let k = letter_known b.settings s in
    let m = mode_known b.settings s in
    rw e (is_letters b.settings.format b.settings.mode k m (known_sort b.settings.format k) (mode_sort b.settings.mode m))
asks_reply b byte g (a_05 e) = rw e (is_buttons b.settings.buttons (leb-true b.settings.buttons 7 (few b.settings (parts b g).settings)))

unsent_sound : (f : Format) (bytes : List ℕ) → IsReply bytes → SoundPart message_bytes (HeldWith IsReply f) (unsent_reply bytes)
unsent_sound f [] r = tt
unsent_sound f (b ∷ bytes) r = (r, omega arith)

-- the telling that it answers
code_not_ack : (f : Format) → eqb (code_byte_of f) 0x06 ≡ false
code_not_ack Mm = refl
code_not_ack Microsoft = refl
code_not_ack Absolute = refl
code_not_ack Relative = refl
code_not_ack FiveByte = refl
code_not_ack ThreeByte = refl
code_not_ack Hexadecimal = refl

pub asks_for : (b : BallBox) (byte : ℕ) → good b ≡ true → Asks byte → asked_for (box.reply_to b (command_of byte)) ≡ Command byte
unfolding command_of known named_by
asks_for b byte g (a_space e) = rw e
asks_for b byte g (an_f e) =
    let (h, same) = format_of b.settings.format (letter_known b.settings (parts b g).settings) in
    rw e (rw (same, code_is h, code_not_ack h))
asks_for b byte g (a_t e) = rw e
asks_for b byte g (a_05 e) = rw e

-- and what it tells
letter_again : (f : Format) → letter_of_code (code_byte_of f) ≡ letter_of f
unfolding letter_of_code
letter_again Mm = refl
letter_again Microsoft = refl
letter_again Absolute = refl
letter_again Relative = refl
letter_again FiveByte = refl
letter_again ThreeByte = refl
letter_again Hexadecimal = refl

pub asks_told : (b : BallBox) (byte : ℕ) → good b ≡ true → Asks byte → reply_told (box.reply_to b (command_of byte)) ≡ Some (answer_of b byte)
unfolding command_of known named_by
asks_told b byte g (a_space e) = rw e
asks_told b byte g (an_f e) =
    let (h, same) = format_of b.settings.format (letter_known b.settings (parts b g).settings) in
    rw e (rw (same, code_is h, code_not_ack h, letter_again h))
asks_told b byte g (a_t e) = rw e
asks_told b byte g (a_05 e) =
    let small : b.settings.buttons ≤ 7 = leb-true b.settings.buttons 7 (few b.settings (parts b g).settings) in
    rw e (ap (λ (n : ℕ). Some (reply.Buttons n)) (mod-eq_of_lt (omega arith)))

-- the host bytes of a run with replies
pub with_replies : Hosts IsReply asks_or_tells
with_replies =
    record {
      stays = λ b byte t.
          or_else (asks_for_reports byte) (has_reply byte) (λ a. asking_alike b (command_of byte) (asking_command byte a)) (λ h. asks_alike b byte (asks_by byte h)) t;
      leaves = λ f b byte g t.
          or_else (asks_for_reports byte) (has_reply byte) (λ a. rw (asking_reply b (command_of byte) (asking_command byte a)) tt) (λ h. unsent_sound f (box.reply_to b (command_of byte)) (asks_reply b byte g (asks_by byte h))) t;
    }
