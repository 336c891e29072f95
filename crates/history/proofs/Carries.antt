-- What is going in a box, and what an answer does to it.
use Prim.Native.Nat.{ℕ, ◌≤◌, ◌<◌}
use mathlib.Core.Path.{◌≡◌, ◌∙◌}
use mathlib.Core.List.{List, [], ◌∷◌, ◌++◌}
use native.Mathlib.Omega.{arith}
use lib.ListN.{length, get_or, get_or-append}
use lib.Seq.{get_or-take}
use Rattle.frames.specs.Passages.{UnderWay, nothing, first, passage_words, part_words}
use Rattle.frames.specs.Sender.{Told}
use Rattle.wire.specs.Table.{five}
use Rattle.wire.specs.Reading.{at}
use Rattle.wire.specs.Messages.{Message, report, reply, message_bytes}
use Rattle.wire.proofs.Front.{size_between}
use Rattle.wire.proofs.Codec.{bytes_length}
use Rattle.ballbox.specs.Box.{dormant}
use Rattle.ballbox.specs.Box as box
use Rattle.ballbox.specs.declared.BallBox.{BallBox}
use Rattle.history.specs.Carried.{Sendable, Rightly, Carries}

pub at_most_five : (b : BallBox) (m : Message) → Sendable b m → length (message_bytes m) ≤ 5
at_most_five b (report l) s = omega (arith, bytes_length l.format l.report, (size_between l.format).1)
at_most_five b (reply bytes) s = omega arith

-- a box with the format and the sleep of another
pub record Alike (b c : BallBox) : Type 0 where
  pub format : c.settings.format ≡ b.settings.format
  pub dormant : dormant c ≡ dormant b

still_sendable : (m : Message) (b c : BallBox) → c.settings.format ≡ b.settings.format → Sendable b m → Sendable c m
still_sendable (report l) b c e s = (e ∙ s.0, s.1)
still_sendable (reply bytes) b c e s = s

pub still_rightly : (n k : ℕ) (m : Message) (b c : BallBox) → Alike b c → k < length (message_bytes m) → Rightly b n m → Rightly c k m
still_rightly n k m b c a l h = record { left = l; sendable = still_sendable m b c a.format h.sendable; awake = a.dormant ∙ h.awake }

-- with the same line too it carries the same
pub same_line : (g : UnderWay Message) (b c : BallBox) → c.going ≡ b.going → Alike b c → Carries b g → Carries c g
same_line nothing b c l a h = rw l h
same_line (first n m) b c l a h = (l ∙ h.0, still_rightly n n m b c a h.1.left h.1)

-- a byte of some that are held in five places
pub at_five : (bytes : List ℕ) (n : ℕ) → n < length bytes → length bytes ≤ 5 → at n (five bytes) ≡ get_or bytes n 0
at_five bytes n h k =
    let l : n < 5 = omega arith in
    rw (get_or-take 5 (bytes ++ (0 ∷ 0 ∷ 0 ∷ 0 ∷ 0 ∷ [])) n 0) (get_or-append bytes (0 ∷ 0 ∷ 0 ∷ 0 ∷ 0 ∷ []) 0 n h)

-- what an answer of the box does to the line
pub record Sends (a : box.Step) (g : UnderWay Message) (t : Told Message) : Type 0 where
  pub words : part_words message_bytes g ++ a.words ≡ passage_words message_bytes t.passages ++ part_words message_bytes t.going
  pub carries : Carries a.next t.going
