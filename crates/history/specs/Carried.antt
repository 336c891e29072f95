-- What is going in a box, as the history tells it; and a box that is set to a format, with this going.
use Rattle.std.specs.Prelude.{ℕ, ◌≤◌, ◌<◌, ◌≡◌, true, false, List, [], ◌∷◌, length, take}
use Rattle.frames.specs.Passages.{UnderWay, nothing, first, SoundPart}
use Rattle.wire.specs.Line.{letter_of}
use Rattle.wire.specs.Table.{five}
use Rattle.wire.specs.Holds.{accepted}
use Rattle.wire.specs.Messages.{Message, report, reply, message_bytes, HeldBy}
use Rattle.wire.specs.declared.Format.{Format}
use Rattle.ballbox.specs.Box.{dormant}
use Rattle.ballbox.specs.Box as box
use Rattle.ballbox.specs.Presses.{remembered, showing}
use Rattle.ballbox.specs.Events.{bytes_left}
use Rattle.ballbox.specs.Good.{good}
use Rattle.ballbox.specs.declared.BallBox.{BallBox}
use Rattle.ballbox.specs.declared.Going.{Going}

-- the box's bytes for it
abbrev pub on_line : UnderWay Message → Going
on_line nothing = box.nothing
on_line (first n m) = record { length = length (message_bytes m); sent = n; bytes = five (message_bytes m) }

-- a report of the format that is set, which it holds; a reply of at most three bytes
abbrev pub Sendable : BallBox → Message → Type 0
Sendable b (report l) = (b.settings.format ≡ letter_of l.format) × (accepted l.format l.report ≡ true)
Sendable b (reply bytes) = length bytes ≤ 3

-- bytes of it are left, and the box is awake
pub record Rightly (b : BallBox) (n : ℕ) (m : Message) : Type 0 where
  pub left : n < length (message_bytes m)
  pub sendable : Sendable b m
  pub awake : dormant b ≡ false

-- this is going in the box: it has no bytes left, or just these
abbrev pub Carries : BallBox → UnderWay Message → Type 0
Carries b nothing = bytes_left b ≡ false
Carries b (first n m) = (b.going ≡ on_line (first n m)) × Rightly b n m

-- the report that is going shows the first state that is remembered, or none
abbrev pub Showing : BallBox → UnderWay Message → Type 0
Showing b nothing = showing b.memory ≡ false
Showing b (first n (report l)) = (showing b.memory ≡ l.shows) × (l.shows ≡ true → take 1 (remembered b.memory) ≡ l.report.buttons ∷ [])
Showing b (first n (reply bytes)) = showing b.memory ≡ false

-- a good box, and what is going in it
pub record Carrying (b : BallBox) (g : UnderWay Message) : Type 0 where
  pub good : good b ≡ true
  pub carries : Carries b g
  pub showing : Showing b g

-- the box is set to f, good and awake, and this, which passes a test, is going
pub record SetOf (f : Format) (T : Message → Type 0) (b : BallBox) (g : UnderWay Message) : Type 0 where
  pub good : good b ≡ true
  pub awake : dormant b ≡ false
  pub format : b.settings.format ≡ letter_of f
  pub carries : Carries b g
  pub sound : SoundPart message_bytes T g

-- such a test: a report that f holds, or a reply that passes another; where reports alone are asked for there are no
-- replies
abbrev pub HeldWith : (List ℕ → Type 0) → Format → Message → Type 0
HeldWith P f (report l) = HeldBy f (report l)
HeldWith P f (reply bytes) = P bytes

abbrev pub SetWith : (List ℕ → Type 0) → Format → BallBox → UnderWay Message → Type 0
SetWith P f b g = SetOf f (HeldWith P f) b g

abbrev pub SetTo : Format → BallBox → UnderWay Message → Type 0
SetTo f b g = SetWith (λ _. ⊥) f b g
